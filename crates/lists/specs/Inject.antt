-- Counts compared by an injection: what passes one test goes to what passes another, each to a place of its own.
-- Assumes nothing.
use Rattle.std.specs.Prelude.{◌≡◌, refl, Bool, true, false, ◌&&◌, not, ◌≢◌, ℕ, zero, suc, ◌≤◌, ◌<◌, eqb}
use Rattle.std.proofs.Common.{sym, ◌∙◌, arith, eq-eqb, ne_eqb}
use Rattle.std.proofs.Math.Decide.{ℕ_discrete}
use Rattle.lists.specs.Pick.{pick}
use Rattle.lists.specs.Span.{span}
use Rattle.lists.specs.Fold.{count}
use Rattle.lists.specs.Count.{count-last, count_same}

-- a test that passes but at one place
unfoldable pub without : (ℕ → Bool) → ℕ → ℕ → Bool
without f a v = f v && not (eqb v a)

pub without_other : (f : ℕ → Bool) (a v : ℕ) → v ≢ a → without f a v ≡ f v
unfolding without
without_other f a v n = rw (ne_eqb v a n) (kept (f v))
  where
    kept : (b : Bool) → b && true ≡ b
    kept true = refl
    kept false = refl

pub without-same : (f : ℕ → Bool) (a : ℕ) → without f a a ≡ false
unfolding without
without-same f a = rw (eq-eqb a a refl) (lost (f a))
  where
    lost : (b : Bool) → b && false ≡ false
    lost true = refl
    lost false = refl

-- one that passes counts one
pub count-without : (f : ℕ → Bool) (n a : ℕ) → a < n → f a ≡ true → count f (span 0 n) ≡ suc (count (without f a) (span 0 n))
unfolding pick
count-without f zero a l t = absurd (omega arith)
count-without f (suc n) a l t = go (ℕ_discrete n a) (count-without f n a)
  where
    go : Dec (n ≡ a) → (a < n → f a ≡ true → count f (span 0 n) ≡ suc (count (without f a) (span 0 n)))
        → count f (span 0 (suc n)) ≡ suc (count (without f a) (span 0 (suc n)))
    go (yes e) more =
        let one : ◌≡◌ {A = ℕ} (pick (f n) 1 0) 1 = rw (e, t) in
        let none : ◌≡◌ {A = ℕ} (pick (without f a n) 1 0) 0 = rw (e, without-same f a) in
        omega (
          arith,
          count-last f n,
          count-last (without f a) n,
          count_same f (without f a) n (λ v h. sym (without_other f a v (λ q. omega arith))),
        )
    go (no e) more =
        omega (arith, count-last f n, rw (without_other f a n e) at (count-last (without f a) n), more (omega arith) t)

-- no more of n pass f than of m pass g, where each goes to its own place
pub count-inject : (f g : ℕ → Bool) (n m : ℕ) (to : ℕ → ℕ)
    → ((v : ℕ) → v < n → f v ≡ true → (to v < m) × (g (to v) ≡ true))
    → ((v w : ℕ) → v < n → w < n → f v ≡ true → f w ≡ true → to v ≡ to w → v ≡ w)
    → count f (span 0 n) ≤ count g (span 0 m)
unfolding count span pick
count-inject f g zero m to h own = omega arith
count-inject f g (suc n) m to h own = go (f n) refl (λ k into. count-inject f k n m to into (λ v w a b. own v w (omega arith) (omega arith)))
  where
    go : (b : Bool) → f n ≡ b
        → ((k : ℕ → Bool) → ((v : ℕ) → v < n → f v ≡ true → (to v < m) × (k (to v) ≡ true)) → count f (span 0 n) ≤ count k (span 0 m))
        → count f (span 0 (suc n)) ≤ count g (span 0 m)
    go false e more = omega (arith, rw e at (count-last f n), more g (λ v l. h v (omega arith)))
    go true e more =
        omega (
          arith,
          rw e at (count-last f n),
          count-without g m (to n) (h n (omega arith) e).0 (h n (omega arith) e).1,
          more (without g (to n)) (λ v l t. (
            (h v (omega arith) t).0,
            without_other g (to n) (to v) (λ q. omega (arith, own v n (omega arith) (omega arith) t e q)) ∙ (h v (omega arith) t).1,
          )),
        )
