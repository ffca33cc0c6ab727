-- Counts over a run of numbers from 0: of a test that implies another, of two that agree, and one that counts something.
-- Assumes nothing.
use Rattle.std.specs.Prelude.{◌≡◌, refl, Bool, true, false, ◌⊎◌, ℕ, zero, suc, ◌+◌, ◌≤◌, ◌<◌}
use Rattle.std.proofs.Common.{sym, ◌∙◌, inl, inr, arith, zero-add}
use Rattle.std.proofs.lemmas.Bool.{false≢true}
use Rattle.std.proofs.Math.Decide.{dec_lt}
use Rattle.lists.specs.Pick.{pick}
use Rattle.lists.specs.Span.{span}
use Rattle.lists.specs.Fold.{count, count-snoc}
use Rattle.lists.specs.First.{first_from, first-is}

pub count-last : (f : ℕ → Bool) (n : ℕ) → count f (span 0 (suc n)) ≡ count f (span 0 n) + pick (f n) 1 0
count-last f n = count-snoc f 0 n ∙ rw zero-add

implied : (a b : Bool) → (a ≡ true → b ≡ true) → pick a 1 0 ≤ pick b 1 0
unfolding pick
implied true true h = omega arith
implied true false h = absurd (false≢true (h refl))
implied false b h = omega arith

pub count-le : (f g : ℕ → Bool) (n : ℕ) → ((v : ℕ) → v < n → f v ≡ true → g v ≡ true) → count f (span 0 n) ≤ count g (span 0 n)
unfolding count span
count-le f g zero h = omega arith
count-le f g (suc n) h =
    omega (arith, count-last f n, count-last g n, implied (f n) (g n) (h n (omega arith)), count-le f g n (λ v l. h v (omega arith)))

pub count_same : (f g : ℕ → Bool) (n : ℕ) → ((v : ℕ) → v < n → f v ≡ g v) → count f (span 0 n) ≡ count g (span 0 n)
count_same f g n h = omega (arith, count-le f g n (λ v l e. sym (h v l) ∙ e), count-le g f n (λ v l e. h v l ∙ e))

-- what is counted is there
pub count-some : (f : ℕ → Bool) (n : ℕ) → 0 < count f (span 0 n) → (v : ℕ) × (v < n) × (f v ≡ true)
unfolding count span pick
count-some f zero h = absurd (omega arith)
count-some f (suc n) h = go (f n) refl (count-some f n)
  where
    go : (b : Bool) → f n ≡ b → (0 < count f (span 0 n) → (v : ℕ) × (v < n) × (f v ≡ true)) → (v : ℕ) × (v < suc n) × (f v ≡ true)
    go true e more = (n, omega arith, e)
    go false e more =
        let r = more (omega (arith, rw e at (count-last f n))) in
        (r.0, omega arith, r.2)

-- a number of the run passes, or none does
pub some_or_none : (f : ℕ → Bool) (n : ℕ) → ((v : ℕ) × (v < n) × (f v ≡ true)) ⊎ ((v : ℕ) → v < n → f v ≡ false)
some_or_none f n =
    let k = first_from f n 0 in
    let t = first-is f n 0 in
    elim (dec_lt k n) [ yes h ↦ inl (k, h, t.passes (omega arith)) | no h ↦ inr (λ v l. t.before v (omega arith) (omega arith)) ]
