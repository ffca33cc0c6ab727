-- What the proofs of the list rule share: tests and counts.
-- Assumes nothing.
use mathlib.Core.Path.{◌≡◌, refl, ap}
use mathlib.Core.Bool.{Bool, true, false, ◌&&◌}
use mathlib.Core.Logic.{◌≢◌}
use mathlib.Core.List.{List, [], ◌∷◌}
use Prim.Native.Nat.{ℕ, zero, suc, ◌+◌, ◌≤◌, ◌<◌}
use native.Mathlib.Nat.{zero-add, not-suc-le-zero}
use native.Mathlib.Numerals.{add-one}
use native.Mathlib.Omega.{arith}
use native.Mathlib.Decide.{ℕ_discrete}
use lib.ListN.{length}
use borrow.Author.Rules.{rules}
use borrow.Author.Tests.{le-ltb, lt-ltb, le-leb, lt-leb, eq-eqb, ne_eqb}
use Rattle.lists.specs.Pick.{pick, pick_true, pick-false, pick_ind}
use Rattle.lists.specs.Span.{span, span-length}
use Rattle.lists.specs.Fold.{count, count-snoc}
use Rattle.lists.specs.Count.{count_same}

-- a definition's tests, settled from what a branch showed
pub ruleset tests = (rules, le-ltb, lt-ltb, le-leb, lt-leb, eq-eqb, ne_eqb)

pub both_false : (b : Bool) → b && false ≡ false
both_false true = refl
both_false false = refl

-- what a test adds to a count
pub adds_one : (b : Bool) → b ≡ true → pick {A = ℕ} b 1 0 ≡ 1
adds_one b e = pick_true b 1 0 e

pub adds_none : (b : Bool) → b ≡ false → pick {A = ℕ} b 1 0 ≡ 0
adds_none b e = pick-false b 1 0 e

pub adds-small : (b : Bool) → pick {A = ℕ} b 1 0 ≤ 1
adds-small b = pick_ind (λ n. n ≤ 1) b 1 0 (λ e. omega arith) (λ e. omega arith)

count-suc : (f : ℕ → Bool) (v : ℕ) → count f (span 0 (suc v)) ≡ count f (span 0 v) + pick (f v) 1 0
count-suc f v = rw (count-snoc, zero-add)

pub count-more : (f : ℕ → Bool) (v : ℕ) → count f (span 0 (v + 1)) ≡ count f (span 0 v) + pick (f v) 1 0
count-more f v = rw add-one (count-suc f v)

count-length : {A : Type 0} (f : A → Bool) (xs : List A) → count f xs ≤ length xs
unfolding count
count-length f [] = omega arith
count-length f (x ∷ xs) = pick_ind (λ n. n + count f xs ≤ suc (length xs)) (f x) 1 0 (λ e. omega (arith, count-length f xs)) (λ e. omega (arith, count-length f xs))

pub count-within : (f : ℕ → Bool) (n : ℕ) → count f (span 0 n) ≤ n
count-within f n = rw span-length at (count-length f (span 0 n))

-- a test that comes to pass at v alone counts there
pub count-change : (f g : ℕ → Bool) (n v : ℕ) → v < n → ((u : ℕ) → u ≢ v → g u ≡ f u) → f v ≡ false → count g (span 0 n) ≡ count f (span 0 n) + pick (g v) 1 0
count-change f g zero v h same none = absurd (not-suc-le-zero h)
count-change f g (suc n) v h same none = go (ℕ_discrete n v) (λ l. count-change f g n v l same none)
  where
    go : Dec (n ≡ v) → (v < n → count g (span 0 n) ≡ count f (span 0 n) + pick (g v) 1 0) → count g (span 0 (suc n)) ≡ count f (span 0 (suc n)) + pick (g v) 1 0
    go (yes e) more =
        rw (← e) (omega (arith, count-suc f n, count-suc g n, adds_none (f n) (rw e none), count_same g f n (λ u l. same u (λ z. omega arith))))
    go (no e) more = omega (arith, count-suc f n, count-suc g n, ap (λ b. pick {A = ℕ} b 1 0) (same n e), more (omega arith))
