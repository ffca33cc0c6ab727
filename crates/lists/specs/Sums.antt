-- Sums over sums: added, exchanged, compared term by term; the numbers of a run that lie in a window; the largest of a run.
-- Assumes nothing.
use Rattle.std.specs.Prelude.{◌≡◌, refl, ◌⊎◌, Bool, true, false, ◌&&◌, List, [], ◌∷◌, map, ℕ, zero, suc, ◌+◌, ◌*◌, ◌-◌, ◌≤◌, ◌<◌, min, max, leb, ltb}
use Rattle.std.proofs.Common.{sym, ap, ◌∙◌, inl, inr, ⊎_elim, add-zero, add-suc, suc-add, zero-add, arith, leb-true, leb-false, ltb-true, ltb-false}
use Rattle.std.proofs.Math.Decide.{ℕ_discrete}
use Rattle.lists.specs.Pick.{pick}
use Rattle.lists.specs.Span.{span}
use Rattle.lists.specs.Fold.{sum_of, count, top}

-- 1 for a test that passes, else 0
abbrev pub bit : Bool → ℕ
bit b = pick b 1 0

pub sum-zero {ℓ} : {A : Type ℓ} (xs : List A) → sum_of (λ (x : A). 0) xs ≡ 0
unfolding sum_of
sum-zero [] = refl
sum-zero (x ∷ xs) = omega (arith, sum-zero xs)

pub sum-add {ℓ} : {A : Type ℓ} (f g : A → ℕ) (xs : List A) → sum_of (λ x. f x + g x) xs ≡ sum_of f xs + sum_of g xs
unfolding sum_of
sum-add f g [] = refl
sum-add f g (x ∷ xs) = omega (arith, sum-add f g xs)

-- what a table holds, summed by rows and by columns
pub sum-swap {ℓ κ} : {A : Type ℓ} {B : Type κ} (f : A → B → ℕ) (xs : List A) (ys : List B)
    → sum_of (λ x. sum_of (f x) ys) xs ≡ sum_of (λ y. sum_of (λ x. f x y) xs) ys
unfolding sum_of
sum-swap f [] ys = sym (sum-zero ys)
sum-swap f (x ∷ xs) ys = omega (arith, sum-swap f xs ys, sum-add (f x) (λ y. sum_of (λ x. f x y) xs) ys)

-- a count is a sum of ones
pub count-sum {ℓ} : {A : Type ℓ} (f : A → Bool) (xs : List A) → count f xs ≡ sum_of (λ x. bit (f x)) xs
unfolding count sum_of
count-sum f [] = refl
count-sum f (x ∷ xs) = omega (arith, count-sum f xs)

-- terms that are no larger have no larger sum
pub sum-le : (f g : ℕ → ℕ) (a n : ℕ) → ((i : ℕ) → a ≤ i → i < a + n → f i ≤ g i) → sum_of f (span a n) ≤ sum_of g (span a n)
unfolding sum_of span
sum-le f g a zero h = omega arith
sum-le f g a (suc n) h = omega (arith, h a (omega arith) (omega arith), sum-le f g (suc a) n (λ i l m. h i (omega arith) (omega arith)))

-- equal terms have equal sums
pub sum_same : (f g : ℕ → ℕ) (a n : ℕ) → ((i : ℕ) → a ≤ i → i < a + n → f i ≡ g i) → sum_of f (span a n) ≡ sum_of g (span a n)
sum_same f g a n h = omega (arith, sum-le f g a n (λ i l m. omega (arith, h i l m)), sum-le g f a n (λ i l m. omega (arith, h i l m)))

-- a number for each of a run
pub sum-each : (k a n : ℕ) → sum_of (λ (i : ℕ). k) (span a n) ≡ n * k
unfolding sum_of span
sum-each k a zero = omega arith
sum-each k a (suc n) = omega (arith, sum-each k (suc a) n)

-- a number is in the window and counts 1, or is outside and counts 0
window-view : (s t q : ℕ)
    → ((s ≤ q) × (q < s + t) × (bit (leb s q && ltb q (s + t)) ≡ 1)) ⊎ (((q < s) ⊎ (s + t ≤ q)) × (bit (leb s q && ltb q (s + t)) ≡ 0))
unfolding pick
window-view s t q = go (leb s q) (ltb q (s + t)) refl refl
  where
    go : (a b : Bool) → leb s q ≡ a → ltb q (s + t) ≡ b
        → ((s ≤ q) × (q < s + t) × (bit (a && b) ≡ 1)) ⊎ (((q < s) ⊎ (s + t ≤ q)) × (bit (a && b) ≡ 0))
    go true true e f = inl (leb-true s q e, ltb-true q (s + t) f, refl)
    go true false e f = inr (inr (ltb-false q (s + t) f), refl)
    go false b e f = inr (inl (leb-false s q e), refl)

-- of n numbers from a, those of the t numbers from s
pub window-sum : (s t a n : ℕ) → sum_of (λ q. bit (leb s q && ltb q (s + t))) (span a n) ≡ min (s + t) (a + n) - max s a
unfolding sum_of span
window-sum s t a zero = omega arith
window-sum s t a (suc n) =
    let more = window-sum s t (suc a) n in
    ⊎_elim (λ w. omega arith) (λ w. ⊎_elim (λ u. omega arith) (λ u. omega arith) w.0) (window-view s t a)

pub top-none : (f : ℕ → ℕ) (a : ℕ) → top (map f (span a 0)) ≡ 0
unfolding top span
top-none f a = refl

pub top-snoc : (f : ℕ → ℕ) (a n : ℕ) → top (map f (span a (suc n))) ≡ max (top (map f (span a n))) (f (a + n))
unfolding top span
top-snoc f a zero = rw add-zero (omega arith)
top-snoc f a (suc n) = rw (add-suc, ← suc-add) (omega (arith, top-snoc f (suc a) n))

pub top-last : (f : ℕ → ℕ) (n : ℕ) → top (map f (span 0 (suc n))) ≡ max (top (map f (span 0 n))) (f n)
top-last f n = top-snoc f 0 n ∙ rw zero-add

-- each of a run is at most the largest
pub top-run-over : (f : ℕ → ℕ) (a n v : ℕ) → a ≤ v → v < a + n → f v ≤ top (map f (span a n))
unfolding top span
top-run-over f a zero v l m = absurd (omega arith)
top-run-over f a (suc n) v l m =
    elim (ℕ_discrete a v) [
      | yes q ↦ omega (arith, ap f q)
      | no q ↦ omega (arith, top-run-over f (suc a) n v (omega arith) (omega arith))
    ]

pub top-each : (f : ℕ → ℕ) (n v : ℕ) → v < n → f v ≤ top (map f (span 0 n))
top-each f n v l = top-run-over f 0 n v (omega arith) (omega arith)

-- and what each is at most, the largest is
pub top-run-le : (f : ℕ → ℕ) (a n k : ℕ) → ((v : ℕ) → a ≤ v → v < a + n → f v ≤ k) → top (map f (span a n)) ≤ k
unfolding top span
top-run-le f a zero k h = omega arith
top-run-le f a (suc n) k h =
    omega (arith, h a (omega arith) (omega arith), top-run-le f (suc a) n k (λ v l m. h v (omega arith) (omega arith)))

pub top-under : (f : ℕ → ℕ) (k n : ℕ) → ((v : ℕ) → v < n → f v ≤ k) → top (map f (span 0 n)) ≤ k
top-under f k n h = top-run-le f 0 n k (λ v l m. h v (omega arith))
