-- Sums, counts, largest elements and folds over a list, and over a run of numbers one longer at its end.
-- Assumes nothing.
use Rattle.std.specs.Prelude.{◌≡◌, refl, Bool, List, [], ◌∷◌, ◌++◌, ℕ, zero, suc, ◌+◌, ◌*◌, ◌≤◌, ◌<◌, max, length, get_or}
use Rattle.std.proofs.Common.{add-zero, add-suc, suc-add, not-suc-le-zero, mul-add, arith}
use Rattle.std.proofs.Math.Decide.{dec_le}
use Rattle.lists.specs.Pick.{pick}
use Rattle.lists.specs.Span.{span}

unfoldable pub sum_of {ℓ} : {A : Type ℓ} → (A → ℕ) → List A → ℕ
sum_of f [] = 0
sum_of f (x ∷ xs) = f x + sum_of f xs

unfoldable pub count {ℓ} : {A : Type ℓ} → (A → Bool) → List A → ℕ
count f [] = 0
count f (x ∷ xs) = pick (f x) 1 0 + count f xs

-- the largest, 0 of none
unfoldable pub top : List ℕ → ℕ
top [] = 0
top (x ∷ xs) = max x (top xs)

unfoldable pub fold {ℓ κ} : {A : Type ℓ} {B : Type κ} → (B → A → B) → B → List A → B
fold f b [] = b
fold f b (x ∷ xs) = fold f (f b x) xs

pub sum-append {ℓ} : {A : Type ℓ} (f : A → ℕ) (xs ys : List A) → sum_of f (xs ++ ys) ≡ sum_of f xs + sum_of f ys
unfolding sum_of
sum-append f [] ys = omega arith
sum-append f (x ∷ xs) ys = omega (arith, sum-append f xs ys)

pub sum-times {ℓ} : {A : Type ℓ} (k : ℕ) (f : A → ℕ) (xs : List A) → sum_of (λ x. k * f x) xs ≡ k * sum_of f xs
unfolding sum_of
sum-times k f [] = omega arith
sum-times k f (x ∷ xs) = omega (arith, sum-times k f xs, mul-add k (f x) (sum_of f xs))

pub sum_ones {ℓ} : {A : Type ℓ} (xs : List A) → sum_of (λ x. 1) xs ≡ length xs
unfolding sum_of
sum_ones [] = refl
sum_ones (x ∷ xs) = omega (arith, sum_ones xs)

pub sum-snoc : (f : ℕ → ℕ) (a n : ℕ) → sum_of f (span a (suc n)) ≡ sum_of f (span a n) + f (a + n)
unfolding sum_of span
sum-snoc f a zero = simp add-zero (omega arith)
sum-snoc f a (suc n) = rw (add-suc, ← suc-add) (omega (arith, sum-snoc f (suc a) n))

pub count-snoc : (f : ℕ → Bool) (a n : ℕ) → count f (span a (suc n)) ≡ count f (span a n) + pick (f (a + n)) 1 0
unfolding count span
count-snoc f a zero = simp add-zero (omega arith)
count-snoc f a (suc n) = rw (add-suc, ← suc-add) (omega (arith, count-snoc f (suc a) n))

pub fold-snoc {ℓ} : {B : Type ℓ} (f : B → ℕ → B) (b : B) (a n : ℕ) → fold f b (span a (suc n)) ≡ f (fold f b (span a n)) (a + n)
unfolding fold span
fold-snoc f b a zero = rw add-zero
fold-snoc f b a (suc n) = rw (add-suc, ← suc-add) (fold-snoc f (f b a) (suc a) n)

pub top-over : (xs : List ℕ) (v : ℕ) → get_or xs v 0 ≤ top xs
unfolding top
top-over [] v = omega arith
top-over (x ∷ xs) zero = omega arith
top-over (x ∷ xs) (suc v) = omega (arith, top-over xs v)

-- the largest of some is one of them
pub top-attained : (xs : List ℕ) → 0 < length xs → (v : ℕ) × (v < length xs) × (get_or xs v 0 ≡ top xs)
unfolding top
top-attained [] l = absurd (not-suc-le-zero l)
top-attained (x ∷ []) l = (0, omega arith, omega arith)
top-attained (x ∷ y ∷ ys) l =
    let t = top-attained (y ∷ ys) (omega arith) in
    elim (dec_le (top (y ∷ ys)) x) [
      | yes h ↦ (0, omega arith, omega arith)
      | no h ↦ (suc t.0, omega arith, omega arith)
    ]
