-- Counts that are 0, or not, over any list; sums and counts over a run of numbers whose terms differ at one of them.
-- Assumes nothing.
use Rattle.std.specs.Prelude.{◌≡◌, Bool, true, false, ◌≢◌, List, [], ◌∷◌, eqb, length, get_or}
use Rattle.std.proofs.Math.Path.{refl, ap}
use Rattle.std.proofs.Common.{sym, ◌∙◌, arith, not-suc-le-zero, le_of_suc-le-suc, mul-suc, eq-eqb, ne_eqb}
use Prim.Native.Nat.{ℕ, zero, suc, ◌+◌, ◌-◌, ◌*◌, ◌≤◌, ◌<◌, suc-le-suc}
use Rattle.std.proofs.Math.Decide.{ℕ_discrete}
use Rattle.lists.specs.Pick.{pick, pick_true, pick-false}
use Rattle.lists.specs.Span.{span, span-length, span-at}
use Rattle.lists.specs.Fold.{sum_of, count}
use Rattle.lists.specs.Sums.{count-sum}

-- ---- over any list

pub count_none {ℓ} : {A : Type ℓ} (f : A → Bool) (xs : List A) (d : A) → ((i : ℕ) → i < length xs → f (get_or xs i d) ≡ false) → count f xs ≡ 0
unfolding count
count_none f [] d h = refl
count_none f (x ∷ xs) d h =
    omega (arith, pick-false {A = ℕ} (f x) 1 0 (h 0 (omega arith)), count_none f xs d (λ i l. h (suc i) (suc-le-suc l)))

-- where nothing is counted nothing passes
pub none-counted {ℓ} : {A : Type ℓ} (f : A → Bool) (xs : List A) (d : A) → count f xs ≡ 0 → (i : ℕ) → i < length xs → f (get_or xs i d) ≡ false
unfolding count
none-counted f [] d e i l = absurd (not-suc-le-zero l)
none-counted f (x ∷ xs) d e zero l = go (f x) refl
  where
    go : (b : Bool) → f x ≡ b → f x ≡ false
    go true q = absurd (omega (arith, pick_true {A = ℕ} (f x) 1 0 q))
    go false q = q
none-counted f (x ∷ xs) d e (suc i) l = none-counted f xs d (omega arith) i (le_of_suc-le-suc l)

-- where something is counted it has a place
pub count-place {ℓ} : {A : Type ℓ} (f : A → Bool) (xs : List A) (d : A) → 0 < count f xs → (i : ℕ) × (i < length xs) × (f (get_or xs i d) ≡ true)
unfolding count
count-place f [] d h = absurd (not-suc-le-zero h)
count-place f (x ∷ xs) d h = go (f x) refl (count-place f xs d)
  where
    go : (b : Bool) → f x ≡ b → (0 < count f xs → (i : ℕ) × (i < length xs) × (f (get_or xs i d) ≡ true))
        → (i : ℕ) × (i < suc (length xs)) × (f (get_or (x ∷ xs) i d) ≡ true)
    go true q more = (0, omega arith, q)
    go false q more = let t = more (omega (arith, pick-false {A = ℕ} (f x) 1 0 q)) in (suc t.0, suc-le-suc t.1, t.2)

-- and what has a place is counted
pub place-count {ℓ} : {A : Type ℓ} (f : A → Bool) (xs : List A) (d : A) (i : ℕ) → i < length xs → f (get_or xs i d) ≡ true → 0 < count f xs
unfolding count
place-count f [] d i l e = absurd (not-suc-le-zero l)
place-count f (x ∷ xs) d zero l e = omega (arith, pick_true {A = ℕ} (f x) 1 0 e)
place-count f (x ∷ xs) d (suc i) l e = omega (arith, place-count f xs d i (le_of_suc-le-suc l) e)

-- what passes at two places is counted twice
pub twice-counted {ℓ} : {A : Type ℓ} (f : A → Bool) (xs : List A) (d : A) (i j : ℕ) → i < j → j < length xs → f (get_or xs i d) ≡ true → f (get_or xs j d) ≡ true → 2 ≤ count f xs
unfolding count
twice-counted f [] d i j l m p q = absurd (not-suc-le-zero m)
twice-counted f (x ∷ xs) d i zero l m p q = absurd (not-suc-le-zero l)
twice-counted f (x ∷ xs) d zero (suc j) l m p q = omega (arith, pick_true {A = ℕ} (f x) 1 0 p, place-count f xs d j (le_of_suc-le-suc m) q)
twice-counted f (x ∷ xs) d (suc i) (suc j) l m p q =
    omega (arith, twice-counted f xs d i j (le_of_suc-le-suc l) (le_of_suc-le-suc m) p q)

-- ---- over a run of numbers

module _ (f : ℕ → Bool) (a n : ℕ) where
  pub span_none : ((i : ℕ) → a ≤ i → i < a + n → f i ≡ false) → count f (span a n) ≡ 0
  span_none h =
      count_none f (span a n) 0 (λ i l. let in-run : i < n = omega (arith, span-length a n) in rw span-at (h (a + i) (omega arith) (omega arith)))

  pub none-span : count f (span a n) ≡ 0 → (i : ℕ) → a ≤ i → i < a + n → f i ≡ false
  none-span e i l h =
      let at : get_or (span a n) (i - a) 0 ≡ i = span-at a n (i - a) (omega arith) ∙ omega arith in
      rw at at (none-counted f (span a n) 0 e (i - a) (omega (arith, span-length a n)))

module _ (h f : ℕ → ℕ) (v : ℕ) (same : (w : ℕ) → w ≢ v → h w ≡ f w) where
  sum_past : (a n : ℕ) → v < a → sum_of h (span a n) ≡ sum_of f (span a n)
  unfolding sum_of span
  sum_past a zero l = refl
  sum_past a (suc n) l = omega (arith, same a (omega arith), sum_past (suc a) n (omega arith))

  -- terms that differ at v alone
  pub sum_one : (a n : ℕ) → a ≤ v → v < a + n → sum_of h (span a n) + f v ≡ sum_of f (span a n) + h v
  unfolding sum_of span
  sum_one a zero l m = absurd (omega arith)
  sum_one a (suc n) l m =
      elim (ℕ_discrete a v) [
        | yes q ↦ omega (arith, ap h q, ap f q, sum_past (suc a) n (omega arith))
        | no q ↦ omega (arith, same a q, sum_one (suc a) n (omega arith) (omega arith))
      ]

-- tests that differ at v alone
pub count-one : (h f : ℕ → Bool) (v : ℕ) → ((w : ℕ) → w ≢ v → h w ≡ f w) → (n : ℕ) → v < n
    → count h (span 0 n) + pick (f v) 1 0 ≡ count f (span 0 n) + pick (h v) 1 0
count-one h f v same n l =
    omega (
      arith,
      count-sum h (span 0 n),
      count-sum f (span 0 n),
      sum_one (λ w. pick (h w) 1 0) (λ w. pick (f w) 1 0) v (λ w ne. ap (λ b. pick b 1 0) (same w ne)) 0 n (omega arith) (omega arith),
    )

-- a run from 0 has each of its numbers once
pub span-once : (v n : ℕ) → v < n → count (eqb v) (span 0 n) ≡ 1
unfolding pick
span-once v n l =
    omega (
      arith,
      count-one (eqb v) (λ w. false) v (λ w ne. ne_eqb v w (λ e. ne (sym e))) n l,
      span_none (λ w. false) 0 n (λ i a b. refl),
      pick_true {A = ℕ} (eqb v v) 1 0 (eq-eqb v v refl),
    )

-- a term is at most the sum
pub sum-at : (f : ℕ → ℕ) (v a n : ℕ) → a ≤ v → v < a + n → f v ≤ sum_of f (span a n)
unfolding sum_of span
sum-at f v a zero l m = absurd (omega arith)
sum-at f v a (suc n) l m =
    elim (ℕ_discrete a v) [
      | yes q ↦ omega (arith, ap f q)
      | no q ↦ omega (arith, sum-at f v (suc a) n (omega arith) (omega arith))
    ]

-- terms of at most k
pub sum_bound : (f : ℕ → ℕ) (k a n : ℕ) → ((v : ℕ) → a ≤ v → v < a + n → f v ≤ k) → sum_of f (span a n) ≤ k * n
unfolding sum_of span
sum_bound f k a zero h = omega arith
sum_bound f k a (suc n) h =
    omega (arith, mul-suc k n, h a (omega arith) (omega arith), sum_bound f k (suc a) n (λ v l m. h v (omega arith) (omega arith)))
