-- Of the numbers of a run that pass a test, one with the largest rank.
-- Assumes nothing.
use Rattle.std.specs.Prelude.{◌≡◌, refl, Bool, true, false, ◌⊎◌, ℕ, zero, suc, ◌≤◌, ◌<◌}
use Rattle.std.proofs.Common.{sym, ◌∙◌, ap, subst, inl, inr, ⊎_elim, arith, eq-or-lt_of_le, le_of_suc-le-suc}
use Rattle.std.proofs.Math.Decide.{dec_le}
use Rattle.lists.specs.Pick.{both_ways}

-- of those of n numbers that pass a test, one whose rank none exceeds
pub record Last (f : ℕ → Bool) (rank : ℕ → ℕ) (n : ℕ) : Type 0 where
  pub number : ℕ
  pub number_in : number < n
  pub passes : f number ≡ true
  pub largest : (v : ℕ) → v < n → f v ≡ true → rank v ≤ rank number

-- there is one, or none passes
pub last-or-none : (f : ℕ → Bool) (rank : ℕ → ℕ) (n : ℕ) → Last f rank n ⊎ ((v : ℕ) → v < n → f v ≡ false)
last-or-none f rank zero = inr (λ v l. absurd (omega arith))
last-or-none f rank (suc n) = go (f n) refl (last-or-none f rank n)
  where
    at-end : (w : ℕ) → w < suc n → f w ≡ true → (f n ≡ true → rank n ≤ rank w) → ((v : ℕ) → v < n → f v ≡ true → rank v ≤ rank w) → Last f rank (suc n)
    at-end w l e h below = record {
      number = w;
      number_in = l;
      passes = e;
      largest = λ v a t. ⊎_elim (λ q. subst (λ (x : ℕ). rank x ≤ rank w) (sym q) (h (subst (λ (x : ℕ). f x ≡ true) q t))) (λ q. below v q t) (eq-or-lt_of_le (le_of_suc-le-suc a));
    }

    go : (b : Bool) → f n ≡ b → Last f rank n ⊎ ((v : ℕ) → v < n → f v ≡ false) → Last f rank (suc n) ⊎ ((v : ℕ) → v < suc n → f v ≡ false)
    go true e (inl t) =
        elim (dec_le (rank n) (rank t.number)) [
          | yes h ↦ inl (at-end t.number (omega (arith, t.number_in)) t.passes (λ q. h) t.largest)
          | no h ↦ inl (at-end n (omega arith) e (λ q. omega arith) (λ v a q. omega (arith, t.largest v a q)))
        ]
    go true e (inr none) = inl (at-end n (omega arith) e (λ q. omega arith) (λ v a q. both_ways q (none v a)))
    go false e (inl t) = inl (at-end t.number (omega (arith, t.number_in)) t.passes (λ q. both_ways q e) t.largest)
    go false e (inr none) = inr (λ v a. ⊎_elim (λ q. ap f q ∙ e) (λ q. none v q) (eq-or-lt_of_le (le_of_suc-le-suc a)))
