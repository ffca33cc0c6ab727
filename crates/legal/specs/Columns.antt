-- What is counted in a table of rows is counted column by column.
-- Assumes nothing.
use Rattle.std.specs.Prelude.{◌≡◌, Bool, ℕ, zero, suc, ◌+◌, ◌*◌}
use Rattle.std.proofs.Common.{sym, ◌∙◌, ap, arith, suc-mul, zero-mul, add-suc, zero-add, add-zero}
use Rattle.lists.specs.Span.{span}
use Rattle.lists.specs.Fold.{sum_of, count, sum-snoc}
use Rattle.lists.specs.Count.{count-last}
use Rattle.lists.specs.Sums.{bit, sum-zero, sum-add, sum_same}

-- a row more
count-row : (f : ℕ → Bool) (m n : ℕ) → count f (span 0 (m + n)) ≡ count f (span 0 m) + sum_of (λ v. bit (f (m + v))) (span 0 n)
unfolding sum_of span
count-row f m zero = ap (λ (x : ℕ). count f (span 0 x)) (add-zero m) ∙ omega arith
count-row f m (suc n) =
    ap (λ (x : ℕ). count f (span 0 x)) (add-suc m n)
    ∙ omega (
      arith,
      count-last f (m + n),
      count-row f m n,
      sum-snoc (λ v. bit (f (m + v))) 0 n,
      ap (λ (x : ℕ). bit (f (m + x))) (zero-add n),
    )

-- of h rows of n
pub count-columns : (f : ℕ → Bool) (h n : ℕ) → count f (span 0 (h * n)) ≡ sum_of (λ v. count (λ j. f (j * n + v)) (span 0 h)) (span 0 n)
unfolding count span
count-columns f zero n = ap (λ (x : ℕ). count f (span 0 x)) (zero-mul n) ∙ sym (sum-zero (span 0 n))
count-columns f (suc h) n =
    ap (λ (x : ℕ). count f (span 0 x)) (suc-mul h n)
    ∙ count-row f (h * n) n
    ∙ ap (λ (x : ℕ). x + sum_of (λ v. bit (f (h * n + v))) (span 0 n)) (count-columns f h n)
    ∙ sym (sum-add (λ v. count (λ j. f (j * n + v)) (span 0 h)) (λ v. bit (f (h * n + v))) (span 0 n))
    ∙ sym (sum_same (λ v. count (λ j. f (j * n + v)) (span 0 (suc h))) (λ v. count (λ j. f (j * n + v)) (span 0 h) + bit (f (h * n + v))) 0 n (λ v a b. count-last (λ j. f (j * n + v)) h))
