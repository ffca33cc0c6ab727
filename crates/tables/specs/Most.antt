-- The largest of a table's first numbers.
-- Assumes nothing.
use Rattle.std.specs.Prelude.{◌≡◌, refl, List, [], ◌∷◌, map, ℕ, zero, suc, ◌+◌, ◌≤◌, max, length, get_or, take, fold}
use Rattle.std.proofs.Common.{sym, ap, ◌∙◌, zero-add, arith}
use Rattle.std.proofs.Math.Numerals.{add-one}
use Rattle.std.proofs.Math.Seq.{take-suc}
use Rattle.lists.specs.Span.{span}
use Rattle.lists.specs.Fold.{top}
use Rattle.lists.specs.Mapped.{map_snoc}
use Rattle.lists.specs.Sums.{top-none, top-last}

-- 0 where there are none
unfoldable pub most_of : List ℕ → ℕ → ℕ
most_of xs n = top (map (λ v. get_or xs v 0) (span 0 n))

module _ (xs : List ℕ) where
  pub most-none : most_of xs 0 ≡ 0
  unfolding most_of
  most-none = top-none (λ v. get_or xs v 0) 0

  pub most-more : (v : ℕ) → most_of xs (v + 1) ≡ max (most_of xs v) (get_or xs v 0)
  unfolding most_of
  most-more v = rw add-one (top-last (λ v. get_or xs v 0) v)

-- the same as a fold over them
max-fold : (x : ℕ) (xs : List ℕ) → fold max x xs ≡ max x (top xs)
unfolding top
max-fold x [] = omega arith
max-fold x (y ∷ ys) = omega (arith, max-fold (max x y) ys)

front-mapped : (xs : List ℕ) (n : ℕ) → n ≤ length xs → take n xs ≡ map (λ v. get_or xs v 0) (span 0 n)
unfolding span
front-mapped xs zero l = refl
front-mapped xs (suc n) l =
    take-suc xs n 0 (omega arith) ∙ rw (front-mapped xs n (omega arith)) (sym (map_snoc (λ v. get_or xs v 0) 0 n ∙ rw zero-add))

pub most-front : (xs : List ℕ) (n : ℕ) → n ≤ length xs → fold max 0 (take n xs) ≡ most_of xs n
unfolding most_of
most-front xs n l = omega (arith, max-fold 0 (take n xs), ap top (front-mapped xs n l))
