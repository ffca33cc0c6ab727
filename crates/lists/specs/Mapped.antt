-- What stands in a run of numbers that a function was applied to.
-- Assumes nothing.
use Rattle.std.specs.Prelude.{◌≡◌, [], ◌∷◌, ◌++◌, map, ℕ, zero, suc, ◌+◌, ◌<◌, get_or}
use Rattle.std.proofs.Common.{ap, add-zero, add-suc, suc-add, not-suc-le-zero, le_of_suc-le-suc}
use Rattle.lists.specs.Span.{span}

pub mapped_at : (f : ℕ → ℕ) (a n i : ℕ) → i < n → get_or (map f (span a n)) i 0 ≡ f (a + i)
unfolding span
mapped_at f a zero i l = absurd (not-suc-le-zero l)
mapped_at f a (suc n) zero l = rw add-zero
mapped_at f a (suc n) (suc i) l = rw (add-suc, ← suc-add) (mapped_at f (suc a) n i (le_of_suc-le-suc l))

-- one number more
pub map_snoc : (f : ℕ → ℕ) (a n : ℕ) → map f (span a (suc n)) ≡ map f (span a n) ++ (f (a + n) ∷ [])
unfolding span
map_snoc f a zero = rw add-zero
map_snoc f a (suc n) = ap (λ xs. f a ∷ xs) (rw (add-suc, ← suc-add) (map_snoc f (suc a) n))
