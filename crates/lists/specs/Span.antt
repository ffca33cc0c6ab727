-- A run of numbers that count up by one.
-- Assumes nothing.
use Rattle.std.specs.Prelude.{◌≡◌, refl, List, [], ◌∷◌, ℕ, zero, suc, ◌+◌, ◌<◌, length, get_or}
use Rattle.std.proofs.Common.{ap, add-zero, add-suc, suc-add, not-suc-le-zero, le_of_suc-le-suc}

-- from, from + 1, .., n of them
unfoldable pub span : ℕ → ℕ → List ℕ
span from zero = []
span from (suc n) = from ∷ span (suc from) n

pub span-length : (a n : ℕ) → length (span a n) ≡ n
unfolding span
span-length a zero = refl
span-length a (suc n) = ap suc (span-length (suc a) n)

pub span-at : (a n i : ℕ) → i < n → get_or (span a n) i 0 ≡ a + i
unfolding span
span-at a zero i l = absurd (not-suc-le-zero l)
span-at a (suc n) zero l = rw add-zero
span-at a (suc n) (suc i) l = rw (add-suc, ← suc-add) (span-at (suc a) n i (le_of_suc-le-suc l))
