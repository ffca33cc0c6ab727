-- What a table of numbers tells: the run step from which each unit of the board is free, and so the first unit that is.
-- Assumes nothing.
use Rattle.std.specs.Prelude.{◌≡◌, Bool, List, ℕ, ◌+◌, ◌*◌, ◌<◌, leb, get_or, Option, None, Some}
use Rattle.lists.specs.First.{first_from}

-- unit x of class c stands at place 8 c + x of the table
abbrev pub unit_of : ℕ → ℕ → ℕ
unit_of c x = 8 * c + x

-- unit x of class c is free in run step t
abbrev pub is_free_at : List ℕ → ℕ → ℕ → ℕ → Bool
is_free_at free c t x = leb (get_or free (unit_of c x) 0) t

-- the first of so many units of class c that is free in run step t, if one is
abbrev pub FirstFree : List ℕ → ℕ → ℕ → ℕ → Option ℕ → Type 0
FirstFree free c units t None = units ≡ first_from (is_free_at free c t) units 0
FirstFree free c units t (Some x) = (x < units) × (x ≡ first_from (is_free_at free c t) units 0)
