-- What stands at a place of a list of bytes.
-- Assumes nothing.
use Rattle.std.specs.Prelude.{List, ℕ, get_or}

abbrev pub byte_at : List ℕ → ℕ → ℕ
byte_at s at = get_or s at 0
