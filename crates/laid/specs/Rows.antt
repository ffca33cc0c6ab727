-- Rows of bytes, one after the other.
-- Assumes nothing.
use Rattle.std.specs.Prelude.{List, [], ◌++◌, ℕ, zero, suc}

-- rows 0 to n - 1
unfoldable pub rows : (ℕ → List ℕ) → ℕ → List ℕ
rows row zero = []
rows row (suc n) = rows row n ++ row n
