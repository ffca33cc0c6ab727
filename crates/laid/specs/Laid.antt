-- Bytes laid into a buffer from a place on, one run after the other.
-- Assumes nothing.
use Rattle.std.specs.Prelude.{◌≡◌, List, ℕ, ◌+◌, length}
use Rattle.std.proofs.lemmas.List.Edits.{sets}

-- the buffer before and after, and the place past the last byte
pub record Laid (before : List ℕ) (at : ℕ) (bytes after : List ℕ) (end : ℕ) : Type 0 where
  pub is : after ≡ sets before at bytes
  pub ends : end ≡ at + length bytes
