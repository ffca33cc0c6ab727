-- Bytes put on a page, from its place on.
-- Assumes nothing.
use Rattle.std.specs.Prelude.{◌≡◌, List, ℕ}
use Rattle.laid.specs.Laid.{Laid}
use Rattle.text.specs.declared.Page.{Page}

-- the page before and after: the bytes are laid into its buffer, which stays the one that was lent, and its place is past them
pub record Puts (before after : Page) (bytes : List ℕ) : Type 0 where
  pub same : after.out.ghost_name ≡ before.out.ghost_name
  pub laid : Laid before.out.now before.at bytes after.out.now after.at
