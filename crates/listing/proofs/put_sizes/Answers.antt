-- `listing::put_sizes` meets its contract: three fields.
-- Assumes nothing.
use native.Mathlib.Omega.{arith}
use Rattle.text.specs.PageLaws.{followed}
use Rattle.listing.specs.Text.{nodes_word, edges_word, length_word}
use Rattle.listing.specs.Shown.{sizes_text}
use Rattle.listing.proofs.put_sizes.Goals as goal

pub returns : goal.returns
unfolding nodes_word edges_word length_word sizes_text
returns c = (omega (arith, c.field.ensures.0, c.field-2.ensures.0, c.field-3.ensures.0), followed _ _ _ _ _ c.field.ensures.1 (followed _ _ _ _ _ c.field-2.ensures.1 c.field-3.ensures.1))
