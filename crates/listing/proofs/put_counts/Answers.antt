-- `listing::put_counts` meets its contract: the fields one after the other are the line.
-- Assumes nothing.
use native.Mathlib.Omega.{arith}
use Rattle.listing.specs.Text.{depth_word, floor_word}
use Rattle.listing.proofs.Laws.{counts-put}
use Rattle.listing.proofs.put_counts.Goals as goal

pub returns : goal.returns
unfolding depth_word floor_word
returns c = (
  omega (arith, c.put_sizes.ensures.0, c.field.ensures.0, c.field-2.ensures.0, c.put_verdict.ensures.0),
  counts-put _ _ _ _ _ _ _ _ _ _ c.put_sizes.ensures.1 c.field.ensures.1 c.field-2.ensures.1 c.put_verdict.ensures.1,
)
