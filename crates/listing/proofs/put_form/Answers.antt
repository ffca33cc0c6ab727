-- `listing::put_form` meets its contract: the mark, the counts, the lines of its timetable.
-- Assumes nothing.
use native.Mathlib.Omega.{arith}
use Rattle.listing.specs.Text.{mark_line}
use Rattle.listing.proofs.Laws.{times-small, lines-put}
use Rattle.listing.proofs.put_form.Goals as goal

pub put_lines-requires : goal.put_lines-requires
put_lines-requires c =
    let small = times-small _ _ _ c.times_of-times.ensures c.requires.0 in
    (omega (arith, c.requires.1, c.word.ensures.laid.ends, c.put_counts.ensures.0), small.0, small.1)

pub returns : goal.returns
unfolding mark_line
returns c = (
  omega (arith, c.requires.1, c.word.ensures.laid.ends, c.put_counts.ensures.0, c.put_lines.ensures.0),
  lines-put _ _ _ c.times_of-times.ensures c.requires.0 _ c.largest-depth.ensures _ _ _ _ c.word.ensures c.put_counts.ensures.1 c.put_lines.ensures.1,
)
