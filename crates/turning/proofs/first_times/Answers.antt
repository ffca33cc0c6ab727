-- `turning::first_times` meets its contract: the list rule from a timetable without a pair.
-- Assumes nothing.
use Rattle.legal.specs.Loop.{loop_of}
use Rattle.turning.proofs.Bare.{table_pair, bare_ends, bare-sound, bare-in-body, bare-placeable, bare-placed}
use Rattle.turning.proofs.Firsts.{first-early, first-rule, first-places-soon, first-is}
use Rattle.turning.proofs.first_times.Goals as goal

pub placed-requires : goal.placed-requires
placed-requires c =
    let f = c.requires.0 in
    let lent = c.requires.1.tabled.lent in
    let bare = c.with_pair-bare.ensures in
    record {
      ends = (bare_ends f _ _ _ _ _ lent _ _ _ _ bare, bare-sound f _ _ _ _ _ lent _ _ _ _ bare, bare-in-body f _ _ _ _ _ lent _ _ _ _ bare (first-early f _ _ _ _ _ c.requires.1));
      placeable = (loop_of f, (table_pair _ _ _, bare-placeable f _ _ _ _ _ lent _ _ _ _ bare (first-places-soon f _ _ _ _ _ c.requires.1)));
    }

pub returns : goal.returns
returns c f k =
    let soon = first-places-soon f _ _ _ _ _ k in
    first-is f _ _ _ _ _ k _
    (bare-placed f _ _ _ _ _ k.tabled.lent _ _ _ _ c.with_pair-bare.ensures soon _ (c.placed.ensures _ _ (bare-placeable f _ _ _ _ _ k.tabled.lent _ _ _ _ c.with_pair-bare.ensures soon)) _ (first-rule f _ _ _ _ _ k))
