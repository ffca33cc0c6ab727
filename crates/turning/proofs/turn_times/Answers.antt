-- `turning::turn_times` meets its contract: the list rule from the starts lowered and the retimings raised.
-- Assumes nothing.
use Rattle.legal.specs.Loop.{loop_of}
use Rattle.turning.proofs.Bare.{table_pair, bare_ends, bare-sound, bare-in-body, bare-placeable, bare-placed}
use Rattle.turning.proofs.Rotations.{turn-few, turn_small, turn-early, turn-rule, turn-soon, turn_is}
use Rattle.turning.proofs.turn_times.Goals as goal

pub dropped-lower-requires : goal.dropped-lower-requires
dropped-lower-requires c = turn-few c.requires.0 _ _ _ _ _ _ c.requires.1

pub gained-raised-requires : goal.gained-raised-requires
gained-raised-requires c =
    (turn-few c.requires.0 _ _ _ _ _ _ c.requires.1, turn_small c.requires.0 _ _ _ _ _ _ c.requires.1)

pub placed-requires : goal.placed-requires
placed-requires c =
    record {
      ends = (
        bare_ends c.requires.0 _ _ _ _ _ c.requires.1.tabled.lent _ _ _ _ c.with_pair-bare.ensures,
        bare-sound c.requires.0 _ _ _ _ _ c.requires.1.tabled.lent _ _ _ _ c.with_pair-bare.ensures,
        bare-in-body c.requires.0 _ _ _ _ _ c.requires.1.tabled.lent _ _ _ _ c.with_pair-bare.ensures (turn-early c.requires.0 _ _ _ _ _ _ c.requires.1 _ _ c.dropped-lower.ensures c.gained-raised.ensures),
      );
      placeable = (loop_of c.requires.0, (table_pair _ _ _, bare-placeable c.requires.0 _ _ _ _ _ c.requires.1.tabled.lent _ _ _ _ c.with_pair-bare.ensures (turn-soon c.requires.0 _ _ _ _ _ _ c.requires.1 _ _ c.dropped-lower.ensures c.gained-raised.ensures)));
    }

pub returns : goal.returns
returns c f k =
    let soon = turn-soon f _ _ _ _ _ _ k _ _ c.dropped-lower.ensures c.gained-raised.ensures in
    turn_is f _ _ _ _ _ _ k _
    (bare-placed f _ _ _ _ _ k.tabled.lent _ _ _ _ c.with_pair-bare.ensures soon _ (c.placed.ensures _ _ (bare-placeable f _ _ _ _ _ k.tabled.lent _ _ _ _ c.with_pair-bare.ensures soon)) _
    (turn-rule f _ _ _ _ _ _ k _ _ c.dropped-lower.ensures c.gained-raised.ensures))
