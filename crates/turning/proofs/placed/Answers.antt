-- `turning::placed` meets its contract: the list rule, and the length of what it places.
-- Assumes nothing.
use Rattle.turning.proofs.Bare.{place-soon, place_is}
use Rattle.turning.proofs.placed.Goals as goal

pub length_of-length-requires : goal.length_of-length-requires
length_of-length-requires c =
    place-soon c.requires.placeable.0 c.requires.placeable.1.0 _ _ _ _ _ c.requires.placeable.1.1 _ (c.list_rule-start.ensures _ _ c.requires.placeable.1.1.told c.requires.placeable.1.1.timed)

pub returns : goal.returns
returns c g p k =
    place_is g p _ _ _ _ _ k _ (c.list_rule-start.ensures _ _ k.told k.timed) _ (c.length_of-length.ensures g k.timed.all-nodes k.timed.takes) _ c.with_pair.ensures
