-- `drawing::put_holder` meets its contract: its place, or nothing.
-- Assumes nothing.
use native.Mathlib.Omega.{arith}
use Rattle.drawing.specs.Table.{held_place}
use Rattle.drawing.proofs.Laws.{place_here, place-elsewhere}
use Rattle.drawing.proofs.put_holder.Goals as goal

pub returns-then-not-holds_in : goal.returns-then-not-holds_in
unfolding held_place
returns-then-not-holds_in c = (omega arith, place-elsewhere _ _ _ _ c.holds_in.ensures c.if-not-holds_in.true)

pub returns : goal.returns
unfolding held_place
returns c = (c.put_held.ensures.0, place_here _ _ _ _ c.holds_in.ensures _ c.if-not-holds_in.false c.put_held.ensures.1)
