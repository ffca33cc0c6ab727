-- `drawing::put_starter` meets its contract: its place, or nothing.
-- Assumes nothing.
use native.Mathlib.Omega.{arith}
use Rattle.drawing.specs.Table.{start_place}
use Rattle.drawing.proofs.Laws.{place_here, place-elsewhere}
use Rattle.drawing.proofs.put_starter.Goals as goal

pub returns-then-not-starts_in : goal.returns-then-not-starts_in
unfolding start_place
returns-then-not-starts_in c = (omega arith, place-elsewhere _ _ _ _ c.starts_in.ensures c.if-not-starts_in.true)

pub returns : goal.returns
unfolding start_place
returns c = (c.put_start.ensures.0, place_here _ _ _ _ c.starts_in.ensures _ c.if-not-starts_in.false c.put_start.ensures.1)
