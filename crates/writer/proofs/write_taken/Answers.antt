-- `writer::write_taken` meets its contract: what is put of the bytes laid out.
-- Assumes nothing.
use mathlib.Core.Path.{sym}
use native.Mathlib.Omega.{arith}
use lib.ListN.{replicate}
use Rattle.laid.specs.Laws.{same-long}
use Rattle.writer.proofs.Laws.{front_long, front}
use Rattle.writer.proofs.write_taken.Goals as goal

pub slice_bounds-buffer-end : goal.slice_bounds-buffer-end
slice_bounds-buffer-end c = omega (arith, same-long _ _ _ _ _ c.lay-size.ensures.1)

pub slice_bounds-put-end : goal.slice_bounds-put-end
slice_bounds-put-end c = sym (front_long (replicate 1367 0) _ _ _ c.lay-size.ensures.1 c.lay-size.ensures.0)

pub put-requires : goal.put-requires
put-requires c =
    omega (arith, c.lay-size.ensures.0, front_long (replicate 1367 0) _ _ _ c.lay-size.ensures.1 c.lay-size.ensures.0)

pub returns : goal.returns
returns c =
    c.put.ensures _ (front (replicate 1367 0) _ _ _ c.lay-size.ensures.1 c.lay-size.ensures.0) c.requires
