-- `writer::write` meets its contract: the reader's refusal of what is laid out, else what is put.
-- Assumes nothing.
use Rattle.std.proofs.lemmas.Result.{err_from_is_err_and}
use mathlib.Core.Path.{sym}
use native.Mathlib.Omega.{arith}
use lib.ListN.{replicate}
use borrow.Author.Rules.{rules}
use Rattle.laid.specs.Laws.{same-long}
use Rattle.writer.proofs.Laws.{front_long, front, refused, accepted}
use Rattle.writer.proofs.write.Goals as goal

pub slice_bounds-buffer-end : goal.slice_bounds-buffer-end
slice_bounds-buffer-end c = omega (arith, same-long _ _ _ _ _ c.lay-size.ensures.1)

pub slice_bounds-bytes-end : goal.slice_bounds-bytes-end
slice_bounds-bytes-end c = sym (front_long (replicate 1367 0) _ _ _ c.lay-size.ensures.1 c.lay-size.ensures.0)

pub put-requires : goal.put-requires
put-requires c =
    omega (arith, c.lay-size.ensures.0, front_long (replicate 1367 0) _ _ _ c.lay-size.ensures.1 c.lay-size.ensures.0)

pub returns : goal.returns
returns c =
    c.put.ensures _ (front (replicate 1367 0) _ _ _ c.lay-size.ensures.1 c.lay-size.ensures.0)
    (accepted (replicate 1367 0) _ _ _ c.lay-size.ensures.1 c.lay-size.ensures.0 _ c.read.ensures (search rules))

pub returns-in_err-read : goal.returns-in_err-read
returns-in_err-read c =
    let p = err_from_is_err_and c.from_residual.result c.from_residual.ensures.1 in
    rw (p.1, p.2) (refused (replicate 1367 0) _ _ _ c.lay-size.ensures.1 c.lay-size.ensures.0 _ c.in_err-read.ensures _)
