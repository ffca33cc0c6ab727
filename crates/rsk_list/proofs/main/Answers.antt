-- What is listed is no longer than the buffer lent.
use Rattle.std.proofs.Common.{◌≤◌, arith, length, sym}
use Rattle.listing.proofs.Laws.{listed-within}
use lib.Seq.{length-take-le}
use Rattle.rsk_list.proofs.main.Goals as goal

pub slice_bounds-text-end : goal.slice_bounds-text-end
slice_bounds-text-end c = omega (arith, listed-within _ _ _ c.in-Ok.ensures.value, c.list.auto.out)

pub slice_bounds-write_all-end : goal.slice_bounds-write_all-end
slice_bounds-write_all-end c =
    let within : c.in-Ok.size ≤ length c.list.new.out = omega (arith, listed-within _ _ _ c.in-Ok.ensures.value, c.list.auto.out) in
    sym (length-take-le _ _ within)
