-- `listing::list` meets its contract: measured in no room, where nothing is put, then put where it fits.
-- Assumes nothing.
use native.Mathlib.Omega.{arith}
use Rattle.listing.proofs.Laws.{cramped, fits}
use Rattle.listing.proofs.list.Goals as goal

pub returns-then-out-size : goal.returns-then-out-size
returns-then-out-size c =
    let h = cramped _ _ _ c.view_of-view.ensures _ _ c.put_view-size.ensures.1 (omega (arith, c.if-out-size.true)) in
    record { value = h.0; out_after = h.1 }

pub returns : goal.returns
returns c =
    let h = fits _ _ _ c.view_of-view.ensures _ _ c.put_view-size.ensures.1 _ _ (omega (arith, c.if-out-size.false)) c.put_view.ensures.1 in
    record { value = h.0; out_after = h.1 }
