-- `turning::rotate_times` meets its contract: the form turned, and where it is not too long the retiming fitted afresh.
-- Assumes nothing.
use Prim.Native.Nat.{◌≤◌}
use native.Mathlib.Omega.{arith}
use Rattle.plans.specs.Pairs.{times_with}
use Rattle.turning.specs.Rotation.{turned_form}
use Rattle.turning.proofs.Rotations.{rotate-long, rotate-lent, rotate-some, rotate-is, unfit-zero}
use Rattle.turning.proofs.rotate_times.Goals as goal

pub returns-then-turned-gt512 : goal.returns-then-turned-gt512
returns-then-turned-gt512 c f k = rotate-long f _ _ _ _ _ _ k _ (c.turn_times-turned.ensures f k) (omega (arith, c.if-turned-gt512.true))

pub fit_starts-requires : goal.fit_starts-requires
fit_starts-requires c =
    let is = c.turn_times-turned.ensures c.requires.0 c.requires.1 in
    let short : c.turn_times-turned.result.length ≤ 512 = omega (arith, c.if-turned-gt512.false) in
    record { lent = (turned_form c.requires.0 c.args.steps, rotate-lent c.requires.0 _ _ _ _ _ _ c.requires.1 _ is short); length_nonzero = rotate-some c.requires.0 _ _ _ _ _ _ c.requires.1 _ is short }

pub returns : goal.returns
unfolding times_with
returns c f k =
    let is = c.turn_times-turned.ensures f k in
    let short : c.turn_times-turned.result.length ≤ 512 = omega (arith, c.if-turned-gt512.false) in
    rw (c.unwrap_or-retiming.ensures, unfit-zero c.fit_starts.result) (rotate-is f _ _ _ _ _ _ k _ is short _ (c.fit_starts.ensures _ (rotate-lent f _ _ _ _ _ _ k _ is short)))
