-- `reach::reach` meets its contract: no level, where none is left or no node waits; else one level, and those that are left.
-- Assumes nothing.
use Prim.Native.Nat.{◌<◌}
use native.Mathlib.Omega.{arith}
use Rattle.reach.proofs.Marks.{none_left}
use Rattle.reach.proofs.+reach.Goals as goal

pub returns-then-left-eq0 : goal.returns-then-left-eq0
returns-then-left-eq0 t c =
    record {
      queued = c.requires.1;
      grows = omega arith;
      reaches = λ g r v told enough k. none_left g r v _ _ _ _ _ _ _ told _ _ _ (omega arith) c.requires.1 enough k;
    }

pub returns : goal.returns
returns t c =
    let some : c.args.from < c.args.to = omega arith in
    record {
      queued = c.reach.ensures.queued;
      grows = omega (arith, c.level-end.ensures.grows, c.reach.ensures.grows);
      reaches = λ g r v told enough k. c.reach.ensures.reaches g r v told (λ l. omega (arith, enough some)) (c.level-end.ensures.levels g r v told k);
    }
