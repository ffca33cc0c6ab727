-- `issue::free_unit` meets its contract: the first free unit of those that are left is the first of all.
-- Assumes nothing.
use mathlib.Core.Path.{◌≡◌}
use Prim.Native.Nat.{◌+◌, ◌*◌}
use native.Mathlib.Omega.{arith}
use borrow.Author.Tests.{le-leb, lt-leb}
use lib.ListN.{get_or}
use Rattle.lists.specs.First.{first_next, first-here, first-end}
use Rattle.issue.specs.Tables.{is_free_at}
use Rattle.issue.proofs.free_unit.Goals as goal

pub returns-then-free-number : goal.returns-then-free-number
returns-then-free-number c = (
  c.loop-x-test.true,
  first-here (is_free_at c.args.free.now c.args.number c.args.step.0) c.args.units c.loop-x.x _ c.loop-x-test.true
      (le-leb (get_or c.args.free.now (8 * c.args.number + c.loop-x.x) 0) c.args.step.0 (omega arith))
      c.loop-x.invariant,
)

pub loop-x-preserved : goal.loop-x-preserved
loop-x-preserved c =
    first_next (is_free_at c.args.free.now c.args.number c.args.step.0) c.args.units c.loop-x.x _ c.loop-x-test.true
    (lt-leb (get_or c.args.free.now (8 * c.args.number + c.loop-x.x) 0) c.args.step.0 (omega arith))
    c.loop-x.invariant

pub returns : goal.returns
returns c =
    let e : c.loop-x.x ≡ c.args.units = omega arith in
    omega (arith, first-end (is_free_at c.args.free.now c.args.number c.args.step.0) c.args.units c.loop-x.x _ (omega arith) c.loop-x.invariant)
