-- `issue::free_unit` meets its contract: the first free unit of those that are left is the first of all.
-- Assumes nothing.
use mathlib.Core.Path.{◌≡◌}
use Prim.Native.Nat.{◌-◌}
use Rattle.lists.specs.First.{first_from}
use Rattle.issue.specs.Tables.{is_free_at}
use Rattle.issue.proofs.free_unit.Given as goal

abbrev pub invariant-loop-x : goal.invariant-loop-x
invariant-loop-x l = first_from (is_free_at l.free l.number l.step.0) (l.units - l.x) l.x ≡ first_from (is_free_at l.free l.number l.step.0) l.units 0
