-- `list_rule::fill_busy` meets its contract: the nodes passed are in use.
-- Assumes nothing.
use Prim.Native.Nat.{◌≤◌}
use Rattle.list_rule.specs.Tables.{Used}
use Rattle.list_rule.proofs.fill_busy.Given as goal

abbrev pub invariant-loop-v : goal.invariant-loop-v
invariant-loop-v l = (l.v ≤ l.nodes) × Used l.classes l.runs l.start l.v l.busy
