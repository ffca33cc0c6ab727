-- `list_rule::raise` meets its contract: the steps passed are raised.
-- Assumes nothing.
use Prim.Native.Nat.{◌≤◌}
use Rattle.list_rule.specs.Tables.{Raised}
use Rattle.list_rule.proofs.raise.Given as goal

abbrev pub invariant-loop-q : goal.invariant-loop-q
invariant-loop-q l = (l.begins ≤ l.q) × (l.q ≤ l.q-end) × Raised l.initial.busy l.begins l.class l.q l.busy
