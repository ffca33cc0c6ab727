-- `list_rule::waiting` meets its contract: the edges passed are counted at their heads.
-- Assumes nothing.
use Prim.Native.Nat.{◌≤◌}
use Rattle.list_rule.specs.Tables.{WaitsTabled}
use Rattle.list_rule.proofs.waiting.Given as goal

abbrev pub invariant-loop-e : goal.invariant-loop-e
invariant-loop-e l =
    (l.e ≤ l.edges.count) × WaitsTabled l.edges.from.now l.edges.to.now l.edges.delays.now l.retiming l.latency l.start l.step l.e l.waits
