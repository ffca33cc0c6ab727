-- `list_rule::list_rule` meets its contract: in each of its three loops the rest of the rule equals the whole.
-- Assumes nothing.
use mathlib.Core.Path.{◌≡◌}
use Prim.Native.Nat.{◌≤◌}
use Rattle.list_rule.proofs.Steps.{Filling, Trying, Searching}
use Rattle.list_rule.proofs.list_rule.Given as goal

abbrev pub invariant-loop-q : goal.invariant-loop-q
invariant-loop-q l =
    (l.i ≡ l.initial.i) × (l.q ≤ l.q-end) × (l.q-end ≤ 1031) × Searching l.times.class l.times.runs l.times.nodes l.start l.v l.p l.q-end l.q

abbrev pub invariant-nodes : goal.invariant-nodes
invariant-nodes l =
    (l.i ≤ l.times.nodes) × Trying l.edges.count l.edges.from.now l.edges.to.now l.edges.delays.now l.times l.order l.initial.start l.p l.i l.start l.busy

abbrev pub invariant-steps : goal.invariant-steps
invariant-steps l =
    (1 ≤ l.p) × (l.p ≤ 1024) × Filling l.edges.count l.edges.from.now l.edges.to.now l.edges.delays.now l.times l.p l.start l.busy
