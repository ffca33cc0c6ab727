-- `turning::dropped` meets its contract: the starts passed are lowered.
-- Assumes nothing.
use mathlib.Core.Path.{◌≡◌}
use Prim.Native.Nat.{◌≤◌, ◌-◌}
use Rattle.lists.specs.Filled.{filled}
use Rattle.list_rule.specs.Rule.{start_number}
use Rattle.turning.proofs.dropped.Given as goal

abbrev pub invariant-loop-v : goal.invariant-loop-v
invariant-loop-v l = (l.v ≤ l.nodes) × (l.lower ≡ filled 64 (λ u. start_number l.start u - l.steps) l.v)
