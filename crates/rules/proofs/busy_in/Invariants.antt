-- `rules::busy_in` meets its contract: the nodes passed are summed up.
-- Assumes nothing.
use mathlib.Core.Path.{◌≡◌}
use Prim.Native.Nat.{◌≤◌, ◌*◌}
use Rattle.rules.specs.Busy.{busy_in}
use Rattle.rules.proofs.busy_in.Given as goal

abbrev pub invariant-loop-v : goal.invariant-loop-v
invariant-loop-v l = (l.busy ≤ 255 * l.v) × (l.busy ≡ busy_in l.length l.runs l.start l.class l.hold l.step l.v)
