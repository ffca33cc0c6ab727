-- `system::settle` meets its contract: the rounds that are left give what all of them give.
-- Assumes nothing.
use mathlib.Core.Path.{◌≡◌}
use Prim.Native.Nat.{ℕ, ◌-◌, ◌*◌, ◌≤◌}
use lib.ListN.{get_or}
use Rattle.system.specs.Lent.{system_in}
use Rattle.system.specs.Rounds.{settle_from, settled_of}
use Rattle.system.proofs.settle.Given as goal

abbrev pub invariant-loop-round : goal.invariant-loop-round
invariant-loop-round l =
    (settle_from (system_in l.system) (l.system.nodes - l._round) l.values ≡ settled_of (system_in l.system)) × ((v : ℕ) → get_or l.values v 0 ≤ l._round * 16776960)
