-- `list_rule::keys_of` meets its contract: the nodes passed have keys that make up 255 with their weights.
-- Assumes nothing.
use mathlib.Core.Path.{◌≡◌}
use Prim.Native.Nat.{ℕ, ◌+◌, ◌≤◌, ◌<◌}
use lib.ListN.{length, get_or}
use Rattle.list_rule.proofs.keys_of.Given as goal

abbrev pub invariant-loop-v : goal.invariant-loop-v
invariant-loop-v l =
    (l.v ≤ l.nodes) × (length l.keys ≡ 64) × ((u : ℕ) → u < l.v → get_or l.keys u 0 + get_or l.weight u 0 ≡ 255)
