-- `floor::costs_of` meets its contract: the places passed are filled.
-- Assumes nothing.
use mathlib.Core.Path.{◌≡◌}
use Prim.Native.Nat.{ℕ, ◌<◌}
use lib.ListN.{length, get_or}
use Rattle.floor.proofs.costs_of.Given as goal

abbrev pub invariant-loop-e : goal.invariant-loop-e
invariant-loop-e l = (length l.costs ≡ 256) × ((k : ℕ) → k < l.e → get_or l.costs k 0 ≡ get_or l.latency (get_or l.from k 0) 0)
