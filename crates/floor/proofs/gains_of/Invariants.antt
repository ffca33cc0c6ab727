-- `floor::gains_of` meets its contract: the places passed are filled.
-- Assumes nothing.
use mathlib.Core.Path.{◌≡◌}
use Prim.Native.Nat.{ℕ, ◌*◌, ◌<◌}
use lib.ListN.{length as listLength, get_or}
use Rattle.floor.proofs.gains_of.Given as goal

abbrev pub invariant-loop-e : goal.invariant-loop-e
invariant-loop-e l = (listLength l.gains ≡ 256) × ((k : ℕ) → k < l.e → get_or l.gains k 0 ≡ l.length * get_or l.delays k 0)
