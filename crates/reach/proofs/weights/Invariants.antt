-- `reach::weights` meets its contract: the places passed are filled.
-- Assumes nothing.
use mathlib.Core.Path.{◌≡◌}
use Prim.Native.Nat.{ℕ}
use lib.ListN.{length}
use Rattle.lists.specs.Filled.{filled}
use Rattle.legal.specs.Loop.{Loop}
use Rattle.tables.specs.Edges.{ToldBy}
use Rattle.reach.specs.Weight.{weight}
use Rattle.reach.specs.Tables.{Retimed}
use Rattle.reach.proofs.weights.Given as goal

abbrev pub invariant-loop-v : goal.invariant-loop-v
invariant-loop-v l =
    (length l.weights ≡ 64)
    × ((g : Loop) (r : ℕ → ℕ) → ToldBy g l.nodes l.edges → Retimed r l.nodes l.retiming → l.weights ≡ filled 64 (weight g r) l.v)
