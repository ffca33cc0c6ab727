-- `turning::length_of` meets its contract: the last step of the nodes passed is kept.
-- Assumes nothing.
use mathlib.Core.Path.{◌≡◌}
use Prim.Native.Nat.{ℕ, ◌≤◌, ◌<◌}
use lib.ListN.{get_or}
use Rattle.legal.specs.Loop.{Loop, latency}
use Rattle.turning.proofs.Laws.{last_of}
use Rattle.turning.proofs.length_of.Given as goal

abbrev pub invariant-loop-v : goal.invariant-loop-v
invariant-loop-v l =
    (l.v ≤ l.nodes) × ((g : Loop) → ((u : ℕ) → u < l.nodes → latency g u ≡ get_or l.latency u 0) → l.last ≡ last_of g l.start l.v)
