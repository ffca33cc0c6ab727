-- A system settled or refuted: the values of its rounds, and a losing cycle with the fewest edges where they do not settle.
-- Assumes nothing.
use Rattle.std.specs.Prelude.{◌≡◌, true, false, List, ℕ, ◌≤◌, ◌<◌, Result}
use Rattle.answer.specs.Outcome.{no_cycle, edges_of}
use Rattle.answer.specs.Tally.{Tallies}
use Rattle.system.specs.System.{System, FewestEdges}
use Rattle.system.specs.Rounds.{settled_of}
use Rattle.solve.specs.declared.Unsettled.{Unsettled}
use Rattle.solve.specs.Outcome.{Solution, solution_in}

pub record Solved (s : System) (r : Solution) : Type 0 where
  pub settled : r.settled ≡ (settled_of s).settled
  pub values : r.values ≡ (settled_of s).values
  pub none : r.settled ≡ true → r.cycle ≡ no_cycle
  pub shortest : r.settled ≡ false → FewestEdges s (edges_of r.cycle)
  pub some : r.settled ≡ false → 0 < r.cycle.count
  pub few : r.cycle.count ≤ s.graph.nodes
  pub tallies : Tallies r.cycle

-- the same of what comes back: the values, or a losing cycle and the last round's values
abbrev pub SolvedBy : System → Result (List ℕ) Unsettled → Type 0
SolvedBy s r = Solved s (solution_in r)
