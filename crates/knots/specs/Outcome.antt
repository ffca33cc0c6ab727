-- What an answer tells, as the definitions speak of it.
-- Assumes nothing.
use Rattle.std.specs.Prelude.{List, ℕ, Result, Ok, Err}
use Rattle.answer.specs.declared.Cycle.{Cycle}
use Rattle.answer.specs.Outcome.{no_cycle}
use Rattle.knots.specs.declared.Tied.{Tied}

-- a knot, or no cycle and then a rank for each node; beside a knot the values of its system
pub record Ranking : Type 0 where
  pub cycle : Cycle
  pub rank : List ℕ

abbrev pub ranking_in : Result (List ℕ) Tied → Ranking
ranking_in (Ok rank) = record { cycle = no_cycle; rank = rank }
ranking_in (Err tied) = record { cycle = tied.knot; rank = tied.ranks }
