-- `answer::fill_cycle` meets its contract.
-- Assumes nothing.
use mathlib.Core.Path.{◌≡◌}
use mathlib.Core.List.{map}
use lib.Seq.{sets}
use Rattle.lists.specs.Span.{span}
use Rattle.answer.specs.Outcome.{cycle_edge}
use Rattle.answer.proofs.fill_cycle.Given as goal

abbrev pub invariant-loop-i : goal.invariant-loop-i
invariant-loop-i l = l.answer ≡ sets l.initial.answer 5 (map (cycle_edge l.cycle) (span 0 l.i))
