-- `reach::tights_of` meets its contract: the places passed are filled.
-- Assumes nothing.
use mathlib.Core.Path.{◌≡◌}
use lib.ListN.{length}
use Rattle.reach.specs.Tables.{TightsTabled}
use Rattle.reach.proofs.tights_of.Given as goal

abbrev pub invariant-loop-e : goal.invariant-loop-e
invariant-loop-e l =
    (length l.tights ≡ 256) × TightsTabled l.edges.from.now l.edges.to.now l.edges.delays.now l.retiming l.e l.tights
