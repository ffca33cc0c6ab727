-- `system::one_round` meets its contract: what is left of the round gives what the whole round gives.
-- Assumes nothing.
use Rattle.system.specs.Lent.{system_in}
use Rattle.system.proofs.Laws.{Sofar}
use Rattle.system.proofs.one_round.Given as goal

abbrev pub invariant-loop-e : goal.invariant-loop-e
invariant-loop-e l = Sofar (system_in l.system) l.initial.values l.values l.raised l.e
