-- The system that lent tables hold.
-- Assumes nothing.
use Rattle.system.specs.System.{System, system_of}
use Rattle.system.specs.declared.Constraints.{Constraints}

abbrev pub system_in : Constraints → System
system_in c = system_of c.nodes c.edges c.tails.now c.heads.now c.gains.now c.costs.now
