-- What attains a floor: the largest latency, the busy steps of a class, a cycle, or nothing that was worked out.
-- Assumes nothing.
use Rattle.std.specs.Prelude.{ℕ}

pub data Part : Type 0 where
  None : Part
  Latency : Part
  Units : ℕ → Part
  Cycle : Part
