-- `floor::parts_of` meets its contract.
-- Assumes nothing.
use mathlib.Core.Path.{◌∙◌}
use native.Mathlib.Omega.{arith}
use Rattle.floor.specs.Bounds.{latency-one}
use Rattle.floor.proofs.Answers.{latency-known, floor-of}
use Rattle.floor.proofs.parts_of.Goals as goal

pub cycle_over-requires : goal.cycle_over-requires
cycle_over-requires c =
    (c.requires.0, omega (arith, c.max-least.ensures, c.busiest_class-busiest.ensures.1, c.wide-latency.ensures.1))

pub returns : goal.returns
returns c g p paced timed =
    let is-latency = c.wide-latency.ensures.0 ∙ c.largest.ensures ∙ latency-known g p _ timed in
    let units = c.busiest_class-busiest.ensures.0 g p timed in
    record {
      latency_is = is-latency;
      units-is = units;
      floor-is = floor-of g _ _ _ _ is-latency units.most c.max-least.ensures (c.cycle_over.ensures g paced (omega (arith, c.max-least.ensures, is-latency, latency-one g paced.sound)));
    }
