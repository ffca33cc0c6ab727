-- Each part of the floor bounds the length of every legal pair, (a) of a plain one, and so does the floor.
-- Assumes nothing.
use Rattle.std.specs.Prelude.{◌≡◌, ◌≤◌}
use Rattle.std.proofs.Common.{arith}
use Rattle.lists.specs.Sums.{top-each, top-under}
use Rattle.legal.specs.Loop.{plain, Loop, Pair, latency}
use Rattle.legal.specs.Legal.{Legal}
use Rattle.legal.specs.Shape.{Sound, plain-ends}
use Rattle.legal.specs.Paced.{paces-settle}
use Rattle.floor.specs.Parts.{latency_part, cycle_part, floor_length}
use Rattle.floor.specs.Busy.{all-units-bound}
use Rattle.floor.specs.Least.{enough, enough-over}

-- every operation takes a step, so the largest latency is at least 1
pub latency-one : (g : Loop) → Sound g → 1 ≤ latency_part g
unfolding latency_part
latency-one g s = omega (arith, s.works 0 s.some, top-each (latency g) g.graph.nodes 0 s.some)

module _ (g : Loop) (p : Pair) (s : Sound g) (legal : Legal g p) where
  -- (a) every operation of a plain pair ends in the body
  pub latency-bound : p.kind ≡ plain → latency_part g ≤ p.length
  unfolding latency_part
  latency-bound is_plain = top-under (latency g) p.length g.graph.nodes (λ v l. omega (arith, (legal.body v l).begins, plain-ends g p is_plain v (legal.body v l)))

  -- (c) the pair's length is enough for every cycle
  pub cycle-bound : cycle_part g ≤ p.length
  unfolding enough
  cycle-bound = enough-over g p.length legal.steps.0 (paces-settle g p legal.edges s)

  -- no legal plain pair is shorter than the floor
  pub floor-bound : p.kind ≡ plain → floor_length g ≤ p.length
  unfolding floor_length
  floor-bound is_plain = omega (arith, latency-bound is_plain, all-units-bound g p legal, cycle-bound)
