-- The three parts of the floor: (a) latencies, (b) busy steps over units, (c) cycles. Each by itself bounds the length of every legal pair.
-- Assumes nothing.
use Rattle.std.specs.Prelude.{map, ℕ, ◌+◌, ◌-◌, ◌*◌, ◌/◌, max, eqb}
use Rattle.lists.specs.Span.{span}
use Rattle.lists.specs.Fold.{count, top}
use Rattle.lists.specs.First.{first_from}
use Rattle.system.specs.Rounds.{settled_of}
use Rattle.form.specs.Hold.{hold}
use Rattle.legal.specs.Loop.{Loop, ran_on, latency}
use Rattle.legal.specs.Systems.{paces}

module _ (g : Loop) where
  -- (a) the largest latency of a used class
  unfoldable pub latency_part : ℕ
  latency_part = top (map (latency g) (span 0 g.graph.nodes))

  -- how many nodes run on a class
  unfoldable pub nodes_on : ℕ → ℕ
  nodes_on c = count (λ v. eqb (ran_on g v) c) (span 0 g.graph.nodes)

  -- (b) of one class: busy steps over units, rounded up
  unfoldable pub units_part : ℕ → ℕ
  units_part c = (nodes_on c * hold (g.class c) + ((g.class c).units - 1)) / (g.class c).units

  -- (b) the largest of all classes
  unfoldable pub units_parts : ℕ
  units_parts = top (map units_part (span 0 g.classes))

  -- (c) the least length, from 1, at which no cycle has a latency sum above length times delay sum; 512 is enough for every loop without a knot
  unfoldable pub cycle_part : ℕ
  cycle_part = first_from (λ l. (settled_of (paces g l)).settled) 512 1

  unfoldable pub floor_length : ℕ
  floor_length = max latency_part (max units_parts cycle_part)
