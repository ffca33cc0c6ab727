-- What the floor reads in tables: how many of some numbers, each edge's cost; the busiest of some classes.
-- Assumes nothing.
use Rattle.std.specs.Prelude.{◌≡◌, false, List, map, ℕ, ◌≤◌, ◌<◌, eqb, get_or}
use Rattle.lists.specs.Span.{span}
use Rattle.lists.specs.Fold.{count, top}
use Rattle.system.specs.System.{System, system_of}
use Rattle.legal.specs.Loop.{Loop, latency}
use Rattle.legal.specs.Shape.{Sound}
use Rattle.legal.specs.Systems.{knotted}
use Rattle.tables.specs.Edges.{Ends, Told}
use Rattle.floor.specs.Parts.{latency_part, units_part, floor_length}
use Rattle.form.specs.declared.Edges.{Edges}

-- how many of the first n numbers of a table are x
unfoldable pub how_many : List ℕ → ℕ → ℕ → ℕ
how_many xs x n = count (λ v. eqb (get_or xs v 0) x) (span 0 n)

-- edges between nodes of the tables, with up to 15 delays
pub record Edged (nodes edges : ℕ) (from to delays : List ℕ) : Type 0 where
  pub ends : Ends nodes edges from to
  pub short : (e : ℕ) → e < edges → get_or delays e 0 ≤ 15

-- the table holds the latency of each edge's tail
abbrev pub Costed : Loop → ℕ → List ℕ → Type 0
Costed g m cs = (e : ℕ) → e < m → get_or cs e 0 ≡ latency g (g.graph.tail e)

-- the tables hold the edges of a loop without a knot, and what they cost
pub record Paced (g : Loop) (nodes edges : ℕ) (from to delays costs : List ℕ) : Type 0 where
  pub sound : Sound g
  pub free : knotted g ≡ false
  pub told : Told g nodes edges from to delays
  pub costed : Costed g edges costs

-- the same of edges that are lent together
abbrev pub EdgedIn : ℕ → Edges → Type 0
EdgedIn nodes e = Edged nodes e.count e.from.now e.to.now e.delays.now

abbrev pub PacedBy : Loop → ℕ → Edges → List ℕ → Type 0
PacedBy g nodes e costs = Paced g nodes e.count e.from.now e.to.now e.delays.now costs

-- the system that they hold, with what they gain and cost
abbrev pub held_in : ℕ → Edges → List ℕ → List ℕ → System
held_in nodes e gains costs = system_of nodes e.count e.from.now e.to.now gains costs

-- of the first n classes the largest part (b), and the lowest class that it is of
pub record Busy (g : Loop) (n part class : ℕ) : Type 0 where
  pub most : part ≡ top (map (units_part g) (span 0 n))
  pub here : 0 < part → (class < n) × (units_part g class ≡ part)
  pub before : (d : ℕ) → d < class → units_part g d < part

-- parts (a) and (b), the latter with the lowest class that it is of, and the floor
pub record Measured (g : Loop) (latency units class floor : ℕ) : Type 0 where
  pub latency_is : latency ≡ latency_part g
  pub units-is : Busy g g.classes units class
  pub floor-is : floor ≡ floor_length g
