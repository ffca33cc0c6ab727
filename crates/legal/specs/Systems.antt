-- The systems that a loop gives: for knots, for retimings that fit given starts, for a length.
-- Assumes nothing.
use Rattle.std.specs.Prelude.{Bool, not, List, ℕ, ◌+◌, ◌-◌, ◌*◌, ◌/◌, ◌≤◌, ◌<◌}
use Rattle.lists.specs.Fold.{sum_of}
use Rattle.system.specs.Graph.{Cycle}
use Rattle.system.specs.System.{System}
use Rattle.system.specs.Rounds.{settled_of}
use Rattle.legal.specs.Loop.{Loop, Pair, latency}
use Rattle.legal.specs.Legal.{finish}

-- each edge costs 1, and a delay gains more than any cycle costs: 64 nodes at most
unfoldable pub knots : Loop → System
knots g = record { graph = g.graph; gain = λ e. 64 * g.delay e; cost = λ e. 1 }

unfoldable pub knotted : Loop → Bool
knotted g = not (settled_of (knots g)).settled

-- an edge's limit is its delays less this: s(u) + t(u) - s(v) over the length, rounded up
unfoldable pub lateness : Loop → Pair → ℕ → ℕ
lateness g p e = (finish g p (g.graph.tail e) + (p.length - 1) - p.start (g.graph.head e)) / p.length

-- r(v) - r(u) is at most the edge's limit
unfoldable pub limits : Loop → Pair → System
limits g p = record { graph = g.graph; gain = g.delay; cost = lateness g p }

-- the retiming fits the starts
abbrev pub Fits : Loop → Pair → (ℕ → ℕ) → Type 0
Fits g p r = (e : ℕ) → e < g.graph.edges → r (g.graph.head e) + lateness g p e ≤ r (g.graph.tail e) + g.delay e

-- a cycle with negative limit sum
pub record Impossible (g : Loop) (p : Pair) (es : List ℕ) : Type 0 where
  pub cycle : Cycle g.graph es
  pub negative : sum_of g.delay es < sum_of (lateness g p) es

-- a cycle that length l is too short for: its latencies are more than l times its delays
unfoldable pub paces : Loop → ℕ → System
paces g l = record { graph = g.graph; gain = λ e. l * g.delay e; cost = λ e. latency g (g.graph.tail e) }
