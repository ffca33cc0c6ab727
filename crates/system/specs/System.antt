-- A system of constraints y(tail) + cost ≤ y(head) + gain, one for each edge of a graph.
-- Read the other way up, with x = C - y for a large C, it is x(head) + cost ≤ x(tail) + gain: values that fall from C are values that rise from 0.
-- Assumes nothing.
use Rattle.std.specs.Prelude.{List, ℕ, ◌+◌, ◌≤◌, ◌<◌, length, get_or}
use Rattle.lists.specs.Fold.{sum_of}
use Rattle.system.specs.Graph.{Graph, Walk, Cycle}

pub record System : Type 0 where
  pub graph : Graph
  pub gain : ℕ → ℕ
  pub cost : ℕ → ℕ

-- y meets every constraint
abbrev pub Solves : System → (ℕ → ℕ) → Type 0
Solves s y = (e : ℕ) → e < s.graph.edges → y (s.graph.tail e) + s.cost e ≤ y (s.graph.head e) + s.gain e

unfoldable pub gains : System → List ℕ → ℕ
gains s es = sum_of s.gain es

unfoldable pub costs : System → List ℕ → ℕ
costs s es = sum_of s.cost es

-- a cycle that costs more than it gains
pub record Losing (s : System) (es : List ℕ) : Type 0 where
  pub cycle : Cycle s.graph es
  pub loss : gains s es < costs s es

-- a closed walk from u that costs more than it gains
pub record LosingWalk (s : System) (es : List ℕ) : Type 0 where
  pub from : ℕ
  pub closed : Walk s.graph from es from
  pub loss : gains s es < costs s es

-- a losing cycle with the fewest edges of all losing closed walks
pub record FewestEdges (s : System) (es : List ℕ) : Type 0 where
  pub losing : Losing s es
  pub fewest : (fs : List ℕ) → LosingWalk s fs → length es ≤ length fs

-- the system that tables of tails, heads, gains and costs hold
unfoldable pub system_of : ℕ → ℕ → List ℕ → List ℕ → List ℕ → List ℕ → System
system_of n e tails heads gs cs = record {
  graph = record { nodes = n; edges = e; tail = λ i. get_or tails i 0; head = λ i. get_or heads i 0 };
  gain = λ i. get_or gs i 0;
  cost = λ i. get_or cs i 0;
}
