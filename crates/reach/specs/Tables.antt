-- Tables that tell a loop's edges and which of them are tight, marks that are counted, and the weights as a table.
-- Assumes nothing.
use Rattle.std.specs.Prelude.{◌≡◌, List, ℕ, ◌+◌, ◌≤◌, ◌<◌, eqb, get_or}
use Rattle.std.proofs.Common.{arith}
use Rattle.lists.specs.Filled.{filled, filled_at}
use Rattle.lists.specs.Span.{span}
use Rattle.lists.specs.Fold.{count}
use Rattle.links.specs.Chains.{Chains}
use Rattle.system.specs.Graph.{Joined}
use Rattle.legal.specs.Loop.{Loop}
use Rattle.tables.specs.Edges.{Ends}
use Rattle.reach.specs.Weight.{tight, weight}

-- how many of the first n nodes are marked
unfoldable pub marked : List ℕ → ℕ → ℕ
marked m n = count (λ u. eqb (get_or m u 0) 1) (span 0 n)

-- the table holds the retimings of the nodes
abbrev pub Retimed : (ℕ → ℕ) → ℕ → List ℕ → Type 0
Retimed r nodes retiming = (v : ℕ) → v < nodes → r v ≡ get_or retiming v 0

-- a 1 for each of the first n edges of the tables whose retimed delay is 0, and for no other
abbrev pub TightsTabled : List ℕ → List ℕ → List ℕ → List ℕ → ℕ → List ℕ → Type 0
TightsTabled from to delays retiming n tights =
    (e : ℕ) → e < n → eqb (get_or delays e 0 + get_or retiming (get_or from e 0) 0) (get_or retiming (get_or to e 0) 0) ≡ eqb (get_or tights e 0) 1

-- the edges have places in the tables and their heads in the marks, and the links lead on among them
pub record HeadsLinked (edges : ℕ) (first next heads : List ℕ) : Type 0 where
  pub few : edges ≤ 256
  pub begins : (v : ℕ) → v < 64 → get_or first v 0 ≤ edges
  pub leads-on : (e : ℕ) → e < edges → e < get_or next e 0
  pub leads-in : (e : ℕ) → e < edges → get_or next e 0 ≤ edges
  pub head_in : (e : ℕ) → e < edges → get_or heads e 0 < 64

-- the tables hold the loop's edges, linked by their tails, and 1 for those that the retiming makes tight
pub record TellsTight (g : Loop) (r : ℕ → ℕ) (edges : ℕ) (first next heads tights : List ℕ) : Type 0 where
  pub joined : Joined g.graph
  pub few_nodes : g.graph.nodes ≤ 64
  pub all : g.graph.edges ≡ edges
  pub key : ℕ → ℕ
  pub out : Chains key edges first next
  pub is_tail : (e : ℕ) → e < edges → g.graph.tail e ≡ key e
  pub is_head : (e : ℕ) → e < edges → g.graph.head e ≡ get_or heads e 0
  pub is-tight : (e : ℕ) → e < edges → tight g r e ≡ eqb (get_or tights e 0) 1

-- the weight of each node, and 0 past the nodes
unfoldable pub weights_of : Loop → (ℕ → ℕ) → List ℕ
weights_of g r = filled 64 (weight g r) g.graph.nodes

-- the place of a node holds its weight
pub weights-at : (g : Loop) (r : ℕ → ℕ) (v : ℕ) → v < g.graph.nodes → get_or (weights_of g r) v 0 ≡ weight g r v
unfolding weights_of
weights-at g r v l = filled_at 64 (weight g r) g.graph.nodes v l

-- tables of so many nodes have a place for each node in tables of 64
pub ends-wide : (nodes edges : ℕ) (from to : List ℕ) → Ends nodes edges from to → Ends 64 edges from to
ends-wide nodes edges from to w = record {
  some = omega arith;
  most = omega arith;
  few = w.few;
  tail-in = λ e l. omega (arith, w.tail-in e l, w.most);
  head_in = λ e l. omega (arith, w.head_in e l, w.most);
}
