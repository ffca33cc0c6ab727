-- What the search for a losing cycle with the fewest edges answers, and what its parts do.
-- Assumes nothing.
use Rattle.std.specs.Prelude.{◌≡◌, refl, Option, Some, None, MatchOption, List, [], ◌∷◌, ℕ, ◌+◌, ◌≤◌, ◌<◌, get_or, take, length}
use Rattle.std.proofs.Common.{sym, subst, arith, below_none, below_more}
use Rattle.std.proofs.Math.Decide.{dec_lt}
use Rattle.lists.specs.Fold.{sum_of}
use Rattle.answer.specs.declared.Cycle.{Cycle}
use Rattle.answer.specs.Outcome.{edges_of}
use Rattle.answer.specs.Tally.{Tallies}
use Rattle.system.specs.Graph.{Walk, Joined}
use Rattle.system.specs.System.{System, system_of, gains, costs, LosingWalk, FewestEdges}
use Rattle.cycle.specs.Row.{base, Worth, Row, Gives}
use Rattle.system.specs.declared.Constraints.{Constraints}
use Rattle.cycle.specs.declared.Start.{Start}

-- the system that tables hold, read as one of 64 nodes: a row has a place for each
abbrev pub wide : ℕ → List ℕ → List ℕ → List ℕ → List ℕ → System
wide e tails heads gs cs = system_of 64 e tails heads gs cs

-- at most 256 edges, among 64 nodes
pub record Tables (e : ℕ) (tails heads gs cs : List ℕ) : Type 0 where
  pub few : e ≤ 256
  pub joined : Joined (wide e tails heads gs cs).graph

-- the same of tables that are lent together
abbrev pub wide_in : Constraints → System
wide_in c = wide c.edges c.tails.now c.heads.now c.gains.now c.costs.now

abbrev pub TablesIn : Constraints → Type 0
TablesIn c = Tables c.edges c.tails.now c.heads.now c.gains.now c.costs.now

-- no closed walk of fewer than n edges through the node loses
abbrev pub NoneBelow : System → ℕ → ℕ → Type 0
NoneBelow s node n = (es : List ℕ) → Walk s.graph node es node → length es < n → costs s es ≤ gains s es

-- the shortest losing closed walk through the node has k edges, which is below the limit
pub record Fewest (s : System) (node limit k : ℕ) : Type 0 where
  pub some : 0 < k
  pub within : k < limit
  pub fewer : NoneBelow s node k
  pub found : Worth s node k node (base + 1)

-- its number of edges, if one has fewer than the limit
abbrev pub FewestAt : System → ℕ → ℕ → Option ℕ → Type 0
FewestAt s node limit r = MatchOption r (NoneBelow s node limit) (Fewest s node limit)

-- no closed walk of fewer than `limit` edges through a node below `seen` loses
abbrev pub NoneAmong : System → ℕ → ℕ → Type 0
NoneAmong s seen limit = (v : ℕ) → v < seen → NoneBelow s v limit

-- a losing closed walk of `limit` edges, at most n, begins at a node below `seen`
pub record Begins (s : System) (n seen limit : ℕ) (start : Start) : Type 0 where
  pub size : start.count ≡ limit
  pub some : 0 < start.count
  pub within : start.count ≤ n
  pub inside : start.node < seen
  pub found : Worth s start.node start.count start.node (base + 1)

-- the best start of the nodes below `seen`, and the number of edges that one more must stay below
pub record BestSoFar (s : System) (n seen limit : ℕ) (best : Option Start) : Type 0 where
  pub fewer : NoneAmong s seen limit
  pub start : MatchOption best (limit ≡ n + 1) (Begins s n seen limit)

-- of n nodes one with the fewest edges, if a closed walk of at most n edges loses
abbrev pub BestStart : System → ℕ → Option Start → Type 0
BestStart s n best = MatchOption best (NoneAmong s n (n + 1)) (λ start. NoneAmong s n start.count × Begins s n n start.count start)

-- the edge does not both leave the node and give the value
abbrev pub Left : System → List ℕ → ℕ → ℕ → ℕ → Type 0
Left s row node value e = s.graph.tail e ≡ node → Gives s row e value → ⊥

-- the edge r is the first that does
pub record KeepsValue (s : System) (row : List ℕ) (node value r : ℕ) : Type 0 where
  pub within : r < s.graph.edges
  pub first : (e : ℕ) → e < r → Left s row node value e
  pub out : s.graph.tail r ≡ node
  pub given : Gives s row r value
  pub near : value ≤ get_or row (s.graph.head r) 0 + 65535

-- the first such edge, if there is one
abbrev pub NextEdge : System → List ℕ → ℕ → ℕ → Option ℕ → Type 0
NextEdge s row node value r = MatchOption r ((e : ℕ) → e < s.graph.edges → Left s row node value e) (KeepsValue s row node value)

-- a closed walk of so many edges that loses
pub record ClosedWalk (s : System) (count : ℕ) (r : Cycle) : Type 0 where
  pub size : r.count ≡ count
  pub losing : LosingWalk s (take count r.edges)
  pub tallies : Tallies r

-- a losing cycle with the fewest edges of all losing closed walks, or none where no closed walk loses
pub record FoundCycle (s : System) (r : Cycle) : Type 0 where
  pub none : r.count ≡ 0 → (es : List ℕ) → LosingWalk s es → ⊥
  pub some : 0 < r.count → FewestEdges s (edges_of r)
  pub few : r.count ≤ s.graph.nodes
  pub tallies : Tallies r

pub none_below_one : (s : System) (node : ℕ) → NoneBelow s node 1
unfolding gains costs sum_of
none_below_one s node [] w l = omega arith
none_below_one s node (e ∷ es) w l = omega arith

module _ (s : System) (node k : ℕ) (row : List ℕ) (r : Row s node k row) where
  -- where the row stands at the base or below it there, one edge more
  pub none-below-more : get_or row node 0 ≤ base → NoneBelow s node k → NoneBelow s node (k + 1)
  none-below-more low none es w l =
      elim (dec_lt (length es) k) [
        | yes h ↦ none es w h
        | no h ↦ omega (arith, r.over node es w (omega arith))
      ]

  -- above the base a closed walk of k edges loses
  pub loses : base < get_or row node 0 → k ≤ 64 → Worth s node k node (base + 1)
  loses high few =
      let w = r.worth node (omega arith) in
      record { path = w.path; walk = w.walk; size = w.size; enough = omega (arith, w.enough) }

pub best_none : (s : System) (n limit : ℕ) → limit ≡ n + 1 → BestSoFar s n 0 limit None
best_none s n limit e = record { fewer = below_none _; start = e }

-- one node more, the node i: better than the best so far, or not
module _ (s : System) (n i limit : ℕ) (best : Option Start) (b : BestSoFar s n i limit best) where
  among-more : (m : ℕ) → m ≤ limit → NoneBelow s i m → NoneAmong s (i + 1) m
  among-more m l here =
      below_more (λ v. NoneBelow s v m) i (λ v q es w h. b.fewer v q es w (omega arith)) here

  pub best-better : limit ≤ n + 1 → (k : ℕ) → Fewest s i limit k → BestSoFar s n (i + 1) k (Some (record { node = i; count = k }))
  best-better l k f = record {
    fewer = among-more k (omega (arith, f.within)) f.fewer;
    start = record { size = refl; some = f.some; within = omega (arith, f.within); inside = omega arith; found = f.found };
  }

  pub best-kept : NoneBelow s i limit → BestSoFar s n (i + 1) limit best
  best-kept here = record { fewer = among-more limit (omega arith) here; start = kept best b.start }
    where
      kept : (r : Option Start) → MatchOption r (limit ≡ n + 1) (Begins s n i limit) → MatchOption r (limit ≡ n + 1) (Begins s n (i + 1) limit)
      kept None e = e
      kept (Some start) w = record { size = w.size; some = w.some; within = w.within; inside = omega (arith, w.inside); found = w.found }

-- of all nodes
pub best-all : (s : System) (n limit : ℕ) (best : Option Start) → BestSoFar s n n limit best → BestStart s n best
best-all s n limit None b = subst (NoneAmong s n) b.start b.fewer
best-all s n limit (Some start) b =
    (subst (NoneAmong s n) (sym b.start.size) b.fewer, record { size = refl; some = b.start.some; within = b.start.within; inside = b.start.inside; found = b.start.found })
