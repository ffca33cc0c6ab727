-- A graph of numbered edges between numbered nodes; walks and cycles in it.
-- Assumes nothing.
use Rattle.std.specs.Prelude.{◌≡◌, ◌≢◌, List, [], ◌∷◌, ℕ, ◌<◌, length, get_or}

pub record Graph : Type 0 where
  pub nodes : ℕ
  pub edges : ℕ
  pub tail : ℕ → ℕ
  pub head : ℕ → ℕ

-- every edge goes from a node of the graph to a node of it
pub record Joined (g : Graph) : Type 0 where
  pub tails : (e : ℕ) → e < g.edges → g.tail e < g.nodes
  pub heads : (e : ℕ) → e < g.edges → g.head e < g.nodes

-- edge numbers, head to tail, that lead from u to v
abbrev pub Walk : Graph → ℕ → List ℕ → ℕ → Type 0
Walk g u [] v = u ≡ v
Walk g u (e ∷ es) v = (e < g.edges) × (g.tail e ≡ u) × Walk g (g.head e) es v

-- the node that the walk's edge number i leaves
abbrev pub stop : Graph → List ℕ → ℕ → ℕ
stop g es i = g.tail (get_or es i 0)

-- edge numbers, head to tail, back to where they began, through distinct nodes
pub record Cycle (g : Graph) (es : List ℕ) : Type 0 where
  pub some : 0 < length es
  pub closed : Walk g (stop g es 0) es (stop g es 0)
  pub apart : (a b : ℕ) → a < b → b < length es → stop g es a ≢ stop g es b
