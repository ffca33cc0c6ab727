-- Tables that tell a loop's edges and the links between them, the room for what operands are read from, and one operand.
-- Assumes nothing.
use Rattle.std.specs.Prelude.{◌≡◌, List, ℕ, ◌+◌, ◌-◌, ◌*◌, ◌≤◌, ◌<◌, ltb, length, get_or}
use Rattle.lists.specs.Pick.{pick}
use Rattle.links.specs.Chains.{first_with}
use Rattle.form.specs.declared.Operation.{Operation}
use Rattle.legal.specs.Loop.{Loop}
use Rattle.operands.specs.declared.Inputs.{Inputs}

-- the start table, and the values as far as iteration i
pub record HasRoom (nodes i : ℕ) (starts values : List ℕ) : Type 0 where
  pub for_starts : 15 * nodes ≤ length starts
  pub for_values : i * nodes + nodes ≤ length values

-- what an edge from node u with d delays hands to iteration i
unfoldable pub handed : ℕ → List ℕ → List ℕ → ℕ → ℕ → ℕ → ℕ
handed nodes starts values i u d =
    pick (ltb i d) (get_or starts (15 * u + (d - i) - 1) 0)
    (get_or values ((i - d) * nodes + u) 0)

-- edges come from nodes, with up to 15 delays; links lead on
pub record TailsLinked (nodes edges : ℕ) (tails delays next : List ℕ) : Type 0 where
  pub few : edges ≤ 256
  pub tail-in : (e : ℕ) → e < edges → get_or tails e 0 < nodes
  pub delay_in : (e : ℕ) → e < edges → get_or delays e 0 ≤ 15
  pub leads-on : (e : ℕ) → e < edges → e < get_or next e 0
  pub leads-in : (e : ℕ) → e < edges → get_or next e 0 ≤ edges

-- the tables hold the loop's edges
pub record Tells (g : Loop) (nodes edges : ℕ) (tails delays : List ℕ) : Type 0 where
  pub all-nodes : g.graph.nodes ≡ nodes
  pub all_edges : g.graph.edges ≡ edges
  pub is_tail : (e : ℕ) → e < edges → g.graph.tail e ≡ get_or tails e 0
  pub is_delay : (e : ℕ) → e < edges → g.delay e ≡ get_or delays e 0

-- the operation is node v's, and the links begin with the first edge into it
pub record Follows (g : Loop) (v : ℕ) (operation : Operation) (first : ℕ) (next : List ℕ) : Type 0 where
  pub is_operation : (g.node v).operation ≡ operation
  pub is_first : first ≡ first_with g.graph.head v g.graph.edges 0
  pub is_next : (e : ℕ) → e < g.graph.edges
      → get_or next e 0 ≡ first_with g.graph.head (g.graph.head e) (g.graph.edges - (e + 1)) (e + 1)

-- tables, operation and links are those of some node of some loop
abbrev pub Meant : ℕ → ℕ → List ℕ → List ℕ → Operation → ℕ → List ℕ → Type 0
Meant nodes edges tails delays operation first next = (g : Loop) × ((v : ℕ) × Tells g nodes edges tails delays × Follows g v operation first next)

-- the same of tables that are lent together
abbrev pub LinkedIn : Inputs → Type 0
LinkedIn x = TailsLinked x.nodes x.edges x.from.now x.delays.now x.next.now

abbrev pub TellsIn : Loop → Inputs → Type 0
TellsIn g x = Tells g x.nodes x.edges x.from.now x.delays.now

abbrev pub FollowsIn : Loop → ℕ → Operation → ℕ → Inputs → Type 0
FollowsIn g v operation first x = Follows g v operation first x.next.now

abbrev pub MeantIn : Inputs → Operation → ℕ → Type 0
MeantIn x operation first = Meant x.nodes x.edges x.from.now x.delays.now operation first x.next.now
