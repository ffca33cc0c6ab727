-- Marks and a queue while the nodes that node v reaches are being marked: what holds of them, and what an edge, the edges out of a node, one level and all levels make of them.
-- Assumes nothing.
use Rattle.std.specs.Prelude.{◌≡◌, true, ◌⊎◌, List, ℕ, ◌+◌, ◌≤◌, ◌<◌, length, get_or}
use Rattle.legal.specs.Loop.{Loop}
use Rattle.reach.specs.Weight.{tight}
use Rattle.reach.specs.Reached.{Marked, AllReached}
use Rattle.reach.specs.Tables.{marked, TellsTight}

-- the places before `end` hold marked nodes, as many as there are
pub record Queued (m q : List ℕ) (end : ℕ) : Type 0 where
  pub marks_long : length m ≡ 64
  pub queue_long : length q ≡ 64
  pub counted : end ≡ marked m 64
  pub node_in : (i : ℕ) → i < end → get_or q i 0 < 64
  pub node_marked : (i : ℕ) → i < end → Marked m (get_or q i 0)

-- node u stands at a place from `from` on, before `end`
pub record Waits (q : List ℕ) (from end u : ℕ) : Type 0 where
  pub place : ℕ
  pub place_from : from ≤ place
  pub place_to : place < end
  pub is_node : get_or q place 0 ≡ u

-- what is marked is reached from v, and a tight edge out of a marked node has its head marked too, or its tail still waits, or the edge is late
pub record Marking (g : Loop) (r : ℕ → ℕ) (v : ℕ) (m q : List ℕ) (from end : ℕ) (Late : ℕ → Type 0) : Type 0 where
  pub in_queue : from ≤ end
  pub start-in : v < g.graph.nodes
  pub start : Marked m v
  pub walked : AllReached g r v m
  pub onward : (e : ℕ) → e < g.graph.edges → tight g r e ≡ true → Marked m (g.graph.tail e)
      → Marked m (g.graph.head e) ⊎ (Waits q from end (g.graph.tail e) ⊎ Late e)

abbrev pub None : ℕ → Type 0
None e = ⊥

-- the edges out of u from edge e on
abbrev pub OutFrom : Loop → ℕ → ℕ → ℕ → Type 0
OutFrom g u e d = (g.graph.tail d ≡ u) × (e ≤ d)

-- one edge is met: its head is marked if the edge is tight, and nothing else is
pub record Met (head tight : ℕ) (m q : List ℕ) (end : ℕ) (m' q' : List ℕ) (end' : ℕ) : Type 0 where
  pub queued : Queued m' q' end'
  pub grows : end ≤ end'
  pub marks : tight ≡ 1 → Marked m' head
  pub keeps : (u : ℕ) → Marked m u → Marked m' u
  pub place-keeps : (i : ℕ) → i < end → get_or q' i 0 ≡ get_or q i 0
  pub new : (u : ℕ) → Marked m' u → Marked m u ⊎ ((tight ≡ 1) × (u ≡ head) × Waits q' end end' u)

module _ (edges : ℕ) (first next heads tights : List ℕ) where
  -- no edge out of the node is late any more
  pub record Spread (node : ℕ) (m q : List ℕ) (end : ℕ) (m' q' : List ℕ) (end' : ℕ) : Type 0 where
    pub queued : Queued m' q' end'
    pub grows : end ≤ end'
    pub spreads : (g : Loop) (r : ℕ → ℕ) (v from : ℕ) → TellsTight g r edges first next heads tights → Marked m node
        → Marking g r v m q from end (OutFrom g node 0) → Marking g r v m' q' from end' None

  -- the nodes from place `from` on wait no more; those that were marked meanwhile do
  pub record Levelled (from : ℕ) (m q : List ℕ) (to : ℕ) (m' q' : List ℕ) (end : ℕ) : Type 0 where
    pub queued : Queued m' q' end
    pub grows : to ≤ end
    pub levels : (g : Loop) (r : ℕ → ℕ) (v : ℕ) → TellsTight g r edges first next heads tights
        → Marking g r v m q from to None → Marking g r v m' q' to end None

  -- no node waits, where there are levels enough for all nodes
  pub record Reaches (from left : ℕ) (m q : List ℕ) (to : ℕ) (m' q' : List ℕ) (end : ℕ) : Type 0 where
    pub queued : Queued m' q' end
    pub grows : to ≤ end
    pub reaches : (g : Loop) (r : ℕ → ℕ) (v : ℕ) → TellsTight g r edges first next heads tights → (from < to → g.graph.nodes < to + left)
        → Marking g r v m q from to None → Marking g r v m' q' end end None
