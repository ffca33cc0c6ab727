-- The nodes by ascending rank: each of them once, and none before one that it needs within the iteration.
-- Assumes nothing.
use Rattle.std.specs.Prelude.{◌≡◌, ◌≢◌, List, ℕ, ◌≤◌, ◌<◌, length, get_or}
use Rattle.std.proofs.Common.{ap, ⊎_elim, arith, eq-or-lt_of_le}
use Rattle.legal.specs.Loop.{Loop}
use Rattle.machine.specs.Unique.{Ranks}
use Rattle.sorted.specs.Order.{lower, ascending}
use Rattle.sorted.specs.Ordered.{order-length, order-has, order_below, order-once, order-ascends}

-- every node once; what a node needs within its iteration does not come with it or after it
pub record Sorts (g : Loop) (order : List ℕ) : Type 0 where
  pub long : length order ≡ g.graph.nodes
  pub inside : (i : ℕ) → i < length order → get_or order i 0 < g.graph.nodes
  pub has : (v : ℕ) → v < g.graph.nodes → (i : ℕ) × (i < length order) × (get_or order i 0 ≡ v)
  pub apart : (i j : ℕ) → i < j → j < length order → get_or order i 0 ≢ get_or order j 0
  pub needed : (i j : ℕ) → i ≤ j → j < length order → (e : ℕ) → e < g.graph.edges → g.delay e ≡ 0 → g.graph.head e ≡ get_or order i 0
      → g.graph.tail e ≢ get_or order j 0

module _ (g : Loop) (ranks : List ℕ) where
  rank_rises : (i j : ℕ) → i ≤ j → j < length (ascending ranks g.graph.nodes)
      → get_or ranks (get_or (ascending ranks g.graph.nodes) i 0) 0 ≤ get_or ranks (get_or (ascending ranks g.graph.nodes) j 0) 0
  rank_rises i j l m = ⊎_elim (λ q. rw q (omega arith)) (λ q. (order-ascends ranks g.graph.nodes i j q m).0) (eq-or-lt_of_le l)

  -- ranks that rise along every edge of delay 0 give such an order
  pub ascending-sorts : Ranks g (λ v. get_or ranks v 0) → Sorts g (ascending ranks g.graph.nodes)
  ascending-sorts rises = record {
    long = order-length (lower ranks) g.graph.nodes;
    inside = order_below (lower ranks) g.graph.nodes;
    has = order-has (lower ranks) g.graph.nodes;
    apart = order-once (lower ranks) g.graph.nodes;
    needed = λ i j l m e a d h t. omega (
      arith,
      rises e a d,
      ap (λ v. get_or ranks v 0) h,
      ap (λ v. get_or ranks v 0) t,
      rank_rises i j l m,
    );
  }
