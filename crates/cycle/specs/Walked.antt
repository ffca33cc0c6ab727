-- A losing closed walk read off rows, edge by edge: each row is for one edge fewer, and tells which edges keep the value.
-- Assumes nothing.
use Rattle.std.specs.Prelude.{◌≡◌, refl, Option, Some, None, IsSome, unwrap_or, ℕ, ◌+◌, ◌*◌, ◌≤◌, ◌<◌, get_or, set, take, replicate}
use Rattle.std.proofs.Common.{sym, subst, take-suc-set, get_or-set_other, add-one, arith}
use Rattle.std.proofs.Math.Bool.{true≢false}
use mathlib.Core.List.{List, [], ◌∷◌, ◌++◌}
use Rattle.std.proofs.Math.ListN.{length}
use Rattle.lists.specs.Fold.{sum_of, sum-append}
use Rattle.lists.specs.Place.{zeros-at}
use Rattle.system.specs.Graph.{Walk}
use Rattle.system.specs.System.{System, gains, costs, LosingWalk}
use Rattle.system.specs.Walks.{walk-join}
use Rattle.cycle.specs.Row.{base, Worth, Row}
use Rattle.cycle.specs.Found.{NextEdge, KeepsValue}

-- after i edges, from the start to the node, with `left` more to go
pub record Walked (s : System) (start left i : ℕ) (found : List ℕ) (node value : ℕ) : Type 0 where
  pub done : Walk s.graph start (take i found) node
  pub paid : base + 1 + gains s (take i found) ≤ value + costs s (take i found)
  pub onward : Worth s start left node value
  pub high : 65535 * left < value
  pub rest : (p : ℕ) → i ≤ p → get_or found p 0 ≡ 0

pub walked_none : (s : System) (n start left : ℕ) → left ≤ 64 → Worth s start left start (base + 1)
    → Walked s start left 0 (replicate n 0) start (base + 1)
unfolding gains costs sum_of
walked_none s n start left few w = record { done = refl; paid = omega arith; onward = w; high = omega arith; rest = λ p l. zeros-at n p }

-- with none to go it is back at its start, and has lost
pub walked_all : (s : System) (start i : ℕ) (found : List ℕ) (node value : ℕ) → Walked s start 0 i found node value → LosingWalk s (take i found)
unfolding gains costs sum_of
walked_all s start i found node value w = go w.onward.path w.onward.walk w.onward.size w.onward.enough
  where
    go : (es : List ℕ) → Walk s.graph node es start → length es ≡ 0 → value + gains s es ≤ base + costs s es → LosingWalk s (take i found)
    go [] e q h = record { from = start; closed = subst (λ u. Walk s.graph start (take i found) u) e w.done; loss = omega (arith, w.paid) }
    go (e ∷ es) v q h = absurd (omega arith)

module _ (s : System) (start left : ℕ) (row : List ℕ) (node value : ℕ) (onward : Worth s start (left + 1) node value) (rows : Row s start left row) where
  -- the first edge of a walk that is worth the value gives it, so an edge that does is found
  pub edge_found : (r : Option ℕ) → NextEdge s row node value r → IsSome r
  unfolding gains costs sum_of
  edge_found (Some r) n = refl
  edge_found None n = absurd (go onward.path onward.walk onward.size onward.enough)
    where
      go : (es : List ℕ) → Walk s.graph node es start → length es ≡ left + 1 → value + gains s es ≤ base + costs s es → ⊥
      go [] w q h = omega arith
      go (e ∷ es) w q h = n e w.0 w.1 (omega (arith, rows.over (s.graph.head e) es w.2 (omega arith)))

  -- and it is an edge of the graph
  pub edge_in : (r : Option ℕ) → NextEdge s row node value r → unwrap_or r s.graph.edges < s.graph.edges
  edge_in (Some r) n = n.within
  edge_in None n = absurd (true≢false (sym (edge_found None n)))

-- one edge more
pub walked_more : (s : System) (start left i : ℕ) (found row : List ℕ) (node value r : ℕ) → i < length found
    → Walked s start (left + 1) i found node value → Row s start left row → KeepsValue s row node value r
    → Walked s start left (i + 1) (set found i r) (s.graph.head r) (get_or row (s.graph.head r) 0)
unfolding gains costs sum_of
walked_more s start left i found row node value r l w rows k =
    let v : ℕ = s.graph.head r in
    let es : List ℕ = take i found in
    let longer : take (i + 1) (set found i r) ≡ es ++ (r ∷ []) = rw (add-one i) (take-suc-set found i r l) in
    let high : 65535 * left < get_or row v 0 = omega (arith, w.high, k.near) in
    record {
      done = rw longer (walk-join s.graph start es node (r ∷ []) v w.done (k.within, k.out, refl));
      paid = rw longer (omega (arith, w.paid, k.given, sum-append s.gain es (r ∷ []), sum-append s.cost es (r ∷ [])));
      onward = rows.worth v high;
      high = high;
      rest = λ p q. rw (get_or-set_other found i p r 0 (λ e. omega arith)) (w.rest p (omega arith));
    }
