-- Losing closed walks: one that meets a node twice splits into two, and one of these loses.
-- So one with the fewest edges is a cycle, and where there is any there is one with no more edges than nodes.
-- Assumes nothing.
use Rattle.std.specs.Prelude.{◌≡◌, List, [], ◌∷◌, ℕ, zero, suc, ◌≤◌, ◌<◌, length}
use Rattle.std.proofs.Common.{sym, ◌∙◌, subst, arith, not-suc-le-zero}
use Rattle.std.proofs.Math.Decide.{dec_le}
use Rattle.lists.specs.Fold.{sum_of}
use Rattle.lists.specs.Pigeon.{pigeon, Twice}
use Rattle.system.specs.Graph.{Graph, Joined, Walk, stop}
use Rattle.system.specs.System.{System, gains, costs, LosingWalk, FewestEdges}
use Rattle.system.specs.Walks.{node, node_in}
use Rattle.system.specs.Shorter.{node-stop, shorter, losing-some}

-- it begins at a node of the graph
pub losing-from : (s : System) → Joined s.graph → (es : List ℕ) (w : LosingWalk s es) → w.from < s.graph.nodes
unfolding gains costs sum_of
losing-from s j [] w = absurd (not-suc-le-zero w.loss)
losing-from s j (e ∷ es) w = omega (arith, j.tails e w.closed.0, w.closed.1)

-- a losing closed walk with the fewest edges of all is a cycle
pub fewest-is-cycle : (s : System) (es : List ℕ) → LosingWalk s es
    → ((fs : List ℕ) → LosingWalk s fs → length es ≤ length fs) → FewestEdges s es
fewest-is-cycle s es w fewest =
    let some : 0 < length es = losing-some s es w in
    let at : (i : ℕ) → i < length es → node s.graph w.from es i ≡ stop s.graph es i =
    λ i l. node-stop s.graph w.from es w.from i w.closed l in
    record {
      losing = record {
        cycle = record {
          some = some;
          closed = subst (λ u. Walk s.graph u es u) (at 0 some) w.closed;
          apart = λ a b l m same.
              let t = shorter s es w a b l m (at a (omega arith) ∙ same ∙ sym (at b m)) in
              omega (arith, fewest t.walk t.losing, t.fewer);
        };
        loss = w.loss;
      };
      fewest = fewest;
    }

pub record FewEdges (s : System) : Type 0 where
  pub walk : List ℕ
  pub losing : LosingWalk s walk
  pub few : length walk ≤ s.graph.nodes

within : (s : System) → Joined s.graph → (n : ℕ) (es : List ℕ) → length es ≤ n → LosingWalk s es → FewEdges s
within s j zero es l w = absurd (omega (arith, losing-some s es w))
within s j (suc n) es l w =
    elim (dec_le (length es) s.graph.nodes) [
      | yes h ↦ record { walk = es; losing = w; few = h }
      | no h ↦
          let g : Graph = s.graph in
          let at : ℕ → ℕ = node g w.from es in
          let t : Twice at g.nodes = pigeon g.nodes at (λ i q. node_in g j w.from es w.from i (losing-from s j es w) w.closed) in
          let r = shorter s es w t.early t.late t.early_lt (omega (arith, t.late_le)) t.same in
          within s j n r.walk (omega (arith, r.fewer)) r.losing
    ]

-- where any closed walk loses, one with no more edges than nodes does
pub losing-within : (s : System) → Joined s.graph → (es : List ℕ) → LosingWalk s es → FewEdges s
losing-within s j es w = within s j (length es) es (omega arith) w
