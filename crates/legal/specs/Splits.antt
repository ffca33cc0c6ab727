-- Losing closed walks hold losing cycles: one that meets a node twice splits into two, and one of these loses.
-- Assumes nothing.
use Rattle.std.specs.Prelude.{◌≡◌, ◌⊎◌, ◌≢◌, List, [], ◌∷◌, ℕ, zero, suc, ◌-◌, ◌≤◌, ◌<◌, length, get_or}
use Rattle.std.proofs.Common.{sym, ◌∙◌, subst, inl, inr, arith, not-suc-le-zero, le_of_suc-le-suc}
use Rattle.std.proofs.Math.Decide.{dec_le}
use Rattle.lists.specs.Pigeon.{pigeon, Twice, twice-or-apart}
use Rattle.system.specs.Graph.{Graph, Joined, Walk, Cycle, stop}
use Rattle.system.specs.System.{System, Losing, LosingWalk}
use Rattle.system.specs.Walks.{node}
use Rattle.system.specs.Shorter.{node-stop, shorter, losing-some}

-- a losing cycle is a losing closed walk
pub losing-walk : (s : System) (es : List ℕ) → Losing s es → LosingWalk s es
losing-walk s es c = record { from = stop s.graph es 0; closed = c.cycle.closed; loss = c.loss }

-- a losing closed walk that comes to no node twice is a cycle
apart-losing : (s : System) (es : List ℕ) (w : LosingWalk s es)
    → ((a b : ℕ) → a < b → b ≤ length es - 1 → node s.graph w.from es a ≢ node s.graph w.from es b) → Losing s es
apart-losing s es w apart =
    let some : 0 < length es = losing-some s es w in
    let at : (i : ℕ) → i < length es → node s.graph w.from es i ≡ stop s.graph es i =
    λ i l. node-stop s.graph w.from es w.from i w.closed l in
    record {
      cycle = record {
        some = some;
        closed = subst (λ u. Walk s.graph u es u) (at 0 some) w.closed;
        apart = λ a b l m same. apart a b l (omega arith) (at a (omega arith) ∙ same ∙ sym (at b m));
      };
      loss = w.loss;
    }

splits : (s : System) (n : ℕ) (es : List ℕ) → length es ≤ n → LosingWalk s es → (fs : List ℕ) × Losing s fs
splits s zero es l w = absurd (omega (arith, losing-some s es w))
splits s (suc n) es l w = go (splits s n) (twice-or-apart (node s.graph w.from es) (length es - 1))
  where
    go : ((fs : List ℕ) → length fs ≤ n → LosingWalk s fs → (fs : List ℕ) × Losing s fs)
        → Twice (node s.graph w.from es) (length es - 1) ⊎ ((a b : ℕ) → a < b → b ≤ length es - 1 → node s.graph w.from es a ≢ node s.graph w.from es b)
        → (fs : List ℕ) × Losing s fs
    go ih (inl t) =
        let r = shorter s es w t.early t.late t.early_lt (omega (arith, losing-some s es w)) t.same in
        ih r.walk (omega (arith, r.fewer)) r.losing
    go ih (inr apart) = (es, apart-losing s es w apart)

-- where any closed walk loses, a cycle does
pub losing-cycle : (s : System) (es : List ℕ) → LosingWalk s es → (fs : List ℕ) × Losing s fs
losing-cycle s es w = splits s (length es) es (omega arith) w

-- the edges of a walk are edges of the graph
pub walk-edge : (g : Graph) (u : ℕ) (es : List ℕ) (v i : ℕ) → Walk g u es v → i < length es → get_or es i 0 < g.edges
walk-edge g u [] v i w l = absurd (not-suc-le-zero l)
walk-edge g u (e ∷ es) v zero w l = w.0
walk-edge g u (e ∷ es) v (suc i) w l = walk-edge g (g.head e) es v i w.2 (le_of_suc-le-suc l)

-- a cycle has no more edges than the graph has nodes
pub cycle-few : (g : Graph) → Joined g → (es : List ℕ) → Cycle g es → length es ≤ g.nodes
cycle-few g j es c =
    elim (dec_le (length es) g.nodes) [
      | yes h ↦ h
      | no h ↦
          let t : Twice (stop g es) g.nodes = pigeon g.nodes (stop g es) (λ i l. j.tails (get_or es i 0) (walk-edge g (stop g es 0) es (stop g es 0) i c.closed (omega arith))) in
          absurd (c.apart t.early t.late t.early_lt (omega (arith, t.late_le)) t.same)
    ]
