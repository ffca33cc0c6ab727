-- What the list rule needs to place every node, and what holds when it has.
-- Assumes nothing.
use Rattle.std.specs.Prelude.{◌≡◌, true, false, List, ℕ, ◌+◌, ◌≤◌, ◌<◌, eqb, length, get_or}
use Rattle.std.proofs.Common.{arith, eqb-true}
use Rattle.std.proofs.lemmas.Bool.{eqb-false}
use Rattle.lists.specs.Span.{span}
use Rattle.lists.specs.Fold.{count}
use Rattle.lists.specs.Count.{count-some}
use Rattle.lists.specs.Counted.{none-span}
use Rattle.form.specs.declared.Form.{Form}
use Rattle.form.specs.Ranges.{WellFormed}
use Rattle.legal.specs.Loop.{Loop, latency, ran_on, loop_of, graph_of}
use Rattle.legal.specs.Shape.{Sound}
use Rattle.reach.specs.Weight.{tight}
use Rattle.sorted.specs.Ordered.{order-has, order_below}
use Rattle.list_rule.specs.Order.{heavier, order_of}
use Rattle.list_rule.specs.Rule.{start_number, are_all_placed, length_of}
use Rattle.list_rule.specs.Ends.{EndsBy, length-ends, length-least}

-- the class of every node has a unit
abbrev pub Staffed : Loop → Type 0
Staffed g = (v : ℕ) → v < g.graph.nodes → 1 ≤ (g.class (ran_on g v)).units

-- as in a well-formed form
pub staffed-form : (f : Form) → WellFormed f → Staffed (loop_of f)
unfolding loop_of graph_of
staffed-form f w v l = (w.class _ (w.node v l)).units.0

-- edges of retimed delay 0 go up in rank, so that no cycle has them alone
pub record Ranked (g : Loop) (r : ℕ → ℕ) : Type 0 where
  pub rank : ℕ → ℕ
  pub rises : (e : ℕ) → e < g.graph.edges → tight g r e ≡ true → rank (g.graph.tail e) < rank (g.graph.head e)

-- nodes alone, and every node
abbrev pub Nodes : Loop → List ℕ → Type 0
Nodes g vs = (i : ℕ) → i < length vs → get_or vs i 0 < g.graph.nodes

pub record Whole (g : Loop) (order : List ℕ) : Type 0 where
  pub nodes : Nodes g order
  pub has : (v : ℕ) → v < g.graph.nodes → (i : ℕ) × (i < length order) × (get_or order i 0 ≡ v)

pub order-whole : (g : Loop) (weights : ℕ → ℕ) → Whole g (order_of weights g.graph.nodes)
unfolding order_of
order-whole g weights = record { nodes = order_below (heavier weights) g.graph.nodes; has = order-has (heavier weights) g.graph.nodes }

-- a table with a place for every node, whose starts end by step m
pub record TableEndsBy (g : Loop) (s : List ℕ) (m : ℕ) : Type 0 where
  pub long : g.graph.nodes ≤ length s
  pub ends : EndsBy g s m

-- every node is placed, and ends by step m
pub record Filled (g : Loop) (t : List ℕ) (m : ℕ) : Type 0 where
  pub placed : (v : ℕ) → v < g.graph.nodes → 0 < start_number t v
  pub ends : (v : ℕ) → v < g.graph.nodes → start_number t v + latency g v ≤ m + 1

pub filled-by : (g : Loop) (t : List ℕ) (m n : ℕ) → m ≤ n → Filled g t m → Filled g t n
filled-by g t m n h f = record { placed = f.placed; ends = λ v l. omega (arith, f.ends v l) }

-- then the length is 1 to m
pub filled-length : (g : Loop) (t : List ℕ) (m : ℕ) → Sound g → Filled g t m → (1 ≤ length_of g t) × (length_of g t ≤ m)
filled-length g t m sound f = (
  omega (arith, length-ends g t 0 sound.some, f.placed 0 sound.some, sound.works 0 sound.some),
  length-least g t m f.ends,
)

-- ---- the test of the last step

pub all-placed-told : (g : Loop) (r : ℕ → ℕ) (s : List ℕ) → are_all_placed g r s ≡ true → (v : ℕ) → v < g.graph.nodes → 0 < start_number s v
unfolding are_all_placed
all-placed-told g r s e v l =
    let unset : start_number s v ≡ 0 → ⊥ = eqb-false _ _ (none-span _ 0 g.graph.nodes (eqb-true _ _ e) v (omega arith) (omega arith)) in
    omega arith

pub some-unplaced : (g : Loop) (r : ℕ → ℕ) (s : List ℕ) → are_all_placed g r s ≡ false → (v : ℕ) × (v < g.graph.nodes) × (start_number s v ≡ 0)
unfolding are_all_placed
some-unplaced g r s e =
    let n : ℕ = count (λ v. eqb (start_number s v) 0) (span 0 g.graph.nodes) in
    let some : n ≡ 0 → ⊥ = eqb-false _ _ e in
    let w = count-some (λ v. eqb (start_number s v) 0) g.graph.nodes (omega arith) in
    (w.0, w.1, eqb-true _ _ w.2)
