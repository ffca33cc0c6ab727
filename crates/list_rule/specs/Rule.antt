-- The list rule. Starts are a table in which 0 means not placed yet.
-- Assumes nothing.
use Rattle.std.specs.Prelude.{Bool, ◌&&◌, ◌||◌, List, map, ℕ, zero, suc, ◌+◌, ◌-◌, eqb, ltb, leb, get_or, set}
use Rattle.lists.specs.Pick.{pick}
use Rattle.lists.specs.Span.{span}
use Rattle.lists.specs.Fold.{count, fold, top}
use Rattle.form.specs.Hold.{hold}
use Rattle.legal.specs.Loop.{Loop, ran_on, latency}
use Rattle.reach.specs.Weight.{tight, weight}
use Rattle.list_rule.specs.Order.{order_of}

abbrev pub start_number : List ℕ → ℕ → ℕ
start_number s v = get_or s v 0

module _ (g : Loop) where
  -- a placed node occupies a unit of class c in step q
  unfoldable pub uses : List ℕ → ℕ → ℕ → ℕ → Bool
  uses s c q v =
      ltb 0 (start_number s v) && (eqb (ran_on g v) c && (leb (start_number s v) q && ltb q (start_number s v + hold (g.class c))))

  -- how many do
  unfoldable pub use_of : List ℕ → ℕ → ℕ → ℕ
  use_of s c q = count (uses s c q) (span 0 g.graph.nodes)

  -- the class of node v has a unit free at every step that v would occupy from p on
  unfoldable pub free : List ℕ → ℕ → ℕ → Bool
  free s p v =
      eqb (count (λ q. leb (g.class (ran_on g v)).units (use_of s (ran_on g v) q)) (span p (hold (g.class (ran_on g v))))) 0

  module _ (r : ℕ → ℕ) where
    -- edge e of retimed delay 0 keeps its head from starting at p: its tail is not placed, or not finished
    unfoldable pub blocks : List ℕ → ℕ → ℕ → Bool
    blocks s p e = tight g r e && (eqb (start_number s (g.graph.tail e)) 0 || ltb p (start_number s (g.graph.tail e) + latency g (g.graph.tail e)))

    -- no edge into v does
    unfoldable pub ready : List ℕ → ℕ → ℕ → Bool
    ready s p v = eqb (count (λ e. eqb (g.graph.head e) v && blocks s p e) (span 0 g.graph.edges)) 0

    -- node v is placed at p if it is not placed yet, was ready at the beginning of the step, and finds a unit
    unfoldable pub place : List ℕ → ℕ → List ℕ → ℕ → List ℕ
    place before p s v = pick (eqb (start_number s v) 0 && (ready before p v && free s p v)) (set s v p) s

    -- step p: each node in the order given
    unfoldable pub fill_step : List ℕ → ℕ → List ℕ → List ℕ
    fill_step order p s = fold (place s p) s order

    -- every node is placed
    unfoldable pub are_all_placed : List ℕ → Bool
    are_all_placed s = eqb (count (λ v. eqb (start_number s v) 0) (span 0 g.graph.nodes)) 0

    -- at most so many steps from p on, until every node is placed
    unfoldable pub fill_from : List ℕ → ℕ → ℕ → List ℕ → List ℕ
    fill_from order zero p s = s
    fill_from order (suc left) p s =
        let more = fill_from order left (p + 1) (fill_step order p s) in
        pick (are_all_placed s) s more

    -- from the starts given on; 1023 steps are always enough
    unfoldable pub list_rule_of : List ℕ → List ℕ
    list_rule_of s = fill_from (order_of (weight g r) g.graph.nodes) 1023 1 s

  -- the length of a body: the largest start + latency - 1
  unfoldable pub length_of : List ℕ → ℕ
  length_of s = top (map (λ v. start_number s v + latency g v - 1) (span 0 g.graph.nodes))
