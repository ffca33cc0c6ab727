-- The tight edges, a table that is filled so far, and what tables that are lent tell.
-- Assumes nothing.
use mathlib.Core.Path.{◌≡◌, refl, sym, ◌∙◌, ap}
use mathlib.Core.Bool.{Bool, true, false}
use mathlib.Core.List.{List}
use Prim.Native.Nat.{ℕ, ◌+◌, ◌<◌}
use native.Mathlib.Omega.{arith}
use native.Mathlib.Nat.{ne_of_lt}
use lib.Dec.{eqb}
use lib.ListN.{length, get_or, set}
use lib.Seq.{get_or-set_same, get_or-set_other}
use borrow.Author.Count.{below_more}
use borrow.Author.Tests.{eq-eqb, ne_eqb}
use Rattle.lists.specs.Filled.{filled}
use Rattle.lists.specs.Pick.{pick, pick_true, pick-false}
use Rattle.links.specs.Chains.{Chains, leads-on, leads-in, begins-in}
use Rattle.system.specs.Graph.{Joined}
use Rattle.legal.specs.Loop.{Loop}
use Rattle.tables.specs.Edges.{Ends, Told}
use Rattle.reach.specs.Weight.{tight, weight}
use Rattle.reach.specs.Tables.{Retimed, TightsTabled, HeadsLinked, TellsTight, weights_of, ends-wide}

-- ---- the tight edges

-- the code's numbers of delays and retimings, widened
module _ (d t h d' t' h' : ℕ) (is-d : d' ≡ d) (is-t : t' ≡ t) (is-h : h' ≡ h) where
  pub tight-one : d' + t' ≡ h' → ◌≡◌ {A = ℕ} 1 (pick (eqb (d + t) h) 1 0)
  tight-one e = sym (pick_true _ 1 0 (eq-eqb (d + t) h (omega arith)))

  pub tight-zero : (d' + t' ≡ h' → ⊥) → ◌≡◌ {A = ℕ} 0 (pick (eqb (d + t) h) 1 0)
  tight-zero e = sym (pick-false _ 1 0 (ne_eqb (d + t) h (λ q. e (omega arith))))

is_one : (b : Bool) → b ≡ eqb (pick b 1 0) 1
unfolding pick
is_one true = refl
is_one false = refl

-- a place more is filled
pub tights-more : (from to delays retiming ts : List ℕ) (e a : ℕ) → e < length ts
    → a ≡ pick (eqb (get_or delays e 0 + get_or retiming (get_or from e 0) 0) (get_or retiming (get_or to e 0) 0)) 1 0
    → TightsTabled from to delays retiming e ts → TightsTabled from to delays retiming (e + 1) (set ts e a)
tights-more from to delays retiming ts e a l is-a all =
    below_more (λ k. eqb (get_or delays k 0 + get_or retiming (get_or from k 0) 0) (get_or retiming (get_or to k 0) 0) ≡ eqb (get_or (set ts e a) k 0) 1) e
    (λ k h. all k h ∙ ap (λ (x : ℕ). eqb x 1) (sym (get_or-set_other ts e k a 0 (ne_of_lt h))))
    (is_one _ ∙ ap (λ (x : ℕ). eqb x 1) (sym (get_or-set_same ts e a 0 l ∙ is-a)))

-- ---- tables that are lent

module _ (nodes edges : ℕ) (from to : List ℕ) (ends : Ends nodes edges from to) (first next : List ℕ) (c : Chains (λ e. get_or from e 0) edges first next) where
  pub heads-linked : HeadsLinked edges first next to
  heads-linked = record {
    few = ends.few;
    begins = begins-in _ _ _ _ c;
    leads-on = leads-on _ _ _ _ c;
    leads-in = leads-in _ _ _ _ c;
    head_in = (ends-wide nodes edges from to ends).head_in;
  }

  module _ (g : Loop) (r : ℕ → ℕ) (delays retiming ts : List ℕ) (told : Told g nodes edges from to delays) (retimed : Retimed r nodes retiming)
      (tights : TightsTabled from to delays retiming edges ts) where
    joined : Joined g.graph
    joined = record {
      tails = λ e l. let m : e < edges = omega (arith, told.all_edges) in omega (arith, told.all-nodes, told.is_tail e m, ends.tail-in e m);
      heads = λ e l. let m : e < edges = omega (arith, told.all_edges) in omega (arith, told.all-nodes, told.is_head e m, ends.head_in e m);
    }

    is-tight : (e : ℕ) → e < edges → tight g r e ≡ eqb (get_or ts e 0) 1
    unfolding tight
    is-tight e l =
        rw (told.is_delay e l, told.is_tail e l, told.is_head e l, retimed (get_or from e 0) (ends.tail-in e l), retimed (get_or to e 0) (ends.head_in e l))
        (tights e l)

    pub tells-tight : TellsTight g r edges first next to ts
    tells-tight = record {
      joined = joined;
      few_nodes = omega (arith, told.all-nodes, ends.most);
      all = told.all_edges;
      key = λ e. get_or from e 0;
      out = c;
      is_tail = told.is_tail;
      is_head = told.is_head;
      is-tight = is-tight;
    }

pub weights-all : (g : Loop) (r : ℕ → ℕ) (v : ℕ) (xs : List ℕ) → g.graph.nodes ≡ v → xs ≡ filled 64 (weight g r) v → xs ≡ weights_of g r
unfolding weights_of
weights-all g r v xs e h = h ∙ ap (filled 64 (weight g r)) (sym e)
