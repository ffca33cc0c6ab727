-- What a well-formed form gives: tables that tell its loop, and, with its edges linked, all that a node's value needs.
-- Assumes nothing.
use Rattle.std.specs.Prelude.{refl, List, ℕ, ◌≤◌, ◌<◌, get_or}
use Rattle.links.specs.Chains.{Chains, leads-on, leads-in, begins-in}
use Rattle.form.specs.declared.Form.{Form}
use Rattle.form.specs.Places.{node_of}
use Rattle.form.specs.Ranges.{WellFormed}
use Rattle.legal.specs.Loop.{loop_of, graph_of}
use Rattle.operands.specs.Tables.{TailsLinked, Tells, Follows}

-- the form's edges linked
abbrev pub LinksOf : Form → List ℕ → List ℕ → Type 0
LinksOf f first next = Chains (λ e. get_or f.to e 0) f.header.edges first next

pub form-tells : (f : Form) → Tells (loop_of f) f.header.nodes f.header.edges f.from f.delays
unfolding loop_of graph_of
form-tells f = record { all-nodes = refl; all_edges = refl; is_tail = λ e l. refl; is_delay = λ e l. refl }

module _ (f : Form) (first next : List ℕ) (k : LinksOf f first next) where
  pub links-fit : WellFormed f → TailsLinked f.header.nodes f.header.edges f.from f.delays next
  links-fit w = record {
    few = w.edges;
    tail-in = λ e l. (w.edge e l).from;
    delay_in = λ e l. (w.edge e l).delays;
    leads-on = leads-on _ _ _ _ k;
    leads-in = leads-in _ _ _ _ k;
  }

  pub links-begin : (v : ℕ) → v < 64 → get_or first v 0 ≤ f.header.edges
  links-begin v l = begins-in _ _ _ _ k v l

  pub links-follow : (v : ℕ) → v < 64 → Follows (loop_of f) v (node_of f v).operation (get_or first v 0) next
  unfolding loop_of graph_of
  links-follow v l = record { is_operation = refl; is_first = k.first-with v l; is_next = λ e m. k.next_with e m }
