-- The timetable of a form: for each node its class, latency, start and retiming, in tables that loops of the code can borrow.
-- Assumes nothing.
use Rattle.std.specs.Prelude.{◌≡◌, refl, ◌≢◌, List, ℕ, ◌≤◌, ◌<◌, get_or}
use Rattle.std.proofs.Common.{sym, ◌∙◌, arith}
use Rattle.lists.specs.Filled.{filled, filled_at}
use Rattle.form.specs.declared.Form.{Form}
use Rattle.form.specs.Places.{node_of, latency_of, start_of, no_class}
use Rattle.form.specs.Ranges.{GoodClass, WellFormed}
use Rattle.legal.specs.Loop.{Loop, Pair, loop_of, pair_of, graph_of, ran_on, latency}
use Rattle.tables.specs.declared.Timetable.{Timetable}

-- 0 past the nodes
unfoldable pub times_of : Form → Timetable
times_of f = record {
  classes = f.header.classes;
  nodes = f.header.nodes;
  length = f.header.length;
  class = f.class;
  runs = filled 64 (λ v. (node_of f v).class) f.header.nodes;
  latency = filled 64 (latency_of f) f.header.nodes;
  start = filled 64 (start_of f) f.header.nodes;
  retiming = f.retiming;
}

-- tables that are filled for all nodes are those of the timetable
pub times-are : (f : Form) (v : ℕ) (ks ts ss : List ℕ) → v ≡ f.header.nodes → ks ≡ filled 64 (λ u. (node_of f u).class) v → ts ≡ filled 64 (latency_of f) v → ss ≡ filled 64 (start_of f) v
    → record { classes = f.header.classes; nodes = f.header.nodes; length = f.header.length; class = f.class; runs = ks; latency = ts; start = ss; retiming = f.retiming } ≡ times_of f
unfolding times_of
times-are f v ks ts ss e k t s = rw (k, t, s, e)

-- a timetable of at most 4 classes and 64 nodes
pub record SoundTimes (t : Timetable) : Type 0 where
  pub few : t.classes ≤ 4
  pub class : (c : ℕ) → c < t.classes → GoodClass (get_or t.class c no_class)
  pub most : t.nodes ≤ 64
  pub class-in : (v : ℕ) → v < t.nodes → get_or t.runs v 0 < 4

-- the timetable holds the loop's nodes and the pair
pub record Timed (g : Loop) (p : Pair) (t : Timetable) : Type 0 where
  pub all_classes : g.classes ≡ t.classes
  pub all-nodes : g.graph.nodes ≡ t.nodes
  pub is_length : p.length ≡ t.length
  pub is_class : (c : ℕ) → g.class c ≡ get_or t.class c no_class
  pub runs_on : (v : ℕ) → v < t.nodes → ran_on g v ≡ get_or t.runs v 0
  pub takes : (v : ℕ) → v < t.nodes → latency g v ≡ get_or t.latency v 0
  pub starts : (v : ℕ) → v < t.nodes → p.start v ≡ get_or t.start v 0
  pub retimed : (v : ℕ) → p.retiming v ≡ get_or t.retiming v 0

pub sound-form : (f : Form) → WellFormed f → SoundTimes (times_of f)
unfolding times_of
sound-form f w = record {
  few = w.classes.1;
  class = w.class;
  most = w.nodes.1;
  class-in = λ v l. omega (arith, filled_at 64 (λ u. (node_of f u).class) f.header.nodes v l, w.node v l, w.classes);
}

pub timed-form : (f : Form) → Timed (loop_of f) (pair_of f) (times_of f)
unfolding times_of loop_of pair_of graph_of
timed-form f = record {
  all_classes = refl;
  all-nodes = refl;
  is_length = refl;
  is_class = λ c. refl;
  runs_on = λ v l. sym (filled_at 64 (λ u. (node_of f u).class) f.header.nodes v l);
  takes = λ v l. sym (filled_at 64 (latency_of f) f.header.nodes v l);
  starts = λ v l. sym (filled_at 64 (start_of f) f.header.nodes v l);
  retimed = λ v. refl;
}

-- the length of a form with a timetable
module _ (f : Form) (t : Timetable) (timed : Timed (loop_of f) (pair_of f) t) where
  pub no_length : t.length ≡ 0 → f.header.length ≡ 0
  unfolding pair_of
  no_length e = timed.is_length ∙ e

  pub some-length : t.length ≢ 0 → f.header.length ≢ 0
  unfolding pair_of
  some-length n e = n (sym timed.is_length ∙ e)
