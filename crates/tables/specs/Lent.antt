-- A form that is lent: its edges as they stand, and its timetable for the rest.
-- Assumes nothing.
use Rattle.std.specs.Prelude.{◌≡◌, List, ℕ}
use Rattle.std.proofs.Math.Path.{subst}
use Rattle.std.proofs.Common.{arith}
use Rattle.form.specs.declared.Form.{Form}
use Rattle.form.specs.Ranges.{GoodClass, WellFormed}
use Rattle.legal.specs.Loop.{loop_of, pair_of, graph_of}
use Rattle.tables.specs.declared.Timetable.{Timetable}
use Rattle.tables.specs.Edges.{Ends, Told, told-form}
use Rattle.tables.specs.Times.{times_of, SoundTimes, Timed, timed-form}
use Rattle.form.specs.declared.Edges.{Edges}

-- the tables are those of a well-formed form
pub record Lent (f : Form) (edges : ℕ) (from to delays : List ℕ) (t : Timetable) : Type 0 where
  pub good : WellFormed f
  pub told : Told (loop_of f) t.nodes edges from to delays
  pub timed : Timed (loop_of f) (pair_of f) t

-- the same of edges that are lent together
abbrev pub LentBy : Form → Edges → Timetable → Type 0
LentBy f e t = Lent f e.count e.from.now e.to.now e.delays.now t

-- a form's own tables are
pub lent-form : (f : Form) (t : Timetable) → WellFormed f → t ≡ times_of f → Lent f f.header.edges f.from f.to f.delays t
unfolding times_of
lent-form f t w is = rw is (record { good = w; told = told-form f; timed = timed-form f })

-- so are the edges that it lends
pub lent-edges : (f : Form) (e : Edges) (t : Timetable) → e.count ≡ f.header.edges → (e.from.now ≡ f.from) × (e.to.now ≡ f.to) × (e.delays.now ≡ f.delays) → WellFormed f → t ≡ times_of f → LentBy f e t
lent-edges f e t few tables w is = rw (few, tables.0, tables.1, tables.2) (lent-form f t w is)

module _ (f : Form) (edges : ℕ) (from to delays : List ℕ) (t : Timetable) (lent : Lent f edges from to delays t) where
  -- every edge joins nodes of the timetable
  pub lent-ends : Ends t.nodes edges from to
  unfolding loop_of graph_of
  lent-ends =
      let w = lent.good in
      let told = lent.told in
      record {
        some = omega (arith, w.nodes, told.all-nodes);
        most = omega (arith, w.nodes, told.all-nodes);
        few = omega (arith, w.edges, told.all_edges);
        tail-in = λ e l. omega (arith, (w.edge e (omega (arith, told.all_edges))).from, told.is_tail e l, told.all-nodes);
        head_in = λ e l. omega (arith, (w.edge e (omega (arith, told.all_edges))).to, told.is_head e l, told.all-nodes);
      }

  -- and every node runs on one of at most 4 classes
  pub lent-sound : SoundTimes t
  unfolding loop_of graph_of
  lent-sound =
      let w = lent.good in
      let told = lent.told in
      record {
        few = omega (arith, w.classes, lent.timed.all_classes);
        class = λ c l. subst GoodClass (lent.timed.is_class c) (w.class c (omega (arith, lent.timed.all_classes)));
        most = omega (arith, w.nodes, told.all-nodes);
        class-in = λ v l. omega (arith, w.node v (omega (arith, told.all-nodes)), w.classes, lent.timed.runs_on v l);
      }
