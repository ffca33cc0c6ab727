-- What is asked of lent tables: for the length of a body, for the list rule, for a first schedule and for a rotation.
-- Assumes nothing.
use Rattle.std.specs.Prelude.{◌≡◌, false, List, ℕ, ◌≤◌, ◌<◌, get_or}
use Rattle.std.proofs.Common.{sym, ap, subst, ◌∙◌}
use Rattle.form.specs.declared.Form.{Form}
use Rattle.form.specs.Ranges.{WellFormed}
use Rattle.legal.specs.Loop.{Loop, Pair, graph_of, loop_of, pair_of}
use Rattle.legal.specs.Legal.{Legal}
use Rattle.legal.specs.Systems.{knotted}
use Rattle.legal.specs.Shape.{Sound}
use Rattle.tables.specs.declared.Timetable.{Timetable}
use Rattle.tables.specs.Edges.{Told}
use Rattle.tables.specs.Times.{times_of, Timed, timed-form}
use Rattle.tables.specs.Lent.{Lent}
use Rattle.plans.specs.Tabled.{Tabled}
use Rattle.list_rule.specs.Rule.{start_number, list_rule_of}
use Rattle.form.specs.declared.Edges.{Edges}

-- nodes of latency 1 to 8 that start by step 1023
pub record EndSoon (nodes : ℕ) (latency start : List ℕ) : Type 0 where
  pub most : nodes ≤ 64
  pub some : (v : ℕ) → v < nodes → 1 ≤ get_or latency v 0
  pub short : (v : ℕ) → v < nodes → get_or latency v 0 ≤ 8
  pub soon : (v : ℕ) → v < nodes → get_or start v 0 ≤ 1023

-- the tables are those of a loop whose nodes the list rule places by step 1023
pub record Placeable (g : Loop) (p : Pair) (edges : ℕ) (from to delays : List ℕ) (t : Timetable) : Type 0 where
  pub sound : Sound g
  pub told : Told g t.nodes edges from to delays
  pub timed : Timed g p t
  pub soon : (v : ℕ) → v < t.nodes → start_number (list_rule_of g p.retiming t.start) v ≤ 1023

-- the tables are those of a form without a knot
pub record Unknotted (f : Form) (edges : ℕ) (from to delays : List ℕ) (t : Timetable) : Type 0 where
  pub tabled : Tabled f edges from to delays t
  pub free : knotted (loop_of f) ≡ false

-- of one with a legal pair, longer than the steps
pub record Turnable (f : Form) (edges : ℕ) (from to delays : List ℕ) (t : Timetable) (steps : ℕ) : Type 0 where
  pub tabled : Tabled f edges from to delays t
  pub legal : Legal (loop_of f) (pair_of f)
  pub some : 1 ≤ steps
  pub below : steps < f.header.length

-- the same of edges that are lent together
abbrev pub PlaceableBy : Loop → Pair → Edges → Timetable → Type 0
PlaceableBy g p e t = Placeable g p e.count e.from.now e.to.now e.delays.now t

abbrev pub UnknottedBy : Form → Edges → Timetable → Type 0
UnknottedBy f e t = Unknotted f e.count e.from.now e.to.now e.delays.now t

abbrev pub TurnableBy : Form → Edges → Timetable → ℕ → Type 0
TurnableBy f e t steps = Turnable f e.count e.from.now e.to.now e.delays.now t steps

-- a form that differs from a lent one in its pair alone is lent with it
pub lent-next : (f g : Form) (edges : ℕ) (from to delays : List ℕ) (t u : Timetable) → Lent f edges from to delays t → loop_of g ≡ loop_of f → WellFormed g → u ≡ times_of g → Lent g edges from to delays u
unfolding times_of loop_of graph_of
lent-next f g edges from to delays t u lent same w is =
    let nodes : t.nodes ≡ u.nodes = sym lent.told.all-nodes ∙ ap (λ (h : Loop). h.graph.nodes) (sym same) ∙ ap (λ (x : Timetable). x.nodes) (sym is) in
    record {
      good = w;
      told = subst (λ (h : Loop). Told h u.nodes edges from to delays) (sym same) (subst (λ (n : ℕ). Told (loop_of f) n edges from to delays) nodes lent.told);
      timed = subst (Timed (loop_of g) (pair_of g)) (sym is) (timed-form g);
    }
