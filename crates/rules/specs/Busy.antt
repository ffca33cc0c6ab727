-- How often the nodes of a timetable hold a unit of a class in a step, and where the nodes of a loop start.
-- Assumes nothing.
use Rattle.std.specs.Prelude.{List, ◌≢◌, ℕ, ◌≤◌, ◌<◌, eqb, get_or}
use Rattle.lists.specs.Pick.{pick}
use Rattle.lists.specs.Span.{span}
use Rattle.lists.specs.Fold.{sum_of}
use Rattle.form.specs.declared.Form.{Form}
use Rattle.form.specs.Ranges.{WellFormed}
use Rattle.legal.specs.Loop.{Loop, Pair, graph_of, loop_of, pair_of, ran_on}
use Rattle.legal.specs.Held.{held}
use Rattle.legal.specs.Shape.{Starting, placed-form, within-form}

-- how often an operation on class k that starts at s holds a unit of class c, which is held for h steps, in step q of a body of l steps
unfoldable pub held_on : ℕ → ℕ → ℕ → ℕ → ℕ → ℕ → ℕ
held_on l k s c h q = pick (eqb k c) (held l s h q) 0

-- how often the first n operations do
unfoldable pub busy_in : ℕ → List ℕ → List ℕ → ℕ → ℕ → ℕ → ℕ → ℕ
busy_in l ks ss c h q n = sum_of (λ v. held_on l (get_or ks v 0) (get_or ss v 0) c h q) (span 0 n)

-- the first n starts are steps of the body
abbrev pub StartsIn : ℕ → List ℕ → ℕ → Type 0
StartsIn l ss n = (v : ℕ) → v < n → (1 ≤ get_or ss v 0) × (get_or ss v 0 ≤ l)

-- every node starts in the body, on a class of the board, which has at most 4
pub record Seated (g : Loop) (p : Pair) : Type 0 where
  pub few : g.classes ≤ 4
  pub long : 1 ≤ p.length
  pub starts : Starting g p
  pub class : (v : ℕ) → v < g.graph.nodes → ran_on g v < g.classes

-- so does every node of a well-formed form with a schedule
pub seated-form : (f : Form) → WellFormed f → f.header.length ≢ 0 → Seated (loop_of f) (pair_of f)
unfolding loop_of pair_of graph_of
seated-form f w n = record {
  few = w.classes.1;
  long = (placed-form f w n).steps.0;
  starts = (within-form f w n).starts;
  class = w.node;
}
