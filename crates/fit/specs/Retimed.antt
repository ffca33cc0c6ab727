-- The retiming that fits the starts of a form, node by node, and the form with it.
-- Assumes nothing.
use Rattle.std.specs.Prelude.{◌≡◌, true, false, List, ℕ, replicate}
use Rattle.lists.specs.Filled.{filled}
use Rattle.answer.specs.Outcome.{no_cycle, edges_of}
use Rattle.answer.specs.Tally.{Tallies}
use Rattle.system.specs.Rounds.{settled_of}
use Rattle.form.specs.declared.Form.{Form}
use Rattle.form.specs.Places.{with_starts}
use Rattle.legal.specs.Loop.{Loop, Pair, loop_of, pair_of}
use Rattle.legal.specs.Systems.{limits, Impossible}
use Rattle.legal.specs.Fitted.{fitted}
use Rattle.fit.specs.Outcome.{Fitting}
use Rattle.fit.specs.Tables.{Described}

-- of least depth, and node by node the largest of those; unused places are 0
unfoldable pub retimings : Loop → Pair → List ℕ
retimings g p = filled 64 (fitted g p) g.graph.nodes

-- the form with another retiming
unfoldable pub with_retiming : Form → List ℕ → Form
with_retiming f rs = with_starts f f.start rs

unfoldable pub fitted_form : Form → Form
fitted_form f = with_retiming f (retimings (loop_of f) (pair_of f))

-- the starts of a form fitted, or a cycle that proves that nothing fits
pub record StartsFitted (g : Loop) (p : Pair) (r : Fitting) : Type 0 where
  pub fits : r.fits ≡ (settled_of (limits g p)).settled
  pub retiming : r.fits ≡ true → r.retiming ≡ retimings g p
  pub none : r.fits ≡ true → r.cycle ≡ no_cycle
  pub zeros : r.fits ≡ false → r.retiming ≡ replicate 64 0
  pub impossible : r.fits ≡ false → Impossible g p (edges_of r.cycle)
  pub tallies : Tallies r.cycle

-- whichever loop and starts the tables are of, they are fitted
abbrev pub TablesFitted : ℕ → ℕ → List ℕ → List ℕ → List ℕ → List ℕ → Fitting → Type 0
TablesFitted n m tails heads gains costs r = (g : Loop) (p : Pair) → Described g p n m tails heads gains costs → StartsFitted g p r
