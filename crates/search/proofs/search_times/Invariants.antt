-- `search::search_times` meets its contract: the rest of the search equals the whole.
-- Assumes nothing.
use Rattle.form.specs.declared.Form.{Form}
use Rattle.search.proofs.Going.{Begun, Going}
use Rattle.search.proofs.search_times.Given as goal

abbrev pub invariant-loop-rotations : goal.invariant-loop-rotations
invariant-loop-rotations l =
    (f : Form) → Begun f l.edges.count l.edges.from.now l.edges.to.now l.edges.delays.now l.initial.now → Going f l.count l.size l.now l.best l.steps l.rotations
