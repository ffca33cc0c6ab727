-- `fit::turned` meets its contract: the places passed are filled.
-- Assumes nothing.
use mathlib.Core.Path.{◌≡◌}
use Rattle.fit.specs.Tables.{turned_over}
use Rattle.fit.proofs.turned.Given as goal

abbrev pub invariant-loop-v : goal.invariant-loop-v
invariant-loop-v l = l.retiming ≡ turned_over l.highest l.values l.v
