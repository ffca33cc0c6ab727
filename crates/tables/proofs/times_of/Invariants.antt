-- `tables::times_of` meets its contract: the places passed are filled.
-- Assumes nothing.
use mathlib.Core.Path.{◌≡◌}
use Rattle.lists.specs.Filled.{filled}
use Rattle.form.specs.Places.{node_of, latency_of, start_of}
use Rattle.tables.proofs.times_of.Given as goal

abbrev pub invariant-loop-v : goal.invariant-loop-v
invariant-loop-v l =
    (l.runs ≡ filled 64 (λ u. (node_of l.form u).class) l.v) × (l.latency ≡ filled 64 (latency_of l.form) l.v) × (l.start ≡ filled 64 (start_of l.form) l.v)
