-- `plain::iterate_all` meets its contract: the values of the iterations so far are stored, then those of the nodes so far.
-- Assumes nothing.
use mathlib.Core.Path.{◌≡◌}
use lib.ListN.{length, take}
use Rattle.legal.specs.Loop.{loop_of}
use Rattle.plain.specs.Looping.{iterated, looped}
use Rattle.plain.proofs.iterate_all.Given as goal

abbrev pub invariant-loop-i : goal.invariant-loop-i
invariant-loop-i l =
    (length l.values ≡ length l.initial.values) × (l.values ≡ looped (loop_of l.fn.form) l.starts (take l.fn.form.header.nodes l.order) l.i l.initial.values)

abbrev pub invariant-loop-k : goal.invariant-loop-k
invariant-loop-k l =
    (length l.values ≡ length l.initial.values) × (l.values ≡ iterated (loop_of l.fn.form) l.starts (take l.k l.order) l.initial.values l.i)
