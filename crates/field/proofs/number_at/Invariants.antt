-- `field::number_at` meets its contract: what is read so far is the number of the bytes from `place` on.
-- Assumes nothing.
use mathlib.Core.Path.{◌≡◌}
use Prim.Native.Nat.{◌+◌, ◌-◌}
use Rattle.field.specs.Number.{number_at}
use Rattle.field.proofs.number_at.Given as goal

abbrev pub invariant-loop-place : goal.invariant-loop-place
invariant-loop-place l = l.value ≡ number_at (l.width - l.place) l.s (l.at + l.place)
