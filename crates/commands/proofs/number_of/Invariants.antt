-- `commands::number_of` meets its contract: what is left makes of the number so far what the word is.
-- Assumes nothing.
use mathlib.Core.Path.{◌≡◌}
use Prim.Native.Nat.{◌≤◌}
use lib.ListN.{length, drop}
use Rattle.commands.specs.Numbers.{number_from, number_in}
use Rattle.commands.proofs.number_of.Given as goal

abbrev pub invariant-loop-byte : goal.invariant-loop-byte
invariant-loop-byte l = (l.byte-index ≤ length l.word) × (number_from l.value (drop l.byte-index l.word) ≡ number_in l.word)
