-- `commands::number_of` meets its contract: what is left makes of the number so far what the word is.
-- Assumes nothing.
use native.Mathlib.Omega.{arith}
use Rattle.std.proofs.lemmas.Bool.Decides.{nat_tests}
use Rattle.commands.proofs.Laws.{no-digits, some-digits, number-none, number_more, number-whole}
use Rattle.commands.proofs.number_of.Goals as goal

pub returns-then-is_empty : goal.returns-then-is_empty
returns-then-is_empty c = no-digits _ (grind (arith, nat_tests))

pub loop-byte-init : goal.loop-byte-init
loop-byte-init c = (omega arith, some-digits _ (λ e. absurd (grind (arith, nat_tests))))

pub returns-in_err-value : goal.returns-in_err-value
returns-in_err-value c =
    rw c.from_residual.ensures (number-none _ _ _ c.loop-byte.invariant.1 c.loop-byte-test.true c.in_err-value.ensures)

pub loop-byte-preserved : goal.loop-byte-preserved
loop-byte-preserved c =
    (omega arith, number_more _ _ _ c.loop-byte.invariant.1 c.loop-byte-test.true _ c.in_ok-value.ensures)

pub returns : goal.returns
returns c = number-whole _ _ c.loop-byte.byte-index c.loop-byte.invariant.1 (omega arith)
