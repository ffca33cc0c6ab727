-- `operands::closing_of` meets its contract: one line for each operation.
-- Assumes nothing.
use mathlib.Core.Path.{sym, ◌∙◌, ap}
use native.Mathlib.Omega.{arith}
use Rattle.machine.specs.Values.{minus}
use Rattle.operands.specs.Combined.{closing}
use Rattle.operands.proofs.Laws.{minus-is}
use Rattle.operands.proofs.closing_of.Goals as goal

pub returns-in-Add : goal.returns-in-Add
unfolding closing
returns-in-Add c = c.unwrap_or-total.ensures ∙ sym (ap (λ o. closing o c.args.total) c.in-Add.is)

pub returns-in-Sub : goal.returns-in-Sub
unfolding closing
returns-in-Sub c =
    minus-is c.unwrap_or-total.result c.in-Sub.constant (omega arith)
    ∙ ap (λ t. minus t c.in-Sub.constant) c.unwrap_or-total.ensures
    ∙ sym (ap (λ o. closing o c.args.total) c.in-Sub.is)

pub returns-in-Mul : goal.returns-in-Mul
unfolding closing
returns-in-Mul c = c.unwrap_or-total.ensures ∙ sym (ap (λ o. closing o c.args.total) c.in-Mul.is)
