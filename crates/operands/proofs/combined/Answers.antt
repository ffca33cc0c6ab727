-- `operands::combined` meets its contract: one line for each operation.
-- Assumes nothing.
use mathlib.Core.Path.{sym, ◌∙◌, ap, ap₂}
use native.Mathlib.Omega.{arith}
use Rattle.machine.specs.Values.{plus, times}
use Rattle.operands.specs.Combined.{combined}
use Rattle.operands.proofs.Laws.{minus-is}
use Rattle.operands.proofs.combined.Goals as goal

pub returns-in_default : goal.returns-in_default
unfolding combined
returns-in_default c = sym (ap (λ t. combined c.args.operation t c.args.operand) c.in_default.is)

pub returns-in-Add : goal.returns-in-Add
unfolding combined plus
returns-in-Add c = sym (ap₂ (λ o t. combined o t c.args.operand) c.in-Add.is c.in-Some.is)

pub returns-in-Sub : goal.returns-in-Sub
unfolding combined
returns-in-Sub c = minus-is c.in-Some.total c.args.operand (omega arith) ∙ sym (ap₂ (λ o t. combined o t c.args.operand) c.in-Sub.is c.in-Some.is)

pub returns-in-Mul : goal.returns-in-Mul
unfolding combined times
returns-in-Mul c = sym (ap₂ (λ o t. combined o t c.args.operand) c.in-Mul.is c.in-Some.is)
