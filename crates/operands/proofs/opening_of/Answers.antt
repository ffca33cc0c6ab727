-- `operands::opening_of` meets its contract: one line for each operation.
-- Assumes nothing.
use Rattle.std.specs.Prelude.{Some}
use mathlib.Core.Path.{◌≡◌, sym, ◌∙◌, ap}
use native.Mathlib.Omega.{arith}
use Rattle.machine.specs.Values.{word}
use Rattle.operands.specs.Combined.{opening}
use Rattle.operands.proofs.opening_of.Goals as goal

pub returns-in-Add : goal.returns-in-Add
unfolding opening
returns-in-Add c =
    let small : c.in-Add.constant ≡ word c.in-Add.constant = omega arith in
    ap Some small ∙ sym (ap opening c.in-Add.is)

pub returns-in-Sub : goal.returns-in-Sub
unfolding opening
returns-in-Sub c = sym (ap opening c.in-Sub.is)

pub returns-in-Mul : goal.returns-in-Mul
unfolding opening
returns-in-Mul c =
    let small : c.in-Mul.constant ≡ word c.in-Mul.constant = omega arith in
    ap Some small ∙ sym (ap opening c.in-Mul.is)
