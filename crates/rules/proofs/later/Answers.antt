-- `rules::later` meets its contract.
-- Assumes nothing.
use native.Mathlib.Omega.{arith}
use borrow.Author.Rules.{rules}
use Rattle.rules.proofs.Laws.{product}
use Rattle.rules.proofs.later.Goals as goal

pub overflow_mul-result : goal.overflow_mul-result
overflow_mul-result c = omega (arith, product _ _ c.args.length c.args.iterations c.from-2.ensures c.from-3.ensures (search rules) (search rules))

pub overflow_add-result : goal.overflow_add-result
overflow_add-result c = omega (arith, product _ _ c.args.length c.args.iterations c.from-2.ensures c.from-3.ensures (search rules) (search rules))

pub returns : goal.returns
returns c = omega (arith, product _ _ c.args.length c.args.iterations c.from-2.ensures c.from-3.ensures (search rules) (search rules))
