-- `list_rule::key_of` meets its contract: a weight and its key make up 255.
-- Assumes nothing.
use native.Mathlib.Omega.{arith}
use Rattle.list_rule.proofs.key_of.Goals as goal

pub returns : goal.returns
returns c = omega arith
