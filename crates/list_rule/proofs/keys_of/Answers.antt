-- `list_rule::keys_of` meets its contract: the nodes passed have keys that make up 255 with their weights.
-- Assumes nothing.
use native.Mathlib.Omega.{arith}
use native.Mathlib.Nat.{not-suc-le-zero}
use lib.ListN.{length-set}
use borrow.Author.Rules.{rules}
use Rattle.list_rule.proofs.Weighed.{keys-more}
use Rattle.list_rule.proofs.keys_of.Goals as goal

pub loop-v-init : goal.loop-v-init
loop-v-init c = (search rules, search rules, λ u l. absurd (not-suc-le-zero l))

pub loop-v-preserved : goal.loop-v-preserved
loop-v-preserved c =
    (search rules, simp length-set c.loop-v.invariant.1, keys-more c.loop-v.keys c.args.weight.now c.loop-v.v c.key_of.result 255 (omega arith) c.key_of.ensures c.loop-v.invariant.2)

pub returns : goal.returns
returns c =
    λ u k. c.loop-v.invariant.2 u (omega arith)
