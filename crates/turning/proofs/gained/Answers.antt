-- `turning::gained` meets its contract: the retimings passed are raised where they should be.
-- Assumes nothing.
use mathlib.Core.Path.{◌≡◌}
use native.Mathlib.Omega.{arith}
use borrow.Author.Rules.{rules}
use Rattle.lists.specs.Filled.{fill_none, fill_more}
use Rattle.turning.proofs.gained.Goals as goal

pub loop-v-init : goal.loop-v-init
loop-v-init c = (search rules, fill_none _ _)

pub gain-requires : goal.gain-requires
gain-requires c =
    c.requires.1 c.loop-v.v (omega arith)

pub loop-v-preserved : goal.loop-v-preserved
loop-v-preserved c =
    (search rules, fill_more _ _ c.loop-v.v _ _ (omega arith) c.gain.ensures c.loop-v.invariant.1)

pub returns : goal.returns
returns c =
    let e : c.loop-v.v ≡ c.args.nodes = omega arith in
    rw (← e) c.loop-v.invariant.1
