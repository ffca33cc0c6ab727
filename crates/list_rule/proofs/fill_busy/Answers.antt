-- `list_rule::fill_busy` meets its contract: the nodes passed are in use.
-- Assumes nothing.
use mathlib.Core.Path.{◌∙◌}
use native.Mathlib.Omega.{arith}
use borrow.Author.Rules.{rules}
use Rattle.list_rule.specs.Tables.{OnBoard}
use Rattle.list_rule.proofs.Units.{used-none, used-more, used_all, used-fits}
use Rattle.list_rule.proofs.fill_busy.Goals.{In-loop-v}
use Rattle.list_rule.proofs.fill_busy.Goals as goal

pub loop-v-init : goal.loop-v-init
loop-v-init c = (search rules, used-none _ _ _ _ c.requires.busy_len.0 c.requires.busy_len.1)

board : (c : In-loop-v) → OnBoard c.args.classes c.args.runs.now c.loop-v.v
board c = (c.requires.nodes_bound.1 c.loop-v.v c.loop-v-test.true).0

pub overflow_cast-class : goal.overflow_cast-class
overflow_cast-class c = omega (arith, (board (goal.at.overflow_cast-class c).In-loop-v).class-in)

pub offset_bounds-classes-number : goal.offset_bounds-classes-number
offset_bounds-classes-number c = omega (arith, (board (goal.at.offset_bounds-classes-number c).In-loop-v).class-in)

pub bounds-classes-number : goal.bounds-classes-number
bounds-classes-number c = (board (goal.at.bounds-classes-number c).In-loop-v).class-in

pub raise-requires : goal.raise-requires
raise-requires c =
    let k = board (goal.at.raise-requires c).In-loop-v in
    record { busy_len = (c.loop-v.invariant.1.size, k.class-in, omega (arith, c.wide.ensures.0, c.hold_of.ensures, k.hold_in, (c.requires.nodes_bound.1 c.loop-v.v c.loop-v-test.true).1)); by_index = λ q h. used-fits _ _ _ c.loop-v.v _ (omega (arith, c.requires.nodes_bound.0, c.loop-v-test.true)) c.loop-v.invariant.1 _ q k.class-in h }

pub loop-v-preserved : goal.loop-v-preserved
loop-v-preserved c =
    (omega (arith, c.loop-v-test.true), used-more _ _ _ _ _ _ _ (c.wide.ensures.0 ∙ c.hold_of.ensures) c.loop-v.invariant.1 c.raise.ensures)

pub returns : goal.returns
returns c = used_all _ _ _ _ _ _ (omega arith) c.loop-v.invariant.1
