-- `list_rule::unplaced` meets its contract: the nodes passed are counted.
-- Assumes nothing.
use mathlib.Core.Path.{◌≡◌, refl}
use native.Mathlib.Omega.{arith}
use lib.Dec.{eqb}
use borrow.Author.Rules.{rules}
use borrow.Author.Tests.{eq-eqb, ne_eqb}
use Rattle.lists.specs.Span.{span}
use Rattle.lists.specs.Fold.{count}
use Rattle.list_rule.specs.Rule.{start_number}
use Rattle.list_rule.proofs.Laws.{adds_one, adds_none, count-more}
use Rattle.list_rule.proofs.unplaced.Goals.{else-start-v-eq0, then-start-v-eq0}
use Rattle.list_rule.proofs.unplaced.Goals as goal

pub loop-v-init : goal.loop-v-init
unfolding count span
loop-v-init c = (search rules, search rules, refl)

pub loop-v-preserved : goal.loop-v-preserved
loop-v-preserved c =
    let more = count-more (λ u. eqb (start_number c.args.start.now u) 0) c.loop-v.v in
    elim c.if-start-v-eq0.branch [ then-start-v-eq0 w ↦ omega (arith, more, adds_one _ (eq-eqb (start_number c.args.start.now c.loop-v.v) 0 (omega arith))) | else-start-v-eq0 w ↦ omega (arith, more, adds_none _ (ne_eqb (start_number c.args.start.now c.loop-v.v) 0 (λ e. w.if-start-v-eq0.false (omega arith)))) ]

pub returns : goal.returns
returns c =
    let e : c.loop-v.v ≡ c.args.nodes = omega arith in
    rw (← e) c.loop-v.invariant.2
