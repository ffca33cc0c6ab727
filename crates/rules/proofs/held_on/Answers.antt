-- `rules::held_on` meets its contract: by the class.
-- Assumes nothing.
use mathlib.Core.Path.{sym, ◌∙◌}
use native.Mathlib.Omega.{arith}
use borrow.Author.Rules.{rules}
use borrow.Author.Tests.{eq-eqb, ne_eqb}
use lib.Dec.{eqb}
use Rattle.lists.specs.Pick.{pick_true, pick-false}
use Rattle.rules.specs.Busy.{held_on}
use Rattle.rules.proofs.held_on.Goals as goal

pub returns-then-own-class : goal.returns-then-own-class
unfolding held_on
returns-then-own-class c = (sym (pick-false (eqb c.args.own c.args.class) _ 0 (ne_eqb c.args.own c.args.class (search rules))), omega arith)

pub returns : goal.returns
unfolding held_on
returns c =
    (c.held_in-held.ensures.0 ∙ sym (pick_true (eqb c.args.own c.args.class) _ 0 (eq-eqb c.args.own c.args.class (search rules))), c.held_in-held.ensures.1)
