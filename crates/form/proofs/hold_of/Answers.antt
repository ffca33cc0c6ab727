-- `form::hold_of` meets its contract.
-- Assumes nothing.
use borrow.Author.Rules.{rules}
use borrow.Author.Tests.{eq-eqb, ne_eqb}
use Rattle.lists.specs.Pick.{pick}
use Rattle.form.specs.Hold.{hold}
use Rattle.form.proofs.hold_of.Goals as goal

pub returns-then-class-eq0 : goal.returns-then-class-eq0
unfolding hold pick
returns-then-class-eq0 c = search (rules, eq-eqb, ne_eqb)

pub returns : goal.returns
unfolding hold pick
returns c = search (rules, eq-eqb, ne_eqb)
