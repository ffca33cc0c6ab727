-- `floor::least_over` meets its contract: no length up to the short one is enough, and the long one is.
-- Assumes nothing.
use mathlib.Core.Path.{sym, ◌∙◌}
use mathlib.Core.Logic.{◌≢◌}
use native.Mathlib.Omega.{arith}
use Rattle.lists.specs.Pick.{both_ways}
use Rattle.legal.specs.Knots.{unknotted-free}
use Rattle.floor.specs.Least.{enough-512, short-less, least-cycle}
use borrow.Author.Rules.{rules}
use Rattle.floor.proofs.least_over.Goals as goal

pub loop-short-init : goal.loop-short-init
loop-short-init c = (search rules, omega arith, omega arith, λ g paced q. (enough-512 g paced.sound (unknotted-free g paced.free), λ l one z. short-less g paced.sound l _ z q))

pub loop-short-preserved : goal.loop-short-preserved
loop-short-preserved c = (
  omega arith,
  omega arith,
  omega arith,
  λ g paced q. (
    (c.loop-short.invariant.3 g paced q).0,
    λ k one z. short-less g paced.sound k _ z (sym (c.is_enough.ensures g paced.told paced.costed) ∙ c.if-is_enough.false),
  ),
)

pub returns : goal.returns
returns c g paced q =
    let i = c.loop-short.invariant.3 g paced q in
    let apart : c.loop-short.short ≢ c.loop-short.long = λ e. both_ways i.0 (i.1 c.loop-short.long c.loop-short.invariant.2 (omega arith)) in
    sym (least-cycle g c.loop-short.long c.loop-short.invariant.2 c.loop-short.invariant.1 i.0 (λ k one m. i.1 k one (omega arith)))
