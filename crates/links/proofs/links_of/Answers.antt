-- `links::links_of` meets its contract: the edges from e on are linked.
-- Assumes nothing.
use mathlib.Core.Path.{◌≡◌, subst}
use Prim.Native.Nat.{ℕ, ◌+◌, ◌-◌}
use native.Mathlib.Omega.{arith}
use lib.ListN.{get_or}
use Rattle.links.proofs.Laws.{LinkedFrom, linked-none, linked-more}
use Rattle.links.proofs.links_of.Goals as goal

pub loop-e-init : goal.loop-e-init
loop-e-init c =
    linked-none (λ d. get_or c.args.keys.now d 0) c.args.edges

pub loop-e-preserved : goal.loop-e-preserved
loop-e-preserved c =
    let key : ℕ → ℕ = λ d. get_or c.args.keys.now d 0 in
    let down : c.loop-e.e ≡ c.loop-e.e - 1 + 1 = omega arith in
    linked-more key c.args.edges (c.loop-e.e - 1) c.loop-e.first c.loop-e.next (omega arith) (omega arith) (c.requires.1 (c.loop-e.e - 1) (omega arith))
    (subst (λ x. LinkedFrom key c.args.edges x c.loop-e.first c.loop-e.next) down c.loop-e.invariant)
