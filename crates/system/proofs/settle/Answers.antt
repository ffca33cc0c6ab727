-- `system::settle` meets its contract: the rounds that are left give what all of them give.
-- Assumes nothing.
use mathlib.Core.Path.{◌≡◌, ap}
use Prim.Native.Nat.{ℕ, suc, ◌+◌, ◌-◌, ◌*◌}
use native.Mathlib.Omega.{arith}
use Rattle.lists.specs.Place.{zeros-at}
use lib.ListN.{replicate}
use Rattle.system.specs.Lent.{system_in}
use Rattle.system.specs.Rounds.{settle_from, settled_of}
use Rattle.system.specs.System.{system_of}
use Rattle.system.proofs.Laws.{settle-on, settle-done, settle-out}
use Rattle.system.proofs.settle.Goals.{In-loop-round}
use Rattle.system.proofs.settle.Goals as goal

pub loop-round-init : goal.loop-round-init
unfolding settled_of system_of
loop-round-init c = (ap (λ (m : ℕ). settle_from (system_in c.args.system) m (replicate 64 0)) (omega arith), λ v. omega (arith, zeros-at 64 v))

-- one round less is left
one_less : (c : In-loop-round) → c.args.system.nodes - c.loop-round._round ≡ suc (c.args.system.nodes - (c.loop-round._round + 1))
one_less c = omega arith

pub returns-then-not-raised : goal.returns-then-not-raised
returns-then-not-raised c =
    settle-done _ _ _ (one_less (goal.at.returns-then-not-raised c).In-loop-round) _ _ _ _ c.one_round-raised.ensures.is_raised c.one_round-raised.ensures.is_round c.loop-round.invariant.0 c.if-not-raised.true

pub loop-round-preserved : goal.loop-round-preserved
loop-round-preserved c = (
  settle-on _ _ _ (one_less (goal.at.loop-round-preserved c).In-loop-round) _ _ _ _ c.one_round-raised.ensures.is_raised c.one_round-raised.ensures.is_round c.loop-round.invariant.0 c.if-not-raised.false,
  λ v. omega (arith, c.one_round-raised.ensures.bound (c.loop-round._round * 16776960) c.loop-round.invariant.1 v),
)

pub returns : goal.returns
returns c = settle-out _ _ _ _ c.loop-round.invariant.0 (omega arith)
