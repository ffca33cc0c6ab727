-- `list_rule::raise` meets its contract: the steps passed are raised.
-- Assumes nothing.
use mathlib.Core.Path.{◌≡◌}
use Prim.Native.Nat.{◌+◌}
use native.Mathlib.Omega.{arith}
use borrow.Author.Rules.{rules}
use Rattle.list_rule.proofs.Units.{raised-not-placed, raised-none, raised-here, raised-more}
use Rattle.list_rule.proofs.raise.Goals as goal

pub returns-then-begins-eq0 : goal.returns-then-begins-eq0
returns-then-begins-eq0 c = raised-not-placed _ _ _ _ c.requires.busy_len.0 c.if-begins-eq0.true

pub loop-q-init : goal.loop-q-init
loop-q-init c = (search rules, search rules, raised-none _ _ _ c.requires.busy_len.0)

pub overflow_add-busy : goal.overflow_add-busy
overflow_add-busy c =
    rw c.spot-at.ensures.0 (omega (arith, raised-here _ _ _ _ _ c.loop-q.invariant.2 c.requires.busy_len.1 (omega arith) c.loop-q.invariant.0 (omega arith), c.requires.by_index c.loop-q.q (omega arith)))

pub loop-q-preserved : goal.loop-q-preserved
loop-q-preserved c =
    (search rules, search rules, raised-more _ _ _ _ _ c.loop-q.invariant.2 c.requires.busy_len.1 (omega arith) c.loop-q.invariant.0 (omega arith) _ c.spot-at.ensures.0)

pub returns : goal.returns
returns c =
    let e : c.loop-q.q ≡ c.args.begins + c.args.hold = omega arith in
    rw (← e) c.loop-q.invariant.2
