-- `floor::busiest_class` meets its contract: the busiest of the classes passed is kept.
-- Assumes nothing.
use mathlib.Core.Path.{◌≡◌, subst}
use Prim.Native.Nat.{ℕ}
use native.Mathlib.Omega.{arith}
use Rattle.floor.specs.Tables.{Busy}
use Rattle.floor.proofs.Laws.{busy-none, busy-here, busy-past, part-is}
use Rattle.floor.proofs.busiest_class.Goals.{else-part-here, then-part-here}
use Rattle.floor.proofs.busiest_class.Goals as goal

pub loop-c-init : goal.loop-c-init
loop-c-init c = (λ g p timed. busy-none g, omega arith)

pub units_part-here-requires : goal.units_part-here-requires
units_part-here-requires c =
    record { good_class = c.requires.class c.loop-c.c c.loop-c-test.true; on_bound = c.nodes_on.ensures.1 }

pub loop-c-preserved : goal.loop-c-preserved
loop-c-preserved c = (
  λ g p timed.
      let is = part-is g p c.args.times timed c.loop-c.c _ _ c.nodes_on.ensures.0 c.units_part-here.ensures.0 in
      elim c.if-part-here.branch [ then-part-here w ↦ rw (w.part-is, w.number-is) (busy-here g c.loop-c.c _ _ _ is (c.loop-c.invariant.0 g p timed) (omega (arith, w.if-part-here.true))) | else-part-here w ↦ rw (w.part-is, w.number-is) (busy-past g c.loop-c.c _ _ _ is (c.loop-c.invariant.0 g p timed) (omega (arith, w.if-part-here.false))) ],
  elim c.if-part-here.branch [ then-part-here w ↦ omega (arith, w.part-is, c.units_part-here.ensures.1) | else-part-here w ↦ omega (arith, w.part-is) ],
)

pub returns : goal.returns
returns c = (
  λ g p timed.
      let e : c.loop-c.c ≡ g.classes = omega (arith, timed.all_classes) in
      subst (λ (n : ℕ). Busy g n c.loop-c.part c.loop-c.number) e (c.loop-c.invariant.0 g p timed),
  c.loop-c.invariant.1,
)
