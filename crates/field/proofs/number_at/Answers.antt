-- `field::number_at` meets its contract: what is read so far is the number of the bytes from `place` on.
-- Assumes nothing.
use mathlib.Core.Path.{◌≡◌}
use Prim.Native.Nat.{◌+◌, ◌-◌}
use native.Mathlib.Omega.{arith}
use Rattle.field.specs.Number.{number_at, number_small, number_more}
use Rattle.field.proofs.number_at.Goals as goal

pub loop-place-init : goal.loop-place-init
unfolding number_at
loop-place-init c = let z : c.args.width - c.args.width ≡ 0 = omega arith in rw (z, number_at)

pub overflow_mul-value : goal.overflow_mul-value
overflow_mul-value c =
    omega (arith, number_small c.args.s.now (λ i. omega (arith, c.type_inv.s i)) (c.args.width - c.loop-place.place) 3 (c.args.at + c.loop-place.place) (omega arith))

pub overflow_add-value : goal.overflow_add-value
overflow_add-value c =
    omega (arith, number_small c.args.s.now (λ i. omega (arith, c.type_inv.s i)) (c.args.width - c.loop-place.place) 3 (c.args.at + c.loop-place.place) (omega arith))

pub loop-place-preserved : goal.loop-place-preserved
loop-place-preserved c =
    number_more c.args.s.now c.args.width c.loop-place.place c.args.at c.loop-place.value c.byte_from-byte.result (omega arith) (omega arith) c.loop-place.invariant c.byte_from-byte.ensures

pub returns : goal.returns
returns c =
    let z : c.loop-place.place ≡ 0 = omega arith in
    let w : c.args.width - c.loop-place.place ≡ c.args.width = omega arith in
    let a : c.args.at + c.loop-place.place ≡ c.args.at = omega arith in
    rw (w, a) at c.loop-place.invariant
