-- `drawing::draw` meets its contract: nothing of a record that is refused; else measured in no room, where nothing is put, then put where it fits.
-- Assumes nothing.
use native.Mathlib.Omega.{arith}
use Rattle.answer.specs.Refused.{refused_fine, none_fine}
use Rattle.form.specs.Ranges.{WellFormed}
use Rattle.record.specs.Read.{read-good}
use Rattle.drawing.proofs.Whole.{refused-draw, cramped, fits, some-size}
use Rattle.drawing.proofs.draw.Goals.{In-Ok}
use Rattle.drawing.proofs.draw.Goals as goal

good : (c : In-Ok) → WellFormed c.in-Ok.form
good c = read-good c.args.«record».now _ c.in-Ok.ensures (λ i. omega (arith, c.type_inv.«record» i)) none_fine

pub times_of-times-requires : goal.times_of-times-requires
times_of-times-requires c = good (goal.at.times_of-times-requires c).In-Ok

pub put_table-size-requires : goal.put_table-size-requires
put_table-size-requires c = record { form = c.in-Ok.form; good = good (goal.at.put_table-size-requires c).In-Ok; is = c.times_of-times.ensures }

pub returns-then-out-size : goal.returns-then-out-size
returns-then-out-size c =
    let h = cramped _ _ c.in-Ok.ensures none_fine _ _ _ (c.put_table-size.ensures.1 _ c.times_of-times.ensures) (omega (arith, c.if-out-size.true)) in
    record { value = h.0; some = tt; out_after = h.1 }

pub put_table-requires : goal.put_table-requires
put_table-requires c = record { form = c.in-Ok.form; good = good (goal.at.put_table-requires c).In-Ok; is = c.times_of-times.ensures }

pub returns : goal.returns
returns c =
    let h = fits _ _ c.in-Ok.ensures none_fine _ _ _ (c.put_table-size.ensures.1 _ c.times_of-times.ensures) _ _ (omega (arith, c.if-out-size.false)) (c.put_table.ensures.1 _ c.times_of-times.ensures) in
    record { value = h.0; some = some-size _ _ _ (c.put_table-size.ensures.1 _ c.times_of-times.ensures); out_after = h.1 }

pub returns-in_default : goal.returns-in_default
returns-in_default c =
    let h = refused-draw _ _ c.in_default.ensures _ (refused_fine c.in_default.field-0) in
    record { value = h.0; some = tt; out_after = h.1 }
