-- `plans::write_plan` meets its contract: what the writer makes of the form with its pair.
-- Assumes nothing.
use mathlib.Core.Path.{◌≡◌, sym, subst}
use mathlib.Core.Bool.{true}
use Rattle.std.specs.Prelude.{Ok, Err}
use Rattle.std.proofs.lemmas.Result.{err_from_is_err_and}
use Rattle.answer.specs.Refused.{fine, refused_fine, none_fine}
use Rattle.form.specs.declared.Form.{Form}
use Rattle.reader.specs.Reading.{read_form}
use Rattle.writer.specs.Layout.{layout}
use Rattle.plans.proofs.Entries.{plan-roomless, plan-told}
use Rattle.plans.proofs.Steps.{stored}
use Rattle.plans.proofs.write_plan.Goals as goal

pub write_taken-requires : goal.write_taken-requires
write_taken-requires c =
    subst (λ (f : Form). fine (read_form (layout f)).refusal ≡ true) (sym (stored _ _ _ c.steps_of-steps.ensures)) c.requires

pub returns-in_err-size : goal.returns-in_err-size
returns-in_err-size c =
    let was : c.write_taken.result ≡ Err c.in_err-size.field-0.0 = cc in
    let is = rw was at c.write_taken.ensures.0 in
    let told = err_from_is_err_and c.from_residual.result c.from_residual.ensures.1 in
    rw (told.1, told.2.0, told.2.1) (plan-roomless _ _ _ none_fine _ (stored _ _ _ c.steps_of-steps.ensures) _ _ is c.write_taken.ensures.1 (refused_fine _))

pub returns : goal.returns
returns c =
    let was : c.write_taken.result ≡ Ok c.in_ok-size.size = cc in
    let is = rw was at c.write_taken.ensures.0 in
    plan-told _ _ _ none_fine _ (stored _ _ _ c.steps_of-steps.ensures) _ _ is c.write_taken.ensures.1 none_fine
