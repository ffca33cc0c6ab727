-- `form::Form::empty` meets its contract.
-- Assumes nothing.
use mathlib.Core.Path.{refl}
use Rattle.form.specs.Places.{empty_form}
use Rattle.form.proofs.Form.empty.Goals as goal

pub returns : goal.returns
unfolding empty_form
returns c = refl
