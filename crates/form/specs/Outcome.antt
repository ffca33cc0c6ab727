-- What an answer tells, as the definitions speak of it.
-- Assumes nothing.
use Rattle.std.specs.Prelude.{Result, Ok, Err, None, Some}
use Rattle.answer.specs.Refused.{Verdict}
use Rattle.form.specs.declared.Form.{Form}
use Rattle.form.specs.declared.Full.{Full}

-- a form after an addition; the verdict says whether it was taken
pub record Added : Type 0 where
  pub form : Form
  pub refusal : Verdict

-- what an addition to a form hands back, taken or not
abbrev pub added_of : Result Form Full → Added
added_of (Ok form) = record { form = form; refusal = None }
added_of (Err full) = record { form = full.form; refusal = Some full.refusal }
