-- What a fit answers: Bare, Knot, NoRetiming, Units, then Room; else the whole record with the fitted retiming.
-- Assumes nothing.
use Rattle.std.specs.Prelude.{List, ℕ, eqb, Some}
use Rattle.lists.specs.Pick.{pick}
use Rattle.answer.specs.Refused.{Verdict}
use Rattle.answer.specs.declared.Refusal.TheVariants.{Bare, Knot, NoRetiming}
use Rattle.form.specs.declared.Form.{Form}
use Rattle.system.specs.Rounds.{settled_of}
use Rattle.legal.specs.Loop.{loop_of, pair_of}
use Rattle.legal.specs.Systems.{knotted, limits}
use Rattle.legal.specs.Judging.{units_of}
use Rattle.plans.specs.Outcome.{Scheduled}
use Rattle.plans.specs.Scheduling.{RecordScheduled, unturned}
use Rattle.fit.specs.Retimed.{fitted_form}

-- what is refused of a form before anything is written
unfoldable pub fit_of : Form → Verdict
fit_of f =
    pick (eqb f.header.length 0) (Some Bare)
    (pick (knotted (loop_of f)) (Some Knot)
    (pick (settled_of (limits (loop_of f) (pair_of f))).settled (units_of (loop_of f) (pair_of f)) (Some NoRetiming)))

-- what a fit of a record answers, and the buffer afterwards
abbrev pub RecordFitted : List ℕ → List ℕ → List ℕ → Scheduled → Type 0
RecordFitted s out out' r = RecordScheduled fit_of fitted_form unturned s out out' r
