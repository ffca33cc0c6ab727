-- What a fit, a first schedule, a rotation and a search answer: the reader's refusal, the form's, then Room; else the whole record with the new pair.
-- Assumes nothing.
use Rattle.std.specs.Prelude.{◌≡◌, true, List, ℕ, length}
use Rattle.std.proofs.lemmas.List.Edits.{sets}
use Rattle.lists.specs.Pick.{pick}
use Rattle.answer.specs.Refused.{Verdict, fine}
use Rattle.form.specs.declared.Form.{Form}
use Rattle.reader.specs.Reading.{read_form}
use Rattle.record.specs.ReadFirst.{read_first}
use Rattle.writer.specs.Layout.{layout}
use Rattle.writer.specs.Writing.{refusal_of}
use Rattle.legal.specs.Loop.{loop_of, pair_of}
use Rattle.legal.specs.Handed.{Handed}
use Rattle.plans.specs.Pairs.{with_times}
use Rattle.plans.specs.Outcome.{Plan, Scheduled}

-- what a form is refused for, its form with the new pair, and the rotations that this takes
module _ (asked : Form → Verdict) (planned : Form → Form) (turned : Form → ℕ) where
  -- what is refused of a form, with so much room
  abbrev pub schedule_refusal : ℕ → Form → Verdict
  schedule_refusal room f = pick (fine (asked f)) (refusal_of (planned f) room) (asked f)

  -- what is refused of a record, with so much room
  unfoldable pub schedule_record : List ℕ → ℕ → Verdict
  schedule_record s room = read_first s (schedule_refusal room)

  pub record RecordScheduled (s out out' : List ℕ) (r : Scheduled) : Type 0 where
    pub refusal : r.refusal ≡ schedule_record s (length out)
    pub size : r.size ≡ pick (fine r.refusal) (length (layout (planned (read_form s).form))) 0
    pub rotations : r.rotations ≡ pick (fine r.refusal) (turned (read_form s).form) 0
    pub buffer : out' ≡ pick (fine r.refusal) (sets out 0 (layout (planned (read_form s).form))) out
    pub handed : Handed (loop_of (read_form s).form) (pair_of (read_form s).form) r.refusal r.cycle

  -- a form's part of that, before anything is written
  pub record Planned (f : Form) (y : Plan) : Type 0 where
    pub refusal : y.refusal ≡ asked f
    pub form : fine y.refusal ≡ true → with_times f y.times ≡ planned f
    pub rotations : fine y.refusal ≡ true → y.rotations ≡ turned f
    pub handed : Handed (loop_of f) (pair_of f) y.refusal y.cycle

-- the form with a plan's pair written, unless the plan is refused
pub record PlanWritten (f : Form) (y : Plan) (out out' : List ℕ) (r : Scheduled) : Type 0 where
  pub refusal : r.refusal ≡ pick (fine y.refusal) (refusal_of (with_times f y.times) (length out)) y.refusal
  pub size : r.size ≡ pick (fine r.refusal) (length (layout (with_times f y.times))) 0
  pub rotations : r.rotations ≡ pick (fine r.refusal) y.rotations 0
  pub buffer : out' ≡ pick (fine r.refusal) (sets out 0 (layout (with_times f y.times))) out
  pub cycle : r.cycle ≡ y.cycle

-- where nothing is rotated
abbrev pub unturned : Form → ℕ
unturned f = 0
