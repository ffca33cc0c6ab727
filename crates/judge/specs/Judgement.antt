-- What the judge answers of a form, and of a record: what the reader refuses of it first.
-- Assumes nothing.
use Rattle.std.specs.Prelude.{◌≡◌, List, ℕ}
use Rattle.answer.specs.Refused.{Verdict}
use Rattle.form.specs.declared.Form.{Form}
use Rattle.reader.specs.Reading.{read_form}
use Rattle.record.specs.ReadFirst.{read_first}
use Rattle.legal.specs.Loop.{loop_of, pair_of}
use Rattle.legal.specs.Judging.{judge_of}
use Rattle.legal.specs.Handed.{Handed}
use Rattle.judge.specs.Outcome.{Ruling}

pub record Judgement (f : Form) (r : Ruling) : Type 0 where
  pub refusal : r.refusal ≡ judge_of f
  pub handed : Handed (loop_of f) (pair_of f) r.refusal r.cycle

-- what is refused of the bytes, else of the form that they hold
unfoldable pub judge_record : List ℕ → Verdict
judge_record s = read_first s judge_of

pub record RecordJudgement (s : List ℕ) (r : Ruling) : Type 0 where
  pub refusal : r.refusal ≡ judge_record s
  pub handed : Handed (loop_of (read_form s).form) (pair_of (read_form s).form) r.refusal r.cycle
