-- What an exported function leaves: the number and the list of an answer of the library that meets its contract.
-- Assumes nothing.
use Rattle.std.specs.Prelude.{◌≡◌, List, ℕ, Result, Ok, Err}
use Rattle.answer.specs.Refused.{Verdict, number_of, details}
use Rattle.answer.specs.Outcome.{no_cycle, told_of, told_list}
use Rattle.answer.specs.declared.Refused.{Refused}
use Rattle.answer.specs.declared.Details.{Details}
use Rattle.answer.specs.declared.Cycle.{Cycle}
use Rattle.judge.specs.Outcome.{Ruling}
use Rattle.judge.specs.Judgement.{RecordJudgement}
use Rattle.fit.specs.Fitting.{RecordFitted}
use Rattle.plans.specs.Outcome.{Scheduled}
use Rattle.turning.specs.Rotation.{first_form}
use Rattle.plans.specs.Scheduling.{RecordScheduled, unturned}
use Rattle.rotation.specs.Rotating.{first_asked, rotate_asked, rotated_by}
use Rattle.search.specs.Searching.{search_asked, search_form, search_turns}
use Rattle.run.specs.Outcome.{Stepped}
use Rattle.run.specs.Running.{RecordRun}
use Rattle.plain.specs.Outcome.{Looped}
use Rattle.plain.specs.Answer.{RecordLooped}
use Rattle.floor.specs.Outcome.{Floored}
use Rattle.floor_part.specs.Numbers.{part_number, part_class}
use Rattle.floor.specs.Floor.{RecordFloored}

-- of an answer of type A: its contract, its refusal, what is told beside that, and its cycle
pub record Answered (A : Type 0) (meets : A → Type 0) (refused : A → Verdict) (told : A → Details) (cycle : A → Cycle) (number : ℕ) (list : List ℕ) : Type 0 where
  pub given : A
  pub met : meets given
  pub number_is : number ≡ number_of (refused given)
  pub list_is : list ≡ told_list (refused given) (told given) (cycle given)

-- the numbers of an outcome, all 0 where it is refused
abbrev pub numbers_in : Result Details Refused → Details
numbers_in (Ok numbers) = numbers
numbers_in (Err e) = details 0 0 0

-- a record judged: no numbers
abbrev pub JudgeAnswered : List ℕ → ℕ → List ℕ → Type 0
JudgeAnswered s = Answered Ruling (RecordJudgement s) (λ j. j.refusal) (λ j. told_of j.refusal (details 0 0 0)) (λ j. j.cycle)

-- a record fitted: its size
abbrev pub FitAnswered : List ℕ → List ℕ → List ℕ → ℕ → List ℕ → Type 0
FitAnswered s out after = Answered Scheduled (RecordFitted s out after) (λ f. f.refusal) (λ f. told_of f.refusal (details f.size 0 0)) (λ f. f.cycle)

-- a record with its first schedule: its size
abbrev pub FirstAnswered : List ℕ → List ℕ → List ℕ → ℕ → List ℕ → Type 0
FirstAnswered s out after =
    Answered Scheduled (RecordScheduled first_asked first_form unturned s out after) (λ x. x.refusal) (λ x. told_of x.refusal (details x.size 0 0)) (λ x. x.cycle)

-- a record rotated by z steps: its size
abbrev pub RotateAnswered : ℕ → List ℕ → List ℕ → List ℕ → ℕ → List ℕ → Type 0
RotateAnswered z s out after =
    Answered Scheduled (RecordScheduled (rotate_asked z) (rotated_by z) unturned s out after) (λ x. x.refusal) (λ x. told_of x.refusal (details x.size 0 0)) (λ x. x.cycle)

-- a record searched by count and size: its size and the rotations completed
abbrev pub SearchAnswered : ℕ → ℕ → List ℕ → List ℕ → List ℕ → ℕ → List ℕ → Type 0
SearchAnswered c z s out after =
    Answered Scheduled (RecordScheduled (search_asked z) (search_form c z) (search_turns c z) s out after) (λ x. x.refusal) (λ x. told_of x.refusal (details x.size x.rotations 0)) (λ x. x.cycle)

-- the floor of a record: the floor, its part's number, and the class for part b
abbrev pub FloorAnswered : List ℕ → ℕ → List ℕ → Type 0
FloorAnswered s =
    Answered Floored (RecordFloored s) (λ f. f.refusal) (λ f. told_of f.refusal (details f.floor (part_number f.part) (part_class f.part))) (λ f. f.cycle)

-- a record run for k iterations: its run steps
abbrev pub RunAnswered : ℕ → List ℕ → List ℕ → List ℕ → List ℕ → List ℕ → List ℕ → ℕ → List ℕ → Type 0
RunAnswered k s starts values₀ finish₀ values finish =
    Answered Stepped (RecordRun s k starts values₀ finish₀ values finish) (λ x. x.refusal) (λ x. told_of x.refusal (details x.steps 0 0)) (λ x. no_cycle)

-- the plain loop of a record for k iterations: no numbers
abbrev pub PlainAnswered : ℕ → List ℕ → List ℕ → List ℕ → List ℕ → ℕ → List ℕ → Type 0
PlainAnswered k s starts before after =
    Answered Looped (RecordLooped s k starts before after) (λ x. x.refusal) (λ x. told_of x.refusal (details 0 0 0)) (λ x. x.cycle)
