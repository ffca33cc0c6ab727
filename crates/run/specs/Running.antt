-- What a run of a record answers: the reader's refusal, Bare, Room, else what the machine makes of the buffers.
-- Assumes nothing.
use Rattle.std.specs.Prelude.{◌≡◌, ◌≢◌, List, ℕ, ◌*◌, ◌≤◌, eqb, ltb, length, None, Some}
use Rattle.lists.specs.Pick.{pick}
use Rattle.answer.specs.Refused.{Verdict, fine}
use Rattle.answer.specs.declared.Refusal.TheVariants.{Bare, Room}
use Rattle.form.specs.declared.Form.{Form}
use Rattle.form.specs.Ranges.{WellFormed}
use Rattle.reader.specs.Reading.{read_form}
use Rattle.record.specs.ReadFirst.{read_first}
use Rattle.legal.specs.Loop.{loop_of, pair_of}
use Rattle.machine.specs.Run.{Machine, run_steps, run_of}
use Rattle.run.specs.Outcome.{Stepped}
use Rattle.issue.specs.Issue.{machine_of}

-- what a form of so many steps and nodes is refused for: no schedule, or a buffer that is too short
unfoldable pub room_asked : ℕ → ℕ → ℕ → List ℕ → List ℕ → List ℕ → Verdict
room_asked steps nodes k starts values finish =
    pick (eqb steps 0) (Some Bare)
    (pick (ltb (length starts) (15 * nodes)) (Some (Room 0))
    (pick (ltb (length values) (k * nodes)) (Some (Room 1))
    (pick (ltb (length finish) (k * nodes)) (Some (Room 2)) None)))

abbrev pub run_asked : Form → ℕ → List ℕ → List ℕ → List ℕ → Verdict
run_asked f k starts values finish = room_asked f.header.length f.header.nodes k starts values finish

-- what is refused before a run begins
unfoldable pub asked : List ℕ → ℕ → List ℕ → List ℕ → List ℕ → Verdict
asked s k starts values finish = read_first s (λ f. run_asked f k starts values finish)

-- the machine's run of a form
abbrev pub ran_of : Form → ℕ → List ℕ → List ℕ → List ℕ → Machine
ran_of f k starts values finish = run_of (loop_of f) (pair_of f) starts k values finish

abbrev pub steps_of : Form → ℕ → List ℕ → ℕ
steps_of f k starts = run_steps (loop_of f) (pair_of f) starts k

-- a form that can be run
pub record Runnable (f : Form) (k : ℕ) (starts values finish : List ℕ) : Type 0 where
  pub well : WellFormed f
  pub scheduled : f.header.length ≢ 0
  pub for_starts : 15 * f.header.nodes ≤ length starts
  pub for_values : k * f.header.nodes ≤ length values
  pub for_finish : k * f.header.nodes ≤ length finish

-- what its run answers
pub record FormRun (f : Form) (k : ℕ) (starts values₀ finish₀ values finish : List ℕ) (r : Stepped) : Type 0 where
  pub is_run : machine_of values finish r.refusal ≡ ran_of f k starts values₀ finish₀
  pub steps : r.steps ≡ pick (fine r.refusal) (steps_of f k starts) 0

-- what the run of a record answers: unless it is refused before it begins, the machine's refusal, values and finish steps
pub record RecordRun (s : List ℕ) (k : ℕ) (starts values₀ finish₀ values finish : List ℕ) (r : Stepped) : Type 0 where
  pub refusal : r.refusal ≡ pick (fine (asked s k starts values₀ finish₀)) (ran_of (read_form s).form k starts values₀ finish₀).refusal (asked s k starts values₀ finish₀)
  pub steps : r.steps ≡ pick (fine r.refusal) (steps_of (read_form s).form k starts) 0
  pub values-are : values ≡ pick (fine (asked s k starts values₀ finish₀)) (ran_of (read_form s).form k starts values₀ finish₀).values values₀
  pub finish-is : finish ≡ pick (fine (asked s k starts values₀ finish₀)) (ran_of (read_form s).form k starts values₀ finish₀).finish finish₀
