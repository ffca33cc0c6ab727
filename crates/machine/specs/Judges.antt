-- The judge and the machine on a well-formed form: what the judge accepts runs to its end, as the plain loop does; what it refuses is stuck, given iterations enough.
-- Assumes nothing.
use Rattle.std.specs.Prelude.{◌≡◌, ◌≢◌, List, ℕ, ◌+◌, ◌*◌, ◌≤◌, length, None}
use Rattle.std.proofs.Common.{arith}
use Rattle.form.specs.declared.Form.{Form}
use Rattle.form.specs.Ranges.{WellFormed}
use Rattle.legal.specs.Loop.{loop_of, pair_of, graph_of, bodies}
use Rattle.legal.specs.Shape.{sound-form, placed-form}
use Rattle.legal.specs.Judging.{judge_of}
use Rattle.legal.specs.Judged.{judge-accepts, accepts-judge}
use Rattle.machine.specs.Plain.{PlainLoop}
use Rattle.machine.specs.Run.{depth, run_of}
use Rattle.machine.specs.Accepted.{Classed, accepted, accepted-plain}
use Rattle.machine.specs.Refused.{unrefused-legal}

-- every node of a well-formed form runs on a class of it
pub classed-form : (f : Form) → WellFormed f → Classed (loop_of f)
unfolding loop_of graph_of
classed-form f w v l = w.node v l

module _ (f : Form) (w : WellFormed f) (starts : List ℕ) (k : ℕ) (values finish : List ℕ)
    (room : k * (loop_of f).graph.nodes ≤ length values) (room' : k * (loop_of f).graph.nodes ≤ length finish) where
  -- what the judge accepts is never refused
  pub accepted-runs : judge_of f ≡ None → (run_of (loop_of f) (pair_of f) starts k values finish).refusal ≡ None
  accepted-runs q = accepted (loop_of f) (pair_of f) (sound-form f w) (classed-form f w) (judge-accepts f w q).1 starts k values finish room room'

  -- and its values are the plain loop's
  pub accepted-values : judge_of f ≡ None → PlainLoop (loop_of f) starts k (run_of (loop_of f) (pair_of f) starts k values finish).values
  accepted-values q = accepted-plain (loop_of f) (pair_of f) (sound-form f w) (classed-form f w) (judge-accepts f w q).1 starts k values finish room room'

  -- a schedule that the judge refuses is stuck from depth + 1 iterations on
  pub refused-stuck : f.header.length ≢ 0 → judge_of f ≢ None → depth (loop_of f) (pair_of f) + 1 ≤ k → (run_of (loop_of f) (pair_of f) starts k values finish).refusal ≢ None
  unfolding pair_of bodies
  refused-stuck n no-judge deep goes_on =
      no-judge (accepts-judge f w n
      (unrefused-legal (loop_of f) (pair_of f) (sound-form f w) (placed-form f w n) starts k values finish room room' (omega arith) goes_on))
