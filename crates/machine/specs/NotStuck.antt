-- A run that is never refused issues every node of every iteration in its own step, and its values are the plain loop's.
-- Assumes nothing.
use Rattle.std.specs.Prelude.{◌≡◌, List, ℕ, ◌*◌, ◌≤◌, ◌<◌, length, None}
use Rattle.legal.specs.Loop.{Loop, Pair}
use Rattle.legal.specs.Shape.{Sound, Starting}
use Rattle.machine.specs.Plain.{PlainLoop}
use Rattle.machine.specs.Run.{run_of}
use Rattle.machine.specs.Moments.{moment-within}
use Rattle.machine.specs.Sofar.{Issued}
use Rattle.machine.specs.Ended.{ended-none}

module _ (g : Loop) (p : Pair) (s : Sound g) (b : Starting g p) (starts : List ℕ) (k : ℕ) (values finish : List ℕ)
    (room : k * g.graph.nodes ≤ length values) (room' : k * g.graph.nodes ≤ length finish)
    (goes_on : (run_of g p starts k values finish).refusal ≡ None) where
  -- every node of every iteration was issued: its finish step is its issue step and its latency, its operands were finished, and it had a unit
  pub run-issued : (i v : ℕ) → i < k → v < g.graph.nodes → Issued g p starts k (run_of g p starts k values finish) i v
  run-issued i v one l = (ended-none g p s b starts k values finish room room' goes_on).done i v one l (moment-within g p s b starts k i v one l)

  -- its values are the plain loop's
  pub run-plain : PlainLoop g starts k (run_of g p starts k values finish).values
  run-plain i v one l = (run-issued i v one l).value_is
