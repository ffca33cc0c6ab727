-- The run of a legal pair is never refused, so its values are the plain loop's.
-- Assumes nothing.
use Rattle.std.specs.Prelude.{◌≡◌, refl, true, List, ℕ, ◌+◌, ◌-◌, ◌*◌, ◌≤◌, ◌<◌, length, None}
use Rattle.std.proofs.Common.{subst, ⊎_elim, arith}
use Rattle.legal.specs.Loop.{Loop, Pair, ran_on}
use Rattle.legal.specs.Legal.{Legal}
use Rattle.legal.specs.Shape.{Sound, Starting, bodied-within}
use Rattle.machine.specs.Plain.{PlainLoop}
use Rattle.machine.specs.Run.{Machine, issues, iteration, run_of}
use Rattle.machine.specs.Moments.{issue_step, moment, IssuedAt, issues-step}
use Rattle.machine.specs.Visits.{Clear}
use Rattle.machine.specs.Sofar.{holders, Ready, Sofar, held-is, ready-timely}
use Rattle.machine.specs.Issued.{step-moment}
use Rattle.machine.specs.Begins.{blank}
use Rattle.machine.specs.Ended.{Halted, ended}
use Rattle.machine.specs.NotStuck.{run-plain}
use Rattle.machine.specs.Timing.{rule-steps}
use Rattle.machine.specs.Free.{units-roomy}

-- every node runs on a class of the board
abbrev pub Classed : Loop → Type 0
Classed g = (v : ℕ) → v < g.graph.nodes → ran_on g v < g.classes

-- a legal pair starts in the body
pub legal-starting : (g : Loop) (p : Pair) → Sound g → Legal g p → Starting g p
legal-starting g p s h = (bodied-within g p s h.body).starts

module _ (g : Loop) (p : Pair) (s : Sound g) (classed : Classed g) (legal : Legal g p) (starts : List ℕ) (k : ℕ) where
  -- operands are ready
  pub legal-ready : (i v : ℕ) → v < g.graph.nodes → Ready g p starts k i v
  legal-ready i v l e a q d =
      subst (λ (x : ℕ). issue_step g p (i - g.delay e) (g.graph.tail e) + (g.class (ran_on g (g.graph.tail e))).latency ≤ issue_step g p i x) q
      (rule-steps g p s e i a d (legal.edges e a))

  module _ (values finish : List ℕ) (room : k * g.graph.nodes ≤ length values) (room' : k * g.graph.nodes ≤ length finish) where
    legal-clear : (t v : ℕ) (m : Machine) → 1 ≤ t → v < g.graph.nodes → Sofar g p starts k (blank g k values finish) (t * g.graph.nodes + v) m
        → issues g p starts k t v ≡ true → Clear g p starts k t v m
    legal-clear t v m one l f q =
        let b : Starting g p = legal-starting g p s legal in
        let m₀ : Machine = blank g k values finish in
        let n : ℕ = t * g.graph.nodes + v in
        let i : ℕ = iteration g p starts k t v in
        let at : IssuedAt g p s b starts k t v i = issues-step g p s b starts k t v one l q in
        let now : moment g p i v ≡ n = step-moment g p s b starts k m₀ t v i at.step in
        let roomy : holders g p starts k n (ran_on g v) t < (g.class (ran_on g v)).units = rw (now, at.step) at (units-roomy g p s _ (bodied-within g p s legal.body) starts k legal.units i v l (classed v l)) in
        record {
          timely = ready-timely g p s starts k m₀ n m f t v i at.is_one l refl at.step now (legal-ready i v l);
          unit = omega (arith, held-is g p s starts k m₀ n m f (ran_on g v) t);
        }

    -- the run of a legal pair is never refused
    pub accepted : (run_of g p starts k values finish).refusal ≡ None
    accepted = ⊎_elim (λ h. h.0) never (ended g p s (legal-starting g p s legal) starts k values finish room room')
      where
        never : Halted g p starts k (blank g k values finish) (run_of g p starts k values finish) → (run_of g p starts k values finish).refusal ≡ None
        never h =
            let c = legal-clear h.step h.node (run_of g p starts k values finish) h.step_some h.node_in h.sofar h.issuing in
            ⊎_elim (λ w. absurd (omega (arith, c.timely, w.1))) (λ w. absurd (omega (arith, c.unit, w.2))) h.why

    -- and its values are the plain loop's
    pub accepted-plain : PlainLoop g starts k (run_of g p starts k values finish).values
    accepted-plain = run-plain g p s (legal-starting g p s legal) starts k values finish room room' accepted
