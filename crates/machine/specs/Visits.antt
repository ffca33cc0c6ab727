-- What one visit of a node does, and what holds through all visits of a run.
-- Assumes nothing.
use Rattle.std.specs.Prelude.{◌≡◌, true, false, List, ℕ, suc, ◌+◌, ◌*◌, ◌≤◌, ◌<◌, ltb, set, None, Some}
use Rattle.std.proofs.Common.{sym}
use Rattle.std.proofs.Math.Path.{subst}
use borrow.Author.Tests.{ltb-true, ltb-false}
use Rattle.lists.specs.Pick.{pick, pick_ind, pick_true, pick-false}
use Rattle.answer.specs.Refused.{Verdict, fine}
use Rattle.answer.specs.declared.Refusal.TheVariants.{Early, Busy}
use Rattle.legal.specs.Loop.{Loop, Pair, ran_on, latency}
use Rattle.machine.specs.Through.{step_by, ran_by, through}
use Rattle.machine.specs.Values.{place_of, computed}
use Rattle.machine.specs.Run.{Machine, issues, iteration, late_edge, held_now, issue, visit, step_of, ran}

-- a machine stopped, with its tables as they are
abbrev pub halted : Machine → Verdict → Machine
halted m why = record { values = m.values; finish = m.finish; refusal = why }

module _ (g : Loop) (p : Pair) (starts : List ℕ) (k : ℕ) where
  -- node v finds its operands finished and a unit in run step t
  pub record Clear (t v : ℕ) (m : Machine) : Type 0 where
    pub timely : g.graph.edges ≤ late_edge g p starts k m.finish t v
    pub unit : held_now g p starts k m.finish (ran_on g v) t < (g.class (ran_on g v)).units

  -- the machine with node v issued in run step t
  unfoldable pub after_issue : ℕ → ℕ → Machine → Machine
  after_issue t v m = record {
    values = set m.values (place_of g starts (iteration g p starts k t v) v) (computed g starts m.values (iteration g p starts k t v) v);
    finish = set m.finish (place_of g starts (iteration g p starts k t v) v) (t + latency g v);
    refusal = None;
  }

  -- what a visit makes of a machine that goes
  pub data Visited (t v : ℕ) (m : Machine) : Machine → Type 0 where
    idle : issues g p starts k t v ≡ false → Visited t v m m
    early : issues g p starts k t v ≡ true → late_edge g p starts k m.finish t v < g.graph.edges
        → Visited t v m (halted m (Some (Early t v (late_edge g p starts k m.finish t v))))
    busy : issues g p starts k t v ≡ true → g.graph.edges ≤ late_edge g p starts k m.finish t v
        → (g.class (ran_on g v)).units ≤ held_now g p starts k m.finish (ran_on g v) t
        → Visited t v m (halted m (Some (Busy t v (ran_on g v))))
    goes : issues g p starts k t v ≡ true → Clear t v m → Visited t v m (after_issue t v m)

  issue-visited : (t v : ℕ) (m : Machine) → issues g p starts k t v ≡ true → Visited t v m (issue g p starts k m t v)
  unfolding issue after_issue
  issue-visited t v m q =
      pick_ind (Visited t v m) (ltb (late_edge g p starts k m.finish t v) g.graph.edges) _ _
      (λ e. early q (ltb-true _ _ e))
      (λ e. pick_ind (Visited t v m) (ltb (held_now g p starts k m.finish (ran_on g v) t) (g.class (ran_on g v)).units) _ _
      (λ f. goes q (record { timely = ltb-false _ _ e; unit = ltb-true _ _ f }))
      (λ f. busy q (ltb-false _ _ e) (ltb-false _ _ f)))

  pub visited : (t v : ℕ) (m : Machine) → fine m.refusal ≡ true → Visited t v m (visit g p starts k t m v)
  unfolding visit
  visited t v m f =
      subst (Visited t v m) (sym (pick_true (fine m.refusal) (pick (issues g p starts k t v) (issue g p starts k m t v) m) m f))
      (pick_ind (Visited t v m) (issues g p starts k t v) (issue g p starts k m t v) m (issue-visited t v m) idle)

  -- a machine that is stopped stays as it is
  pub stays : (t v : ℕ) (m : Machine) → fine m.refusal ≡ false → visit g p starts k t m v ≡ m
  unfolding visit
  stays t v m e = pick-false (fine m.refusal) (pick (issues g p starts k t v) (issue g p starts k m t v) m) m e

  -- what each visit keeps holds through the nodes of a step, and through the steps of a run
  module _ (Holds : ℕ → Machine → Type 0)
      (keep : (t v : ℕ) (m : Machine) → 1 ≤ t → v < g.graph.nodes → Holds (t * g.graph.nodes + v) m → Holds (suc (t * g.graph.nodes + v)) (visit g p starts k t m v)) where
    pub through-steps : (n : ℕ) (m : Machine) → Holds g.graph.nodes m → Holds (suc n * g.graph.nodes) (ran g p starts k n m)
    unfolding ran step_of ran_by step_by
    through-steps = through g.graph.nodes (visit g p starts k) Holds keep
