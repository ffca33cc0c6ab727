-- A run, repetition by repetition: in each the nodes in the order of their starts, and what is refused stays.
-- Assumes nothing.
use Rattle.std.specs.Prelude.{◌≡◌, ◌≢◌, ℕ, ◌+◌, ◌-◌, ◌*◌, ◌%◌, ◌≤◌}
use Rattle.std.proofs.Math.Path.{refl}
use Rattle.std.proofs.Math.Bool.{false}
use mathlib.Core.List.{List, [], ◌∷◌}
use Rattle.std.proofs.Common.{arith}
use borrow.Author.Tests.{ne_eqb}
use Rattle.std.proofs.Math.Dec.{eqb}
use Rattle.lists.specs.Pick.{pick_ind, pick-false}
use Rattle.lists.specs.Span.{span}
use Rattle.lists.specs.Fold.{fold}
use Rattle.lists.specs.Quotient.{divided}
use Rattle.answer.specs.Refused.{fine}
use Rattle.legal.specs.Loop.{Loop, Pair}
use Rattle.machine.specs.Run.{Machine, body_step, issues, issue, visit, step_of, ran}
use Rattle.machine.specs.Visits.{stays}
use Rattle.machine.specs.Through.{step_by, ran_by}
use Rattle.run.specs.Order.{order_from}
use Rattle.run.specs.Repeats.{call_in, repeated_by, ran-repeats}

-- the nodes of a loop in the order of its repetitions
abbrev pub order : Loop → Pair → List ℕ
order g p = order_from p.start g.graph.nodes 1 p.length

module _ (g : Loop) (p : Pair) (starts : List ℕ) (k : ℕ) where
  -- the run step of a body step in repetition j, which counts from 0
  abbrev pub step_within : ℕ → ℕ → ℕ
  step_within j q = j * p.length + q

  -- node v in repetition j
  unfoldable pub visit_in : ℕ → Machine → ℕ → Machine
  visit_in j m v = visit g p starts k (step_within j (p.start v)) m v

  -- the nodes of a repetition, one after the other
  unfoldable pub repeated : Machine → ℕ → Machine
  repeated m j = fold (visit_in j) m (order g p)

  -- ---- in a run step the nodes that do not start there do nothing

  idles : (j q v : ℕ) (m : Machine) → 1 ≤ q → q ≤ p.length → p.start v ≢ q → visit g p starts k (step_within j q) m v ≡ m
  unfolding visit issues
  idles j q v m one few ne =
      let d : (step_within j q - 1) % p.length ≡ q - 1 = (divided j p.length (q - 1) (step_within j q - 1) (omega arith) (omega arith)).1 in
      let off : eqb (p.start v) (body_step g p starts k (step_within j q)) ≡ false = ne_eqb (p.start v) (body_step g p starts k (step_within j q)) (λ (e : p.start v ≡ (step_within j q - 1) % p.length + 1). ne (omega arith)) in
      rw off (pick_ind (λ r. r ≡ m) (fine m.refusal) _ _ (λ e. pick-false _ (issue g p starts k m (step_within j q) v) m refl) (λ e. refl))

  pub ran-repeated : (n : ℕ) (m : Machine) → ran g p starts k (n * p.length) m ≡ fold repeated m (span 0 n)
  unfolding ran step_of repeated visit_in ran_by step_by repeated_by call_in
  ran-repeated = ran-repeats g.graph.nodes p.length p.start (visit g p starts k) idles

  -- ---- what is refused stays

  pub visits-stay : (j : ℕ) (m : Machine) (vs : List ℕ) → fine m.refusal ≡ false → fold (visit_in j) m vs ≡ m
  unfolding fold visit_in
  visits-stay j m [] e = refl
  visits-stay j m (v ∷ vs) e = rw (stays g p starts k (step_within j (p.start v)) v m e) (visits-stay j m vs e)

  pub repetitions-stay : (m : Machine) (js : List ℕ) → fine m.refusal ≡ false → fold repeated m js ≡ m
  unfolding fold repeated
  repetitions-stay m [] e = refl
  repetitions-stay m (j ∷ js) e = rw (visits-stay j m (order g p) e) (repetitions-stay m js e)
