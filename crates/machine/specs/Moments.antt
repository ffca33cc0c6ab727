-- When each node of each iteration is issued: its run step, and its moment among all visits of nodes in run steps.
-- Assumes nothing.
use Rattle.std.specs.Prelude.{◌≡◌, true, List, map}
use Rattle.std.proofs.Common.{sym, ◌∙◌, zero-add}
use Rattle.std.proofs.Math.Path.{ap}
use Prim.Native.Nat.{ℕ, suc, ◌+◌, ◌-◌, ◌*◌, ◌/◌, ◌%◌, ◌≤◌, ◌<◌}
use native.Mathlib.Omega.{arith}
use Rattle.std.proofs.Math.Nat.{div-add-mod'}
use borrow.Author.Tests.{eqb-true, leb-true, ltb-true, eq-eqb, le-leb, lt-ltb}
use Rattle.lists.specs.Both.{and_both}
use Rattle.lists.specs.Span.{span}
use Rattle.lists.specs.Mapped.{mapped_at}
use Rattle.lists.specs.Fold.{top-over}
use Rattle.lists.specs.Quotient.{divided, rows-below, rows_apart}
use Rattle.legal.specs.Loop.{Loop, Pair}
use Rattle.legal.specs.Shape.{Sound, Starting}
use Rattle.machine.specs.Run.{depth, issues, iteration, run_steps}

-- no retiming is above the depth
pub under-depth : (g : Loop) (p : Pair) (v : ℕ) → v < g.graph.nodes → p.retiming v ≤ depth g p
unfolding depth
under-depth g p v l =
    omega (
      arith,
      top-over (map p.retiming (span 0 g.graph.nodes)) v,
      mapped_at p.retiming 0 g.graph.nodes v l ∙ ap p.retiming (zero-add v),
    )

-- the repetition in which node v of iteration i is issued, its run step, and its moment: the visits before it, with one step of none
unfoldable pub rep_of : Loop → Pair → ℕ → ℕ → ℕ
rep_of g p i v = i + depth g p - p.retiming v

unfoldable pub issue_step : Loop → Pair → ℕ → ℕ → ℕ
issue_step g p i v = rep_of g p i v * p.length + p.start v

unfoldable pub moment : Loop → Pair → ℕ → ℕ → ℕ
moment g p i v = issue_step g p i v * g.graph.nodes + v

module _ (g : Loop) (p : Pair) (s : Sound g) (b : Starting g p) (starts : List ℕ) (k : ℕ) where
  pub record IssuedAt (t v i : ℕ) : Type 0 where
    pub is_one : i < k
    pub step : issue_step g p i v ≡ t

  -- what issues in a run step is an iteration of the k, and the step is its own
  pub issues-step : (t v : ℕ) → 1 ≤ t → v < g.graph.nodes → issues g p starts k t v ≡ true → IssuedAt t v (iteration g p starts k t v)
  unfolding issues issue_step rep_of
  issues-step t v one l q =
      let a = and_both _ _ q in
      let c = and_both _ _ a.1 in
      let x : p.start v ≡ (t - 1) % p.length + 1 = eqb-true _ _ a.0 in
      let low : depth g p ≤ (t - 1) / p.length + p.retiming v = leb-true _ _ c.0 in
      let high : (t - 1) / p.length + p.retiming v < depth g p + k = ltb-true _ _ c.1 in
      let rep : (t - 1) / p.length + p.retiming v - depth g p + depth g p - p.retiming v ≡ (t - 1) / p.length = omega arith in
      record { is_one = omega arith; step = rw rep (omega (arith, div-add-mod' (t - 1) p.length)) }

  -- in its own run step an iteration of the k issues
  pub step-issues : (i v : ℕ) → i < k → v < g.graph.nodes
      → (issues g p starts k (issue_step g p i v) v ≡ true) × (iteration g p starts k (issue_step g p i v) v ≡ i)
  unfolding issues issue_step rep_of
  step-issues i v h l =
      let x = b v l in
      let u = under-depth g p v l in
      let t : ℕ = (i + depth g p - p.retiming v) * p.length + p.start v in
      let d = divided (i + depth g p - p.retiming v) p.length (p.start v - 1) (t - 1) (omega arith) (omega arith) in (
        rw (d.0, d.1)
            (rw (eq-eqb (p.start v) (p.start v - 1 + 1) (omega arith), le-leb (depth g p) (i + depth g p - p.retiming v + p.retiming v) (omega arith), lt-ltb (i + depth g p - p.retiming v + p.retiming v) (depth g p + k) (omega arith))),
        omega arith,
      )

  -- every run step of an iteration is one of the run's
  pub step-within : (i v : ℕ) → i < k → v < g.graph.nodes → (1 ≤ issue_step g p i v) × (issue_step g p i v ≤ run_steps g p starts k)
  unfolding issue_step rep_of run_steps
  step-within i v h l =
      let x = b v l in
      let u = under-depth g p v l in
      (omega arith, omega (arith, rows-below (i + depth g p - p.retiming v) (k + depth g p) p.length (omega arith)))

  -- so its moment comes before the run's end
  pub moment-within : (i v : ℕ) → i < k → v < g.graph.nodes → moment g p i v < suc (run_steps g p starts k) * g.graph.nodes
  unfolding moment
  moment-within i v h l =
      let w = step-within i v h l in
      omega (arith, rows-below (issue_step g p i v) (suc (run_steps g p starts k)) g.graph.nodes (omega arith))

  -- a repetition and a node tell the iteration
  pub rep-apart : (i j v : ℕ) → v < g.graph.nodes → rep_of g p i v ≡ rep_of g p j v → i ≡ j
  unfolding rep_of
  rep-apart i j v l e = omega (arith, under-depth g p v l)

  step-apart : (i j v : ℕ) → v < g.graph.nodes → issue_step g p i v ≡ issue_step g p j v → i ≡ j
  unfolding issue_step
  step-apart i j v l e =
      let x = b v l in
      rep-apart i j v l (rows_apart (rep_of g p i v) (rep_of g p j v) p.length (p.start v - 1) (p.start v - 1) (omega arith) (omega arith) (omega arith)).0

  -- no two share a moment
  pub moment-apart : (i j v w : ℕ) → v < g.graph.nodes → w < g.graph.nodes → moment g p i v ≡ moment g p j w → (i ≡ j) × (v ≡ w)
  unfolding moment
  moment-apart i j v w l m e =
      let a = rows_apart (issue_step g p i v) (issue_step g p j w) g.graph.nodes v w l m e in
      (step-apart i j v l (a.0 ∙ ap (issue_step g p j) (sym a.1)), a.1)
