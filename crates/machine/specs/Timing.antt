-- The edge rule in run steps: an edge's operand finishes in time; and what stands at a place that holds a unit.
-- Assumes nothing.
use Rattle.std.specs.Prelude.{◌≡◌, true, List}
use Rattle.std.proofs.Math.Path.{ap}
use Prim.Native.Nat.{ℕ, ◌+◌, ◌-◌, ◌*◌, ◌/◌, ◌%◌, ◌≤◌, ◌<◌}
use native.Mathlib.Omega.{arith}
use Rattle.std.proofs.Math.Nat.{add-mul, mul_comm}
use borrow.Author.Tests.{eqb-true, ltb-true, eq-eqb, lt-ltb}
use Rattle.lists.specs.Both.{and_both}
use Rattle.form.specs.Hold.{hold}
use Rattle.legal.specs.Loop.{Loop, Pair, ran_on, latency}
use Rattle.legal.specs.Legal.{EdgeRule}
use Rattle.legal.specs.Shape.{Sound}
use Rattle.machine.specs.Run.{depth}
use Rattle.machine.specs.Moments.{under-depth, rep_of, issue_step, moment}
use Rattle.machine.specs.Sofar.{holding}

-- what stands at a place: node v of iteration i, issued before moment n, runs on class c and holds its unit in run step t
pub record Holder (g : Loop) (p : Pair) (n c t i v : ℕ) : Type 0 where
  pub earlier : moment g p i v < n
  pub class : ran_on g v ≡ c
  pub to : t < issue_step g p i v + hold (g.class c)

module _ (g : Loop) (p : Pair) where
  module _ (starts : List ℕ) (k : ℕ) where
    pub holding-tells : (n c t at : ℕ) → holding g p starts k n c t at ≡ true → Holder g p n c t (at / g.graph.nodes) (at % g.graph.nodes)
    unfolding holding
    holding-tells n c t at e =
        let a = and_both _ _ e in
        let b = and_both _ _ a.1 in
        record { earlier = ltb-true _ _ a.0; class = eqb-true _ _ b.0; to = ltb-true _ _ b.1 }

    pub holder-holding : (n c t at : ℕ) → Holder g p n c t (at / g.graph.nodes) (at % g.graph.nodes) → holding g p starts k n c t at ≡ true
    unfolding holding
    holder-holding n c t at h = rw (lt-ltb _ _ h.earlier, eq-eqb _ _ h.class, lt-ltb _ _ h.to)

module _ (g : Loop) (p : Pair) (s : Sound g) where
  -- ---- the edge rule

  reps-balance : (e i : ℕ) → e < g.graph.edges → g.delay e ≤ i
      → rep_of g p (i - g.delay e) (g.graph.tail e) * p.length + p.length * (g.delay e + p.retiming (g.graph.tail e))
      ≡ rep_of g p i (g.graph.head e) * p.length + p.length * p.retiming (g.graph.head e)
  unfolding rep_of
  reps-balance e i l d =
      let u : ℕ = g.graph.tail e in
      let v : ℕ = g.graph.head e in
      let a : ℕ = i - g.delay e + depth g p - p.retiming u in
      let c : ℕ = i + depth g p - p.retiming v in
      let x = under-depth g p u (s.joined.tails e l) in
      let y = under-depth g p v (s.joined.heads e l) in
      let same : a + (g.delay e + p.retiming u) ≡ c + p.retiming v = omega arith in
      omega (
        arith,
        add-mul a (g.delay e + p.retiming u) p.length,
        add-mul c (p.retiming v) p.length,
        ap (λ (z : ℕ). z * p.length) same,
        mul_comm p.length (g.delay e + p.retiming u),
        mul_comm p.length (p.retiming v),
      )

  -- the operand of an edge that keeps the edge rule finishes in time
  pub rule-steps : (e i : ℕ) → e < g.graph.edges → g.delay e ≤ i → EdgeRule g p e
      → issue_step g p (i - g.delay e) (g.graph.tail e) + latency g (g.graph.tail e) ≤ issue_step g p i (g.graph.head e)
  unfolding issue_step
  rule-steps e i l d h = omega (arith, reps-balance e i l d)

  -- and of no other
  pub steps-rule : (e i : ℕ) → e < g.graph.edges → g.delay e ≤ i
      → issue_step g p (i - g.delay e) (g.graph.tail e) + latency g (g.graph.tail e) ≤ issue_step g p i (g.graph.head e)
      → EdgeRule g p e
  unfolding issue_step
  steps-rule e i l d h = omega (arith, reps-balance e i l d)
