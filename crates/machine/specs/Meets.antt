-- The refused half of demand 3, both kinds at once: where every node of every iteration found its operands finished and a unit free, and there are as many iterations as the depth and the bodies that an operation reaches into, all edges keep the edge rule and all steps the unit rule.
-- Assumes nothing.
use Rattle.std.specs.Prelude.{◌≡◌, ◌≢◌, List}
use Rattle.std.proofs.Math.Path.{refl, sym, ap, subst}
use Rattle.std.proofs.Common.{◌∙◌, subst₂, mul_comm, mul-add, mul-le-mul_left, eq-or-lt_of_le, div-lt_iff_lt-mul}
use Rattle.std.proofs.Math.Bool.{true}
use Rattle.std.proofs.Math.Logic.{⊎_elim}
use Prim.Native.Nat.{ℕ, ◌+◌, ◌-◌, ◌*◌, ◌/◌, ◌%◌, ◌≤◌, ◌<◌}
use native.Mathlib.Omega.{arith}
use Rattle.std.proofs.Math.Decide.{dec_lt, dec_le}
use Rattle.std.proofs.Math.Nat.{add-mul, div-add-mod'}
use Rattle.lists.specs.Pick.{both_ways}
use Rattle.lists.specs.Count.{count-some}
use Rattle.lists.specs.Last.{Last, last-or-none}
use Rattle.lists.specs.Quotient.{divided, rows-below, rows_apart, row_of}
use Rattle.lists.specs.Inject.{without, without_other, without-same, count-without, count-inject}
use Rattle.form.specs.Hold.{hold}
use Rattle.legal.specs.Loop.{Loop, Pair, ran_on, latency}
use Rattle.legal.specs.Shape.{Sound, WithinBodies}
use Rattle.legal.specs.Limits.{EdgeRules}
use Rattle.machine.specs.Run.{depth}
use Rattle.machine.specs.Moments.{under-depth, rep_of, issue_step, moment}
use Rattle.machine.specs.Sofar.{holding, holders, Ready, Roomy}
use Rattle.machine.specs.Timing.{Holder, holder-holding, steps-rule}
use Rattle.legal.specs.Legal.{busy}
use Rattle.legal.specs.Busy.{hold-short, occupies, Occupant, occupies-tells, busy-table}

module _ (g : Loop) (p : Pair) (s : Sound g) (r : ℕ) (b : WithinBodies g p r) (starts : List ℕ) (k : ℕ) (deep : depth g p + r ≤ k) where
  -- ---- the edge rule

  -- every edge keeps the edge rule: by the run where its delay is below the number of iterations, else by the reach alone
  pub ready-edges : ((i v : ℕ) → i < k → v < g.graph.nodes → Ready g p starts k i v) → EdgeRules g p
  ready-edges ready e l =
      let L : ℕ = p.length in
      let u : ℕ = g.graph.tail e in
      let v : ℕ = g.graph.head e in
      let d : ℕ = g.delay e in
      let m = s.joined.heads e l in
      elim (dec_lt d k) [
        | yes h ↦ steps-rule g p s e d l (omega arith) (ready d v h m e l refl (omega arith))
        | no h ↦
            omega (
              arith,
              b.starts v m,
              b.ends u (s.joined.tails e l),
              mul-le-mul_left {m = p.retiming v + r} {n = d + p.retiming u} L (omega (arith, under-depth g p v m)),
              mul-add L (p.retiming v) r,
              mul_comm L r,
            )
      ]

  -- ---- the unit rule

  -- the iteration of an occupant's issue, so that all occupants of a step meet in the same repetition: the one numbered depth and reach less 1
  meet : ℕ → ℕ → ℕ
  meet j v = r - 1 - (p.start v - 1 + j) / p.length + p.retiming v

  module _ (q c : ℕ) (one : 1 ≤ q) (in_body : q ≤ p.length) where
    -- what an occupant tells
    record Met (j v : ℕ) : Type 0 where
      pub iteration : meet j v < k
      pub step : issue_step g p (meet j v) v + j ≡ (depth g p + r - 1) * p.length + q

    met : (j v : ℕ) → v < g.graph.nodes → j < hold (g.class c) → Occupant g p c q j v → Met j v
    unfolding issue_step rep_of meet
    met j v l short o =
        let L : ℕ = p.length in
        let D : ℕ = depth g p in
        let x = b.starts v l in
        let u = under-depth g p v l in
        let h : hold (g.class c) ≤ latency g v = subst (λ (y : ℕ). hold (g.class y) ≤ latency g v) o.class (hold-short (g.class (ran_on g v)) (s.works v l)) in
        let a : ℕ = (p.start v - 1 + j) / L in
        let below : a < r = (div-lt_iff_lt-mul {k = L} {x = p.start v - 1 + j} {y = r} (omega arith)).1 (omega (arith, b.ends v l)) in
        let rep : r - 1 - a + p.retiming v + D - p.retiming v ≡ D + r - 1 - a = omega arith in
        record {
          iteration = omega arith;
          step = rw rep (omega (arith, o.step, div-add-mod' (p.start v - 1 + j) L, add-mul (D + r - 1 - a) a L, ap (λ (y : ℕ). y * L) (the_sum a below)));
        }
      where
        the_sum : (a : ℕ) → a < r → depth g p + r - 1 - a + a ≡ depth g p + r - 1
        the_sum a h = omega arith

    rank : ℕ → ℕ
    rank x = moment g p (meet (x / g.graph.nodes) (x % g.graph.nodes)) (x % g.graph.nodes)

    place : ℕ → ℕ
    place x = meet (x / g.graph.nodes) (x % g.graph.nodes) * g.graph.nodes + x % g.graph.nodes

    -- an entry of the table
    record Entry (x : ℕ) : Type 0 where
      pub node : x % g.graph.nodes < g.graph.nodes
      pub short : x / g.graph.nodes < hold (g.class c)
      pub whole : x / g.graph.nodes * g.graph.nodes + x % g.graph.nodes ≡ x
      pub occupant : Occupant g p c q (x / g.graph.nodes) (x % g.graph.nodes)
      pub met : Met (x / g.graph.nodes) (x % g.graph.nodes)

    entry : (x : ℕ) → x < hold (g.class c) * g.graph.nodes → occupies g p c q x ≡ true → Entry x
    entry x l t =
        let z = row_of x (hold (g.class c)) g.graph.nodes l s.some in
        let o = occupies-tells g p c q x t in
        record { node = z.1; short = z.0; whole = z.2; occupant = o; met = met (x / g.graph.nodes) (x % g.graph.nodes) z.1 z.0 o }

    -- one node in one run step is one entry
    entries-apart : (x y : ℕ) → Entry x → Entry y → x % g.graph.nodes ≡ y % g.graph.nodes
        → issue_step g p (meet (x / g.graph.nodes) (x % g.graph.nodes)) (x % g.graph.nodes) ≡ issue_step g p (meet (y / g.graph.nodes) (y % g.graph.nodes)) (y % g.graph.nodes)
        → x ≡ y
    entries-apart x y e f same steps =
        let N : ℕ = g.graph.nodes in
        let rows : x / N ≡ y / N = omega (arith, e.met.step, f.met.step) in
        omega (arith, e.whole, f.whole, same, ap (λ (z : ℕ). z * N) rows)

    -- the occupants of a step, but the last to be issued, hold their units when that one is issued
    module _ (last : Last (occupies g p c q) rank (hold (g.class c) * g.graph.nodes)) where
      holder : (x : ℕ) → x < hold (g.class c) * g.graph.nodes → without (occupies g p c q) last.number x ≡ true
          → Entry x × Holder g p (rank last.number) c (issue_step g p (meet (last.number / g.graph.nodes) (last.number % g.graph.nodes)) (last.number % g.graph.nodes))
          (meet (x / g.graph.nodes) (x % g.graph.nodes)) (x % g.graph.nodes)
      unfolding rank moment
      holder x l t =
          let N : ℕ = g.graph.nodes in
          let w : ℕ = last.number in
          let other : x ≢ w = λ e. both_ways (ap (without (occupies g p c q) w) (sym e) ∙ t) (without-same (occupies g p c q) w) in
          let mine : occupies g p c q x ≡ true = sym (without_other (occupies g p c q) w x other) ∙ t in
          let a = entry x l mine in
          let z = entry w last.number_in last.passes in (
            a,
            record {
              earlier = ⊎_elim
                  (λ e. let m = rows_apart _ _ N (x % N) (w % N) a.node z.node e in absurd (other (entries-apart x w a z m.1 m.0)))
                  (λ e. e)
                  (eq-or-lt_of_le (last.largest x l mine));
              class = a.occupant.class;
              to = omega (arith, a.met.step, z.met.step, a.short);
            },
          )

      into : (x : ℕ) → x < hold (g.class c) * g.graph.nodes → without (occupies g p c q) last.number x ≡ true
          → (place x < k * g.graph.nodes)
          × (holding g p starts k (rank last.number) c (issue_step g p (meet (last.number / g.graph.nodes) (last.number % g.graph.nodes)) (last.number % g.graph.nodes)) (place x) ≡ true)
      unfolding place
      into x l t =
          let N : ℕ = g.graph.nodes in
          let i : ℕ = meet (x / N) (x % N) in
          let h = holder x l t in
          let d = divided i N (x % N) (i * N + x % N) h.0.node refl in (
            omega (arith, h.0.node, rows-below i k N h.0.met.iteration),
            holder-holding g p starts k _ c _ (i * N + x % N) (subst₂ (Holder g p (rank last.number) c _) (sym d.0) (sym d.1) h.1),
          )

      apart : (x y : ℕ) → x < hold (g.class c) * g.graph.nodes → y < hold (g.class c) * g.graph.nodes
          → without (occupies g p c q) last.number x ≡ true → without (occupies g p c q) last.number y ≡ true → place x ≡ place y → x ≡ y
      unfolding place
      apart x y a z e f h =
          let N : ℕ = g.graph.nodes in
          let ex = (holder x a e).0 in
          let ey = (holder y z f).0 in
          let m = rows_apart (meet (x / N) (x % N)) (meet (y / N) (y % N)) N (x % N) (y % N) ex.node ey.node h in
          entries-apart x y ex ey m.1 (ap (λ (i : ℕ). issue_step g p i (x % N)) m.0 ∙ ap (issue_step g p (meet (y / N) (y % N))) m.1)

      last_fits : ((i v : ℕ) → i < k → v < g.graph.nodes → Roomy g p starts k i v) → busy g p c q ≤ (g.class c).units
      unfolding holders rank
      last_fits roomy =
          let N : ℕ = g.graph.nodes in
          let w : ℕ = last.number in
          let z = entry w last.number_in last.passes in
          let i : ℕ = meet (w / N) (w % N) in
          let free : holders g p starts k (moment g p i (w % N)) c (issue_step g p i (w % N)) < (g.class c).units =
          subst (λ (x : ℕ). holders g p starts k (moment g p i (w % N)) x (issue_step g p i (w % N)) < (g.class x).units) z.occupant.class
          (roomy i (w % N) z.met.iteration z.node) in
          omega (
            arith,
            busy-table g p c q,
            count-without (occupies g p c q) (hold (g.class c) * N) w last.number_in last.passes,
            count-inject (without (occupies g p c q) w) (holding g p starts k (moment g p i (w % N)) c (issue_step g p i (w % N))) (hold (g.class c) * N) (k * N) place into apart,
          )

  -- no step holds more of any class than its units
  pub roomy-units : ((i v : ℕ) → i < k → v < g.graph.nodes → Roomy g p starts k i v) → (q c : ℕ) → 1 ≤ q → q ≤ p.length → busy g p c q ≤ (g.class c).units
  roomy-units roomy q c one in_body =
      ⊎_elim
      (λ t. last_fits q c one in_body t roomy)
      (λ none. elim (dec_le (busy g p c q) (g.class c).units) [
        | yes h ↦ h
        | no h ↦ let x = count-some (occupies g p c q) (hold (g.class c) * g.graph.nodes) (omega (arith, busy-table g p c q)) in both_ways x.2 (none x.0 x.1)
      ])
      (last-or-none (occupies g p c q) (rank q c one in_body) (hold (g.class c) * g.graph.nodes))
