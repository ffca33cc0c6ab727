-- What a machine that goes holds at a moment of its run: what comes before is issued, the rest is clear.
-- Assumes nothing.
use Rattle.std.specs.Prelude.{◌≡◌, Bool, ◌&&◌, ◌||◌, not, ◌≢◌, List, length}
use Rattle.std.proofs.Math.Path.{refl, sym, ap}
use Rattle.std.proofs.Common.{◌∙◌}
use Rattle.std.proofs.Math.Bool.{true, false}
use Prim.Native.Nat.{ℕ, ◌+◌, ◌-◌, ◌*◌, ◌/◌, ◌%◌, ◌≤◌, ◌<◌}
use native.Mathlib.Omega.{arith}
use Rattle.std.proofs.Math.Decide.{dec_lt}
use Rattle.std.proofs.Math.Nat.{add-sub_cancel}
use borrow.Author.Tests.{eqb-true, eqb-false, ltb-false, eq-eqb, ne_eqb, lt-ltb, le-ltb}
use Rattle.std.proofs.Math.Dec.{eqb, ltb}
use Rattle.std.proofs.Math.ListN.{get_or}
use Rattle.lists.specs.Both.{or-fails}
use Rattle.lists.specs.Span.{span}
use Rattle.lists.specs.Fold.{count}
use Rattle.lists.specs.First.{first-is, first_past}
use Rattle.lists.specs.Count.{count_same}
use Rattle.lists.specs.Quotient.{row_of, rows-below}
use Rattle.form.specs.Hold.{hold}
use Rattle.legal.specs.Loop.{Loop, Pair, ran_on, latency}
use Rattle.legal.specs.Shape.{Sound}
use Rattle.machine.specs.Values.{place_of, computed}
use Rattle.machine.specs.Run.{Machine, iteration, late, late_edge, holds, held_now}
use Rattle.machine.specs.Moments.{issue_step, moment}

module _ (g : Loop) (p : Pair) (starts : List ℕ) (k : ℕ) where
  -- what stands at a place was issued before moment n and holds a unit of class c in run step t
  unfoldable pub holding : ℕ → ℕ → ℕ → ℕ → Bool
  holding n c t at =
      ltb (moment g p (at / g.graph.nodes) (at % g.graph.nodes)) n
      && (eqb (ran_on g (at % g.graph.nodes)) c && ltb t (issue_step g p (at / g.graph.nodes) (at % g.graph.nodes) + hold (g.class c)))

  unfoldable pub holders : ℕ → ℕ → ℕ → ℕ
  holders n c t = count (holding n c t) (span 0 (k * g.graph.nodes))

  -- the operands of node v in iteration i are finished when it is issued
  abbrev pub Ready : ℕ → ℕ → Type 0
  Ready i v =
      (e : ℕ) → e < g.graph.edges → g.graph.head e ≡ v → g.delay e ≤ i
      → issue_step g p (i - g.delay e) (g.graph.tail e) + latency g (g.graph.tail e) ≤ issue_step g p i v

  -- and a unit of its class is free
  abbrev pub Roomy : ℕ → ℕ → Type 0
  Roomy i v = holders (moment g p i v) (ran_on g v) (issue_step g p i v) < (g.class (ran_on g v)).units

  -- node v of iteration i was issued in its run step, with its operands there and a unit
  pub record Issued (m : Machine) (i v : ℕ) : Type 0 where
    pub finish-is : get_or m.finish (place_of g starts i v) 0 ≡ issue_step g p i v + latency g v
    pub value_is : get_or m.values (place_of g starts i v) 0 ≡ computed g starts m.values i v
    pub ready : Ready i v
    pub roomy : Roomy i v

  -- it was not issued
  pub record Unissued (m : Machine) (i v : ℕ) : Type 0 where
    pub no_finish : get_or m.finish (place_of g starts i v) 0 ≡ 0
    pub no_value : get_or m.values (place_of g starts i v) 0 ≡ 0

  -- at moment n of a run from the machine m₀: places past the run are as they were
  pub record Sofar (m₀ : Machine) (n : ℕ) (m : Machine) : Type 0 where
    pub values_length : length m.values ≡ length m₀.values
    pub finish_length : length m.finish ≡ length m₀.finish
    pub done : (i v : ℕ) → i < k → v < g.graph.nodes → moment g p i v < n → Issued m i v
    pub undone : (i v : ℕ) → i < k → v < g.graph.nodes → n ≤ moment g p i v → Unissued m i v
    pub rest_values : (x : ℕ) → k * g.graph.nodes ≤ x → get_or m.values x 0 ≡ get_or m₀.values x 0
    pub rest_finish : (x : ℕ) → k * g.graph.nodes ≤ x → get_or m.finish x 0 ≡ get_or m₀.finish x 0

-- an earlier step is an earlier moment
pub step-before : (g : Loop) (p : Pair) (i j u v : ℕ) → u < g.graph.nodes → issue_step g p i u < issue_step g p j v → moment g p i u < moment g p j v
unfolding moment
step-before g p i j u v l h = omega (arith, rows-below (issue_step g p i u) (issue_step g p j v) g.graph.nodes h)

module _ (g : Loop) (p : Pair) (s : Sound g) (starts : List ℕ) (k : ℕ) (m₀ : Machine) (n : ℕ) (m : Machine) (f : Sofar g p starts k m₀ n m) where
  holds-is : (c t at : ℕ) → at < k * g.graph.nodes → holds g p starts k m.finish c t at ≡ holding g p starts k n c t at
  unfolding holds holding
  holds-is c t at l =
      let i : ℕ = at / g.graph.nodes in
      let v : ℕ = at % g.graph.nodes in
      let r = row_of at k g.graph.nodes l s.some in
      let here : get_or m.finish (place_of g starts i v) 0 ≡ get_or m.finish at 0 = ap (λ (x : ℕ). get_or m.finish x 0) r.2 in
      elim (dec_lt (moment g p i v) n) [
        | yes h ↦
            let e : get_or m.finish at 0 ≡ issue_step g p i v + latency g v = sym here ∙ (f.done i v r.0 r.1 h).finish-is in
            rw (e, lt-ltb (moment g p i v) n h, add-sub_cancel, lt-ltb 0 (issue_step g p i v + latency g v) (omega (arith, s.works v r.1)))
        | no h ↦
            let e : get_or m.finish at 0 ≡ 0 = sym here ∙ (f.undone i v r.0 r.1 (omega arith)).no_finish in
            rw (e, le-ltb (moment g p i v) n (omega arith))
      ]

  -- the earlier issues that hold a unit are known by their moments and steps
  pub held-is : (c t : ℕ) → held_now g p starts k m.finish c t ≡ holders g p starts k n c t
  unfolding held_now holders
  held-is c t = count_same (holds g p starts k m.finish c t) (holding g p starts k n c t) (k * g.graph.nodes) (holds-is c t)

  -- edge e is late unless its value finished by then
  finish-late : (t v e i : ℕ) → iteration g p starts k t v ≡ i → g.graph.head e ≡ v → g.delay e ≤ i → late g p starts k m.finish t v e ≡ false
      → (get_or m.finish (place_of g starts (i - g.delay e) (g.graph.tail e)) 0 ≢ 0)
      × (get_or m.finish (place_of g starts (i - g.delay e) (g.graph.tail e)) 0 ≤ t)
  unfolding late
  finish-late t v e i is q d h =
      let x = or-fails _ _ (rw (is, eq-eqb _ _ q, le-ltb _ _ d) at h) in
      (eqb-false _ _ x.0, ltb-false _ _ x.1)

  -- and it is not where it did
  late-not : (t v e i : ℕ) → iteration g p starts k t v ≡ i
      → (g.graph.head e ≡ v → g.delay e ≤ i
      → (get_or m.finish (place_of g starts (i - g.delay e) (g.graph.tail e)) 0 ≢ 0)
      × (get_or m.finish (place_of g starts (i - g.delay e) (g.graph.tail e)) 0 ≤ t))
      → late g p starts k m.finish t v e ≡ false
  unfolding late
  late-not t v e i is h = rw is (go (eqb (g.graph.head e) v) refl (ltb i (g.delay e)) refl)
    where
      go : (b : Bool) → eqb (g.graph.head e) v ≡ b → (c : Bool) → ltb i (g.delay e) ≡ c
          → b && (not c && (eqb (get_or m.finish (place_of g starts (i - g.delay e) (g.graph.tail e)) 0) 0
          || ltb t (get_or m.finish (place_of g starts (i - g.delay e) (g.graph.tail e)) 0))) ≡ false
      go false q c r = refl
      go true q true r = refl
      go true q false r =
          let x = h (eqb-true _ _ q) (ltb-false _ _ r) in
          rw (ne_eqb _ _ x.0, le-ltb _ _ x.1)

  module _ (t v i : ℕ) (one : i < k) (l : v < g.graph.nodes) (is : iteration g p starts k t v ≡ i) (step : issue_step g p i v ≡ t) (now : moment g p i v ≡ n) where
    -- where no edge is late the operands are ready
    pub timely-ready : g.graph.edges ≤ late_edge g p starts k m.finish t v → Ready g p starts k i v
    unfolding late_edge
    timely-ready h e a q d =
        let u : ℕ = g.graph.tail e in
        let j : ℕ = i - g.delay e in
        let x = finish-late t v e i is q d ((first-is (late g p starts k m.finish t v) g.graph.edges 0).before e (omega arith) (omega arith)) in
        elim (dec_lt (moment g p j u) n) [
          | yes z ↦ omega (arith, x.1, (f.done j u (omega arith) (s.joined.tails e a) z).finish-is)
          | no z ↦ absurd (x.0 (f.undone j u (omega arith) (s.joined.tails e a) (omega arith)).no_finish)
        ]

    -- where the operands are ready no edge is late
    pub ready-timely : Ready g p starts k i v → g.graph.edges ≤ late_edge g p starts k m.finish t v
    unfolding late_edge
    ready-timely h = omega (arith, first_past (late g p starts k m.finish t v) g.graph.edges 0 (λ e a c. fails e (omega arith)))
      where
        fails : (e : ℕ) → e < g.graph.edges → late g p starts k m.finish t v e ≡ false
        fails e a =
            late-not t v e i is (λ q d.
            let u : ℕ = g.graph.tail e in
            let j : ℕ = i - g.delay e in
            let works = s.works u (s.joined.tails e a) in
            let r : issue_step g p j u + latency g u ≤ issue_step g p i v = h e a q d in
            let earlier : moment g p j u < moment g p i v = step-before g p j i u v (s.joined.tails e a) (omega arith) in
            let x = (f.done j u (omega arith) (s.joined.tails e a) (omega arith)).finish-is in
            (λ z. omega arith, omega arith))
