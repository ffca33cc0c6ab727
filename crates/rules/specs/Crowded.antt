-- Steps that hold more of a class than its units: the lowest of them is one that a node of the class enters, by starting there or by running over the end into step 1; and the lowest is what the unit rule refuses.
-- Assumes nothing.
use Rattle.std.specs.Prelude.{◌≡◌, Bool, ◌&&◌, ◌≢◌, ◌⊎◌, leb, None, Some}
use Rattle.std.proofs.Math.Path.{refl, sym, ap}
use Rattle.std.proofs.Common.{◌∙◌, subst, mod-lt, mod-eq_of_lt, div-add-mod', suc-mul}
use Rattle.std.proofs.Math.Bool.{true, false, true≢false}
use Rattle.std.proofs.Math.Logic.{inl, inr, ⊎_elim}
use Prim.Native.Nat.{ℕ, zero, suc, ◌+◌, ◌-◌, ◌*◌, ◌/◌, ◌%◌, ◌≤◌, ◌<◌}
use native.Mathlib.Omega.{arith}
use Rattle.std.proofs.Math.Decide.{ℕ_discrete, dec_le}
use Rattle.std.proofs.Math.Dec.{eqb, ltb}
use borrow.Author.Tests.{eqb-true, eqb-false, eq-eqb, ne_eqb, ltb-true, ltb-false, lt-ltb, le-leb, lt-leb}
use Rattle.lists.specs.Both.{and_both, both-and}
use Rattle.lists.specs.Count.{some_or_none}
use Rattle.lists.specs.First.{first-is}
use Rattle.lists.specs.Pick.{pick, pick_true, pick-false}
use Rattle.lists.specs.Quotient.{divided}
use Rattle.lists.specs.Span.{span}
use Rattle.lists.specs.Fold.{sum_of}
use Rattle.lists.specs.Sums.{bit, sum-le, sum-zero}
use Rattle.answer.specs.declared.Refusal.TheVariants.{Units}
use Rattle.form.specs.Hold.{hold}
use Rattle.legal.specs.Loop.{Loop, Pair, ran_on}
use Rattle.legal.specs.Held.{lands, held, held_none, held_more, held_plain}
use Rattle.legal.specs.Legal.{busy}
use Rattle.legal.specs.Shape.{Starting}
use Rattle.legal.specs.Judging.{over, over_class, over_step, units_of}

module _ (L s : ℕ) (from : 1 ≤ s) (to : s ≤ L) where
  -- the next step of an operation falls on the next step of the body, or on step 1 after the last
  lands-next : (j : ℕ) → ((lands L s j < L) × (lands L s (suc j) ≡ lands L s j + 1)) ⊎ ((lands L s j ≡ L) × (lands L s (suc j) ≡ 1))
  lands-next j =
      let x : ℕ = s - 1 + j in
      let y : ℕ = s - 1 + suc j in
      let a : ℕ = x / L in
      let w : a * L + x % L ≡ x = div-add-mod' x L in
      let m : x % L < L = mod-lt x {m = L} (omega arith) in
      elim (ℕ_discrete (x % L + 1) L) [
        | yes e ↦ inr (omega arith, omega (arith, (divided (suc a) L 0 y (omega arith) (omega (arith, suc-mul a L))).1))
        | no e ↦ inl (omega arith, omega (arith, (divided a L (x % L + 1) y (omega arith) (omega arith)).1))
      ]

  same_bit : (a b c d : ℕ) → (a ≡ b → c ≡ d) → (c ≡ d → a ≡ b) → bit (eqb a b) ≡ bit (eqb c d)
  unfolding pick
  same_bit a b c d f g = go (eqb a b) refl (eqb c d) refl
    where
      go : (t : Bool) → eqb a b ≡ t → (u : Bool) → eqb c d ≡ u → bit t ≡ bit u
      go true e true f' = refl
      go false e false f' = refl
      go true e false f' = absurd (eqb-false c d f' (f (eqb-true a b e)))
      go false e true f' = absurd (eqb-false a b e (g (eqb-true c d f')))

  -- a later step of the body has what the one before it has, and what starts in it
  next-is : (q : ℕ) → 1 ≤ q → q < L → (h : ℕ) → held L s (suc h) (q + 1) ≡ bit (eqb s (q + 1)) + held L s h q
  next-is q one l zero =
      let first : lands L s 0 ≡ s = omega (arith, mod-eq_of_lt {n = s - 1 + 0} {m = L} (omega arith)) in
      omega (arith, held_more L s 0 (q + 1), held_none L s (q + 1), held_none L s q, ap (λ (x : ℕ). bit (eqb x (q + 1))) first)
  next-is q one l (suc h) =
      let on : bit (eqb (lands L s (suc h)) (q + 1)) ≡ bit (eqb (lands L s h) q) =
      ⊎_elim
      (λ t. same_bit (lands L s (suc h)) (q + 1) (lands L s h) q (λ e. omega arith) (λ e. omega arith))
      (λ t. same_bit (lands L s (suc h)) (q + 1) (lands L s h) q (λ e. omega arith) (λ e. omega arith))
      (lands-next h) in
      omega (arith, held_more L s (suc h) (q + 1), held_more L s h q, next-is q one l h)

  pub held_next : (q : ℕ) → 1 ≤ q → q < L → s ≢ q + 1 → (h : ℕ) → held L s h (q + 1) ≤ held L s h q
  unfolding pick
  held_next q one l ne h =
      omega (arith, held_more L s h (q + 1), next-is q one l h, ap {B = ℕ} (λ b. bit b) (ne_eqb s (q + 1) ne))

-- a sum that is not 0 has a term that is not
some-term : (f : ℕ → ℕ) (n : ℕ) → 0 < sum_of f (span 0 n) → (v : ℕ) × (v < n) × (0 < f v)
some-term f n h =
    ⊎_elim
    (λ t. (t.0, t.1, ltb-true 0 (f t.0) t.2))
    (λ none. absurd (omega (arith, sum-le f (λ v. 0) 0 n (λ v a l. ltb-false 0 (f v) (none v (omega arith))), sum-zero (span 0 n))))
    (some_or_none (λ v. ltb 0 (f v)) n)

module _ (g : Loop) (p : Pair) where
  -- node u starts in step q, or runs over the end into step 1
  abbrev pub Enters : ℕ → ℕ → Type 0
  Enters u q = (p.start u ≡ q) ⊎ ((q ≡ 1) × (p.length + 1 < p.start u + hold (g.class (ran_on g u))))

  -- a node below v enters step q, on class c
  abbrev pub Entered : ℕ → ℕ → ℕ → Type 0
  Entered v q c = (u : ℕ) × (u < v) × (ran_on g u ≡ c) × Enters u q

module _ (g : Loop) (p : Pair) (b : Starting g p) where
  -- what is held in step 1 starts there or runs over the end
  held-enters : (v : ℕ) → v < g.graph.nodes → 0 < held p.length (p.start v) (hold (g.class (ran_on g v))) 1 → Enters g p v 1
  unfolding pick
  held-enters v l h =
      let s = p.start v in
      let k = hold (g.class (ran_on g v)) in
      elim (ℕ_discrete s 1) [
        | yes e ↦ inl e
        | no e ↦ elim (dec_le (s + k) (p.length + 1)) [
          | yes m ↦ absurd (omega (arith, held_plain p.length s (b v l).0 k 1 m, ap {B = ℕ} (λ t. bit (t && ltb 1 (s + k))) (lt-leb s 1 (omega (arith, (b v l).0)))))
          | no m ↦ inr (refl, omega arith)
        ]
      ]

  pub first-entered : (c : ℕ) → over g p 1 c ≡ true → Entered g p g.graph.nodes 1 c
  unfolding over busy pick
  first-entered c full =
      let t = some-term (λ v. pick (eqb (ran_on g v) c) (held p.length (p.start v) (hold (g.class c)) 1) 0) g.graph.nodes (omega (arith, ltb-true (g.class c).units (busy g p c 1) full)) in
      go t.0 t.1 (eqb (ran_on g t.0) c) refl t.2
    where
      go : (v : ℕ) → v < g.graph.nodes → (t : Bool) → eqb (ran_on g v) c ≡ t → 0 < pick t (held p.length (p.start v) (hold (g.class c)) 1) 0 → Entered g p g.graph.nodes 1 c
      go v l true e h =
          let on = eqb-true (ran_on g v) c e in
          (v, l, on, held-enters v l (subst (λ (x : ℕ). 0 < held p.length (p.start v) (hold (g.class x)) 1) (sym on) h))
      go v l false e h = absurd (omega arith)

module _ (g : Loop) (p : Pair) (b : Starting g p) where
  -- where no node of the class starts in a later step, the step before it is as busy
  pub busy-next : (c q : ℕ) → 1 ≤ q → q < p.length → ((v : ℕ) → v < g.graph.nodes → ran_on g v ≡ c → p.start v ≢ q + 1) → busy g p c (q + 1) ≤ busy g p c q
  unfolding busy pick
  busy-next c q one l none =
      sum-le (λ v. pick (eqb (ran_on g v) c) (held p.length (p.start v) (hold (g.class c)) (q + 1)) 0) (λ v. pick (eqb (ran_on g v) c) (held p.length (p.start v) (hold (g.class c)) q) 0)
      0 g.graph.nodes (λ v a m. go v (omega arith) (eqb (ran_on g v) c) refl)
    where
      go : (v : ℕ) → v < g.graph.nodes → (t : Bool) → eqb (ran_on g v) c ≡ t
          → pick t (held p.length (p.start v) (hold (g.class c)) (q + 1)) 0 ≤ pick t (held p.length (p.start v) (hold (g.class c)) q) 0
      go v m true e =
          let x = b v m in
          held_next p.length (p.start v) x.0 x.1 q one l (none v m (eqb-true (ran_on g v) c e)) (hold (g.class c))
      go v m false e = omega arith

  -- a step that holds too much comes no earlier than step 1, if that does, or than the start of a node of the class, in a step that does
  pub record Start (c q : ℕ) : Type 0 where
    pub node : ℕ
    pub node_in : node < g.graph.nodes
    pub class : ran_on g node ≡ c
    pub by : p.start node ≤ q
    pub is_over : over g p (p.start node) c ≡ true

  starts_in : ℕ → ℕ → ℕ → Bool
  starts_in c q v = eqb (ran_on g v) c && eqb (p.start v) q

  full_start : (c q : ℕ) → 1 ≤ q → q ≤ p.length → (g.class c).units < busy g p c q → ((g.class c).units < busy g p c 1) ⊎ Start c q
  unfolding starts_in over
  full_start c zero one l h = absurd (omega arith)
  full_start c (suc zero) one l h = inl h
  full_start c (suc (suc q)) one l h =
      ⊎_elim
      (λ n.
      let b = and_both _ _ n.2 in
      let at : p.start n.0 ≡ suc (suc q) = eqb-true _ _ b.1 in
      inr (record { node = n.0; node_in = n.1; class = eqb-true _ _ b.0; by = omega arith; is_over = rw at (lt-ltb _ _ h) }))
      (λ n.
      let next : busy g p c (suc q + 1) ≤ busy g p c (suc q) =
      busy-next c (suc q) (omega arith) (omega arith) (λ v m k s. true≢false (sym (both-and _ _ (eq-eqb _ _ k) (eq-eqb (p.start v) (suc (suc q)) (omega arith))) ∙ n v m)) in
      let same : busy g p c (suc q + 1) ≡ busy g p c (suc (suc q)) = ap (busy g p c) (omega arith) in
      ⊎_elim
      (λ f. inl f)
      (λ s. inr (record { node = s.node; node_in = s.node_in; class = s.class; by = omega (arith, s.by); is_over = s.is_over }))
      (full_start c (suc q) (omega arith) (omega arith) (omega arith)))
      (some_or_none (starts_in c (suc (suc q))) g.graph.nodes)

  pub over-start : (c q : ℕ) → 1 ≤ q → q ≤ p.length → over g p q c ≡ true → (over g p 1 c ≡ true) ⊎ Start c q
  unfolding over
  over-start c q one l e = ⊎_elim (λ f. inl (lt-ltb _ _ f)) inr (full_start c q one l (ltb-true _ _ e))

-- ---- the lowest step, and in it the lowest class

module _ (g : Loop) (p : Pair) where
  -- step q of the body holds more of class c than its units
  pub record Over (q c : ℕ) : Type 0 where
    pub begins : 1 ≤ q
    pub ends : q ≤ p.length
    pub class : c < g.classes
    pub is_over : over g p q c ≡ true

  class-le : (q c : ℕ) → c < g.classes → over g p q c ≡ true → over_class g p q ≤ c
  unfolding over_class
  class-le q c l e =
      let t = first-is (over g p q) g.classes 0 in
      elim (dec_le (over_class g p q) c) [ yes h ↦ h | no h ↦ absurd (true≢false (sym e ∙ t.before c (omega arith) (omega arith))) ]

  step-le : (q c : ℕ) → Over q c → over_step g p ≤ q
  unfolding over_step
  step-le q c o =
      let t = first-is (λ k. ltb (over_class g p k) g.classes) p.length 1 in
      elim (dec_le (over_step g p) q) [
        | yes h ↦ h
        | no h ↦ absurd (omega (arith, class-le q c o.class o.is_over, ltb-false (over_class g p q) g.classes (t.before q o.begins (omega arith))))
      ]

  -- what the unit rule looks for, if it is there
  found : over_step g p ≤ p.length → Over (over_step g p) (over_class g p (over_step g p))
  unfolding over_step over_class
  found h =
      let t = first-is (λ k. ltb (over_class g p k) g.classes) p.length 1 in
      let k = first-is (over g p (over_step g p)) g.classes 0 in
      let l : over_class g p (over_step g p) < g.classes = ltb-true _ _ (t.passes (omega arith)) in
      record { begins = t.from; ends = h; class = l; is_over = k.passes (omega arith) }

  -- the lowest step with its lowest class is what the rule refuses
  pub units-lowest : (q c : ℕ) → Over q c → ((k d : ℕ) → Over k d → (q < k) ⊎ ((q ≡ k) × (c ≤ d))) → (Some (Units q c)) ≡ units_of g p
  unfolding units_of
  units-lowest q c o least =
      let s = step-le q c o in
      let in_body : over_step g p ≤ p.length = omega (arith, o.ends) in
      let e : q ≡ over_step g p = ⊎_elim (λ w. omega arith) (λ w. w.0) (least _ _ (found in_body)) in
      let e' : c ≡ over_class g p (over_step g p) = ⊎_elim (λ w. omega arith) (λ w. omega (arith, rw e at (class-le q c o.class o.is_over))) (least _ _ (found in_body)) in
      sym (pick_true (leb (over_step g p) p.length) (Some (Units (over_step g p) (over_class g p (over_step g p)))) None (le-leb _ _ in_body) ∙ rw (← e', ← e))

  -- and where there is none it refuses nothing
  pub units-none : ((q c : ℕ) → Over q c → ⊥) → None ≡ units_of g p
  unfolding units_of
  units-none no-over =
      elim (dec_le (over_step g p) p.length) [
        | yes h ↦ absurd (no-over _ _ (found h))
        | no h ↦ sym (pick-false (leb (over_step g p) p.length) (Some (Units (over_step g p) (over_class g p (over_step g p)))) None (lt-leb (over_step g p) p.length (omega arith)))
      ]
