-- What the rules refuse of a pair: the lowest edge that breaks the edge rule, else the lowest step, and of it the lowest class, that breaks the unit rule.
-- Assumes nothing.
use Rattle.std.specs.Prelude.{◌≡◌, Bool, true, false, ℕ, ◌+◌, ◌≤◌, ◌<◌, leb, ltb, None, Some}
use Rattle.std.proofs.Common.{◌∙◌, lt_of_not-le}
use Rattle.std.proofs.Math.Path.{ap}
use native.Mathlib.Omega.{arith}
use Rattle.std.proofs.Math.Nat.{not-le_of_lt}
use borrow.Author.Tests.{ltb-true, ltb-false, leb-true, leb-false, lt-ltb, le-ltb, le-leb, lt-leb}
use Rattle.lists.specs.Pick.{pick_ind, pick_true, pick-false}
use Rattle.lists.specs.First.{First, first-is, first-only, first_past}
use Rattle.answer.specs.Refused.{Verdict}
use Rattle.answer.specs.declared.Refusal.TheVariants.{Dependence, Units}
use Rattle.legal.specs.Loop.{Loop, Pair}
use Rattle.legal.specs.Legal.{EdgeRule, UnitRule, busy}
use Rattle.legal.specs.Limits.{EdgeRules}
use Rattle.legal.specs.Judging.{breaks, broken_edge, over, over_class, over_step, units_of, rules_of}

module _ (g : Loop) (p : Pair) where
  -- edge e breaks the edge rule, and no lower edge does
  pub record LowestEdge (e : ℕ) : Type 0 where
    pub edge : e < g.graph.edges
    pub broken : EdgeRule g p e → ⊥
    pub below : (d : ℕ) → d < e → EdgeRule g p d

  -- step q holds more of class c than its units, of no lower class, and no lower step does of any
  pub record LowestOver (q c : ℕ) : Type 0 where
    pub begins : 1 ≤ q
    pub ends : q ≤ p.length
    pub class : c < g.classes
    pub full : (g.class c).units < busy g p c q
    pub below : (d : ℕ) → d < c → busy g p d q ≤ (g.class d).units
    pub before : (k d : ℕ) → 1 ≤ k → k < q → d < g.classes → busy g p d k ≤ (g.class d).units

  -- the refusals of the rules, and when each is made
  pub data Ruled : Verdict → Type 0 where
    dependence : (e : ℕ) → LowestEdge e → Ruled (Some (Dependence e))
    units : EdgeRules g p → (q c : ℕ) → LowestOver q c → Ruled (Some (Units q c))
    kept : EdgeRules g p → UnitRule g p → Ruled None

  -- ---- the edge rule

  breaks-true : (e : ℕ) → breaks g p e ≡ true → EdgeRule g p e → ⊥
  unfolding breaks
  breaks-true e q h = not-le_of_lt (ltb-true _ _ q) h

  breaks-false : (e : ℕ) → breaks g p e ≡ false → EdgeRule g p e
  unfolding breaks
  breaks-false e q = ltb-false _ _ q

  broken-breaks : (e : ℕ) → (EdgeRule g p e → ⊥) → breaks g p e ≡ true
  unfolding breaks
  broken-breaks e h = lt-ltb _ _ (lt_of_not-le h)

  kept-breaks : (e : ℕ) → EdgeRule g p e → breaks g p e ≡ false
  unfolding breaks
  kept-breaks e h = le-ltb _ _ h

  -- an edge found broken is the lowest
  pub broken-lowest : broken_edge g p < g.graph.edges → LowestEdge (broken_edge g p)
  unfolding broken_edge
  broken-lowest l =
      let f = first-is (breaks g p) g.graph.edges 0 in
      record {
        edge = l;
        broken = breaks-true _ (f.passes (omega arith));
        below = λ d m. breaks-false d (f.before d (omega arith) m);
      }

  -- where none is found all edges keep the rule
  pub broken-none : g.graph.edges ≤ broken_edge g p → EdgeRules g p
  unfolding broken_edge
  broken-none n e l = breaks-false e ((first-is (breaks g p) g.graph.edges 0).before e (omega arith) (omega arith))

  -- the lowest is found
  pub lowest-broken : (e : ℕ) → LowestEdge e → broken_edge g p ≡ e
  unfolding broken_edge
  lowest-broken e t =
      first-only (breaks g p) g.graph.edges 0 e (omega arith) (omega (arith, t.edge)) (broken-breaks e t.broken) (λ d _ m. kept-breaks d (t.below d m))

  -- where all keep the rule none is found
  pub kept-broken : EdgeRules g p → broken_edge g p ≡ g.graph.edges
  unfolding broken_edge
  kept-broken h = first_past (breaks g p) g.graph.edges 0 (λ e _ l. kept-breaks e (h e (omega arith))) ∙ omega arith

  -- ---- the unit rule

  over-true : (q c : ℕ) → over g p q c ≡ true → (g.class c).units < busy g p c q
  unfolding over
  over-true q c t = ltb-true _ _ t

  over_false : (q c : ℕ) → over g p q c ≡ false → busy g p c q ≤ (g.class c).units
  unfolding over
  over_false q c t = ltb-false _ _ t

  full-over : (q c : ℕ) → (g.class c).units < busy g p c q → over g p q c ≡ true
  unfolding over
  full-over q c h = lt-ltb _ _ h

  fits-over : (q c : ℕ) → busy g p c q ≤ (g.class c).units → over g p q c ≡ false
  unfolding over
  fits-over q c h = le-ltb _ _ h

  -- some class of step q is over its units
  crowded : ℕ → Bool
  crowded q = ltb (over_class g p q) g.classes

  crowded-false : (q : ℕ) → crowded q ≡ false → (c : ℕ) → c < g.classes → busy g p c q ≤ (g.class c).units
  unfolding crowded over_class
  crowded-false q t c l =
      let past = ltb-false (over_class g p q) g.classes t in
      over_false q c ((first-is (over g p q) g.classes 0).before c (omega arith) (omega arith))

  fits-crowded : (q : ℕ) → ((c : ℕ) → c < g.classes → busy g p c q ≤ (g.class c).units) → crowded q ≡ false
  unfolding crowded over_class
  fits-crowded q h =
      le-ltb (over_class g p q) g.classes (omega (arith, first_past (over g p q) g.classes 0 (λ c _ l. fits-over q c (h c (omega arith)))))

  over_step-first : First crowded p.length 1 (over_step g p)
  unfolding over_step crowded
  over_step-first = first-is crowded p.length 1

  -- a step and class found over the units are the lowest
  pub over-lowest : over_step g p ≤ p.length → LowestOver (over_step g p) (over_class g p (over_step g p))
  unfolding crowded over_class
  over-lowest l =
      let f = over_step-first in
      let some = ltb-true (over_class g p (over_step g p)) g.classes (f.passes (omega arith)) in
      let k = first-is (over g p (over_step g p)) g.classes 0 in
      record {
        begins = f.from;
        ends = l;
        class = some;
        full = over-true _ _ (k.passes (omega arith));
        below = λ d m. over_false _ d (k.before d (omega arith) m);
        before = λ j d one m n. crowded-false j (f.before j one m) d n;
      }

  -- where none is found all steps keep the rule
  pub over_none : p.length < over_step g p → UnitRule g p
  over_none n q c one l m = crowded-false q (over_step-first.before q one (omega arith)) c m

  -- the lowest are found
  pub lowest-over : (q c : ℕ) → LowestOver q c → (over_step g p ≡ q) × (over_class g p q ≡ c)
  unfolding over_step over_class crowded
  lowest-over q c t =
      let k : over_class g p q ≡ c = first-only (over g p q) g.classes 0 c (omega arith) (omega (arith, t.class)) (full-over q c t.full) (λ d _ m. fits-over q d (t.below d m)) in (
        first-only crowded p.length 1 q t.begins (omega (arith, t.ends)) (lt-ltb (over_class g p q) g.classes (omega (arith, t.class)))
            (λ j one m. fits-crowded j (λ d n. t.before j d one m n)),
        k,
      )

  -- where all keep the rule none is found
  pub kept-over : UnitRule g p → over_step g p ≡ 1 + p.length
  unfolding over_step crowded
  kept-over h = first_past crowded p.length 1 (λ q one l. fits-crowded q (λ c m. h q c one (omega arith) m))

  -- ---- both

  units-told : EdgeRules g p → Ruled (units_of g p)
  unfolding units_of
  units-told h =
      pick_ind Ruled (leb (over_step g p) p.length) (Some (Units (over_step g p) (over_class g p (over_step g p)))) None
      (λ t. units h _ _ (over-lowest (leb-true _ _ t)))
      (λ t. kept h (over_none (leb-false _ _ t)))

  -- what the rules answer is so
  pub ruled : Ruled (rules_of g p)
  unfolding rules_of
  ruled =
      pick_ind Ruled (ltb (broken_edge g p) g.graph.edges) (Some (Dependence (broken_edge g p))) (units_of g p)
      (λ t. dependence _ (broken-lowest (ltb-true _ _ t)))
      (λ t. units-told (broken-none (ltb-false _ _ t)))

  rules-units : EdgeRules g p → rules_of g p ≡ units_of g p
  unfolding rules_of
  rules-units h =
      pick-false (ltb (broken_edge g p) g.graph.edges) (Some (Dependence (broken_edge g p))) (units_of g p)
      (le-ltb (broken_edge g p) g.graph.edges (omega (arith, kept-broken h)))

  -- and what is so they answer
  pub ruled-is : (r : Verdict) → Ruled r → rules_of g p ≡ r
  unfolding rules_of units_of
  ruled-is r (dependence e t) =
      let is : broken_edge g p ≡ e = lowest-broken e t in
      pick_true (ltb (broken_edge g p) g.graph.edges) (Some (Dependence (broken_edge g p))) (units_of g p)
      (lt-ltb (broken_edge g p) g.graph.edges (omega (arith, t.edge)))
      ∙ ap (λ (x0 : ℕ). Some (Dependence x0)) is
  ruled-is r (units h q c t) =
      let is = lowest-over q c t in
      rules-units h
      ∙ pick_true (leb (over_step g p) p.length) (Some (Units (over_step g p) (over_class g p (over_step g p)))) None
      (le-leb (over_step g p) p.length (omega (arith, t.ends, is.0)))
      ∙ ap (λ (k : ℕ). (Some (Units k (over_class g p k)))) is.0
      ∙ ap (λ (x0 : ℕ). Some (Units q x0)) is.1
  ruled-is r (kept h u) =
      rules-units h
      ∙ pick-false (leb (over_step g p) p.length) (Some (Units (over_step g p) (over_class g p (over_step g p)))) None
      (lt-leb (over_step g p) p.length (omega (arith, kept-over u)))
