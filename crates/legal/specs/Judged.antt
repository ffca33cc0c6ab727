-- What the judge answers of a well-formed form: Bare, Knot, Dependence with the lowest edge, Units with the lowest step and then class, or that the pair is legal.
-- Assumes nothing.
use Rattle.std.specs.Prelude.{◌≡◌, refl, true, ◌≢◌, List, ℕ, eqb, None, Some}
use Rattle.std.proofs.Common.{◌∙◌, subst, eqb-true, eq-eqb, ne_eqb}
use Rattle.std.proofs.lemmas.Bool.{eqb-false}
use Rattle.lists.specs.Pick.{pick, pick_ind, pick_true, pick-false, both_ways}
use Rattle.answer.specs.Refused.{Verdict, fine}
use Rattle.answer.specs.declared.Refusal.TheVariants.{Bare, Knot as Knotted, Dependence, Units}
use Rattle.form.specs.declared.Form.{Form}
use Rattle.form.specs.Ranges.{WellFormed}
use Rattle.legal.specs.Loop.{Loop, Pair, loop_of, pair_of}
use Rattle.legal.specs.Legal.{UnitRule, Legal, Knot}
use Rattle.legal.specs.Systems.{knotted}
use Rattle.legal.specs.Judging.{rules_of, judge_of}
use Rattle.legal.specs.Shape.{Placed, sound-form, placed-form}
use Rattle.legal.specs.Limits.{EdgeRules}
use Rattle.legal.specs.Knots.{Free, knot-knotted, knotted-knot, free-unknotted, unknotted-free}
use Rattle.legal.specs.Paced.{legal-free}
use Rattle.legal.specs.Ruled.{LowestEdge, LowestOver, Ruled, dependence, units, kept, ruled, ruled-is}

-- the refusals of the judge, and when each is made
pub data Judged (g : Loop) (p : Pair) : Verdict → Type 0 where
  bare : p.length ≡ 0 → Judged g p (Some Bare)
  knot : p.length ≢ 0 → (es : List ℕ) → Knot g es → Judged g p (Some Knotted)
  rules : (r : Verdict) → p.length ≢ 0 → Free g → Ruled g p r → Judged g p r

module _ (g : Loop) (p : Pair) where
  told-bare : Judged g p (Some Bare) → p.length ≡ 0
  told-bare (bare z) = z
  told-bare (rules _ _ _ x6) = elim x6 [ ]

  told-knot : Judged g p (Some Knotted) → (p.length ≢ 0) × ((es : List ℕ) × Knot g es)
  told-knot (knot n es k) = (n, (es, k))
  told-knot (rules _ _ _ x6) = elim x6 [ ]

  told-dependence : (e : ℕ) → Judged g p (Some (Dependence e)) → (p.length ≢ 0) × Free g × LowestEdge g p e
  told-dependence e (rules r n free (dependence d t)) = (n, free, t)

  told-units : (q c : ℕ) → Judged g p (Some (Units q c)) → (p.length ≢ 0) × Free g × EdgeRules g p × LowestOver g p q c
  told-units q c (rules r n free (units h k d t)) = (n, free, h, t)

  told_none : Judged g p None → (p.length ≢ 0) × EdgeRules g p × UnitRule g p
  told_none (rules r n free (kept h u)) = (n, h, u)

-- a judge that refuses nothing accepts
pub judged-none : (g : Loop) (p : Pair) (r : Verdict) → Judged g p r → fine r ≡ true → r ≡ None
unfolding fine
judged-none g p r (bare z) e = both_ways e refl
judged-none g p r (knot n es k) e = both_ways e refl
judged-none g p r (rules q n free (dependence d t)) e = both_ways e refl
judged-none g p r (rules q n free (units h k d t)) e = both_ways e refl
judged-none g p r (rules q n free (kept h u)) e = refl

module _ (f : Form) (w : WellFormed f) where
  -- what the judge answers is so
  pub judged : Judged (loop_of f) (pair_of f) (judge_of f)
  unfolding judge_of pair_of
  judged =
      pick_ind (Judged (loop_of f) (pair_of f)) (eqb f.header.length 0) (Some Bare) (pick (knotted (loop_of f)) (Some Knotted) (rules_of (loop_of f) (pair_of f)))
      (λ z. bare (eqb-true _ _ z))
      (λ n. pick_ind (Judged (loop_of f) (pair_of f)) (knotted (loop_of f)) (Some Knotted) (rules_of (loop_of f) (pair_of f))
      (λ q. let k = knotted-knot (loop_of f) (sound-form f w) q in knot (eqb-false _ _ n) k.0 k.1)
      (λ q. rules _ (eqb-false _ _ n) (unknotted-free (loop_of f) q) (ruled (loop_of f) (pair_of f))))

  -- and what is so it answers
  pub judged-is : (r : Verdict) → Judged (loop_of f) (pair_of f) r → judge_of f ≡ r
  unfolding judge_of pair_of
  judged-is r (bare z) = pick_true _ _ _ (eq-eqb _ _ z)
  judged-is r (knot n es k) = pick-false _ _ _ (ne_eqb _ _ n) ∙ pick_true _ _ _ (knot-knotted (loop_of f) es k)
  judged-is r (rules s n free t) =
      pick-false _ _ _ (ne_eqb _ _ n) ∙ pick-false _ _ _ (free-unknotted (loop_of f) (sound-form f w) free) ∙ ruled-is (loop_of f) (pair_of f) r t

  -- ---- one answer at a time

  told : (r : Verdict) → judge_of f ≡ r → Judged (loop_of f) (pair_of f) r
  told r q = subst (Judged (loop_of f) (pair_of f)) q judged

  -- Bare: the form has no schedule
  pub judge-bare : judge_of f ≡ Some Bare → f.header.length ≡ 0
  unfolding pair_of
  judge-bare q = told-bare (loop_of f) (pair_of f) (told (Some Bare) q)

  -- a form without a schedule is Bare
  pub bare-judge : f.header.length ≡ 0 → judge_of f ≡ Some Bare
  unfolding pair_of
  bare-judge z = judged-is (Some Bare) (bare z)

  -- Knot: it has a schedule, and the loop has a knot
  pub judge-knot : judge_of f ≡ Some Knotted → (f.header.length ≢ 0) × ((es : List ℕ) × Knot (loop_of f) es)
  unfolding pair_of
  judge-knot q = told-knot (loop_of f) (pair_of f) (told (Some Knotted) q)

  -- a schedule of a loop with a knot is refused with Knot
  pub knot-judge : f.header.length ≢ 0 → (es : List ℕ) → Knot (loop_of f) es → judge_of f ≡ Some Knotted
  unfolding pair_of
  knot-judge n es k = judged-is (Some Knotted) (knot n es k)

  -- Dependence: no knot, and edge e is the lowest that breaks the edge rule
  pub judge-dependence : (e : ℕ) → judge_of f ≡ Some (Dependence e) → (f.header.length ≢ 0) × Free (loop_of f) × LowestEdge (loop_of f) (pair_of f) e
  unfolding pair_of
  judge-dependence e q = told-dependence (loop_of f) (pair_of f) e (told (Some (Dependence e)) q)

  -- the lowest edge that breaks the edge rule is refused where there is no knot
  pub dependence-judge : (e : ℕ) → f.header.length ≢ 0 → Free (loop_of f) → LowestEdge (loop_of f) (pair_of f) e → judge_of f ≡ Some (Dependence e)
  unfolding pair_of
  dependence-judge e n free t = judged-is (Some (Dependence e)) (rules (Some (Dependence e)) n free (dependence e t))

  -- Units: no knot, all edges keep the edge rule, and step q and class c are the lowest over the units
  pub judge-units : (q c : ℕ) → judge_of f ≡ Some (Units q c)
      → (f.header.length ≢ 0) × Free (loop_of f) × EdgeRules (loop_of f) (pair_of f) × LowestOver (loop_of f) (pair_of f) q c
  unfolding pair_of
  judge-units q c t = told-units (loop_of f) (pair_of f) q c (told (Some (Units q c)) t)

  -- the lowest step and class over the units are refused where there is no knot and the edge rule is kept
  pub units-judge : (q c : ℕ) → f.header.length ≢ 0 → Free (loop_of f) → EdgeRules (loop_of f) (pair_of f) → LowestOver (loop_of f) (pair_of f) q c → judge_of f ≡ Some (Units q c)
  unfolding pair_of
  units-judge q c n free h t = judged-is (Some (Units q c)) (rules (Some (Units q c)) n free (units h q c t))

  -- what the judge accepts is a schedule whose pair is legal
  pub judge-accepts : judge_of f ≡ None → (f.header.length ≢ 0) × Legal (loop_of f) (pair_of f)
  unfolding pair_of
  judge-accepts q =
      let t = told_none (loop_of f) (pair_of f) (told None q) in
      let s : Placed (loop_of f) (pair_of f) = placed-form f w t.0 in
      (t.0, record { steps = s.steps; body = s.body; retimings = s.retimings; least = s.least; edges = t.1; units = t.2 })

  -- a legal pair is accepted
  pub accepts-judge : f.header.length ≢ 0 → Legal (loop_of f) (pair_of f) → judge_of f ≡ None
  unfolding pair_of
  accepts-judge n legal =
      judged-is None (rules None n (legal-free (loop_of f) (pair_of f) (sound-form f w) legal) (kept legal.edges legal.units))
