-- The form with the retiming found, and what a fit answers of a well-formed form: each refusal both ways.
-- Assumes nothing.
use Rattle.std.specs.Prelude.{◌≡◌, Bool, ◌≢◌, ◌⊎◌, List, ℕ, ◌≤◌, ◌<◌, eqb, leb, ltb, get_or, None, Some}
use Rattle.std.proofs.Math.Path.{refl, ap, subst}
use Rattle.std.proofs.Common.{sym, ◌∙◌, arith, eqb-true, eq-eqb, ne_eqb, leb-true, leb-false, le-leb}
use Rattle.std.proofs.Math.Bool.{true, false}
use Rattle.std.proofs.Math.Logic.{inl, inr}
use Rattle.std.proofs.Math.ListN.{length}
use Rattle.std.proofs.lemmas.Bool.{eqb-false, lt-leb}
use Rattle.lists.specs.Pick.{pick, pick_ind, pick_true, pick-false}
use Rattle.lists.specs.Fold.{top}
use Rattle.answer.specs.Refused.{Verdict, fine}
use Rattle.answer.specs.declared.Refusal.TheVariants.{Bare, Knot as Knotted, NoRetiming, Units, Room}
use Rattle.form.specs.declared.Form.{Form}
use Rattle.form.specs.Ranges.{WellFormed}
use Rattle.form.specs.Places.{retiming_of}
use Rattle.reader.specs.Reading.{read_form}
use Rattle.reader.specs.Outcome.{Record}
use Rattle.writer.specs.Layout.{layout}
use Rattle.writer.specs.Writing.{refusal_of}
use Rattle.record.specs.Held.{Held}
use Rattle.record.specs.Written.{well-formed-written}
use Rattle.system.specs.Rounds.{settled_of}
use Rattle.legal.specs.Loop.{Loop, Pair, graph_of, loop_of, pair_of}
use Rattle.legal.specs.Legal.{UnitRule, Legal, Knot}
use Rattle.legal.specs.Systems.{knotted, limits, Fits}
use Rattle.legal.specs.Judging.{over_step, over_class, units_of, judge_of}
use Rattle.legal.specs.Shape.{sound-form, placed-form, within-form}
use Rattle.legal.specs.Knots.{Free, knot-knotted, knotted-knot, free-unknotted, unknotted-free}
use Rattle.legal.specs.Fitted.{Settles, unsettled-unfit}
use Rattle.legal.specs.Ruled.{LowestOver, over-lowest, over_none, lowest-over, kept-over}
use Rattle.legal.specs.Judged.{accepts-judge}
use Rattle.fit.specs.Retimed.{retimings, with_retiming, fitted_form}
use Rattle.fit.specs.Fitting.{fit_of}
use Rattle.fit.specs.Retimings.{retimings-length, retimings-small, retimings-zero, retimings-fit, retimings-least, retimings-largest, retimings-legal}

-- ---- the form with the retiming found

module _ (f : Form) (w : WellFormed f) (n : f.header.length ≢ 0) (q : Settles (loop_of f) (pair_of f)) where
  -- it is well-formed
  pub fitted-well-formed : WellFormed (fitted_form f)
  unfolding fitted_form with_retiming loop_of graph_of
  fitted-well-formed = record {
    classes = w.classes;
    nodes = w.nodes;
    edges = w.edges;
    length = w.length;
    class = w.class;
    node = w.node;
    edge = w.edge;
    schedule = λ _. record {
      starts =
          λ v l.
          let g = (w.schedule n).starts v l in
          record { begins = g.begins; ends = g.ends; retiming = retimings-small (loop_of f) (pair_of f) (sound-form f w) q 1 (within-form f w n) v };
      least = retimings-zero (loop_of f) (pair_of f) (sound-form f w) q;
    };
  }

  -- it can be held where the form can
  pub fitted-held : Held f → Held (fitted_form f)
  unfolding fitted_form with_retiming loop_of graph_of
  fitted-held h = record {
    sized = record {
      class = h.sized.class;
      node = h.sized.node;
      from = h.sized.from;
      to = h.sized.to;
      delays = h.sized.delays;
      start = h.sized.start;
      retiming = retimings-length (loop_of f) (pair_of f) w.nodes.1;
    };
    classes = h.classes;
    nodes = h.nodes;
    edges = h.edges;
    length = h.length;
    class = h.class;
    node = h.node;
    edge = h.edge;
    start = h.start;
    retiming = λ v l. omega (arith, retimings-small (loop_of f) (pair_of f) (sound-form f w) q 1 (within-form f w n) v);
  }

  -- the reader takes its bytes
  fitted-taken : Held f → fine (read_form (layout (fitted_form f))).refusal ≡ true
  unfolding fine
  fitted-taken h = ap (λ (x : Record). fine x.refusal) (well-formed-written (fitted_form f) (fitted-held h) fitted-well-formed)

  -- writing it refuses nothing, or Room
  pub fitted-written : Held f → (room : ℕ) → (refusal_of (fitted_form f) room ≡ None) ⊎ (refusal_of (fitted_form f) room ≡ Some (Room 0))
  unfolding refusal_of
  fitted-written h room =
      let g : Form = fitted_form f in
      let P : Verdict → Type 0 = λ r. (r ≡ None) ⊎ (r ≡ Some (Room 0)) in
      subst P (sym (pick_true (fine (read_form (layout g)).refusal) (pick (ltb room (length (layout g))) (Some (Room 0)) None) _ (fitted-taken h)))
      (pick_ind P (ltb room (length (layout g))) (Some (Room 0)) None (λ _. inr refl) (λ _. inl refl))

  -- its pair is legal where the starts keep the unit rule
  pub fitted-form-legal : UnitRule (loop_of f) (pair_of f) → Legal (loop_of (fitted_form f)) (pair_of (fitted_form f))
  unfolding fitted_form with_retiming loop_of graph_of pair_of
  fitted-form-legal units =
      let placed = placed-form f w n in
      retimings-legal (loop_of f) (pair_of f) (sound-form f w) q placed.steps placed.body units

-- ---- what a fit answers

-- the refusals of a fit, and when each is made
pub data FitTold (g : Loop) (p : Pair) : Verdict → Type 0 where
  bare : p.length ≡ 0 → FitTold g p (Some Bare)
  knot : p.length ≢ 0 → (es : List ℕ) → Knot g es → FitTold g p (Some Knotted)
  unfit : p.length ≢ 0 → Free g → ((r : ℕ → ℕ) → Fits g p r → ⊥) → FitTold g p (Some NoRetiming)
  units : p.length ≢ 0 → Free g → Settles g p → (q c : ℕ) → LowestOver g p q c → FitTold g p (Some (Units q c))
  fits : p.length ≢ 0 → Free g → Settles g p → UnitRule g p → FitTold g p None

module _ (g : Loop) (p : Pair) where
  told-units : p.length ≢ 0 → Free g → Settles g p → FitTold g p (units_of g p)
  unfolding units_of
  told-units n free q =
      pick_ind (FitTold g p) (leb (over_step g p) p.length) (Some (Units (over_step g p) (over_class g p (over_step g p)))) None
      (λ t. units n free q _ _ (over-lowest g p (leb-true _ _ t)))
      (λ t. fits n free q (over_none g p (leb-false _ _ t)))

  units-is : (q c : ℕ) → LowestOver g p q c → units_of g p ≡ Some (Units q c)
  unfolding units_of
  units-is q c t =
      let is = lowest-over g p q c t in
      pick_true (leb (over_step g p) p.length) (Some (Units (over_step g p) (over_class g p (over_step g p)))) None (le-leb (over_step g p) p.length (omega (arith, t.ends, is.0)))
      ∙ ap (λ (k : ℕ). (Some (Units k (over_class g p k)))) is.0
      ∙ ap (λ (x0 : ℕ). Some (Units q x0)) is.1

  none_is : UnitRule g p → units_of g p ≡ None
  unfolding units_of
  none_is u =
      pick-false (leb (over_step g p) p.length) (Some (Units (over_step g p) (over_class g p (over_step g p)))) None (lt-leb (over_step g p) p.length (omega (arith, kept-over g p u)))

  of_bare : FitTold g p (Some Bare) → p.length ≡ 0
  of_bare (bare z) = z

  of-knot : FitTold g p (Some Knotted) → (p.length ≢ 0) × ((es : List ℕ) × Knot g es)
  of-knot (knot n es k) = (n, (es, k))

  of-unfit : FitTold g p (Some NoRetiming) → (p.length ≢ 0) × Free g × ((r : ℕ → ℕ) → Fits g p r → ⊥)
  of-unfit (unfit n free none) = (n, free, none)

  of-units : (q c : ℕ) → FitTold g p (Some (Units q c)) → (p.length ≢ 0) × Free g × Settles g p × LowestOver g p q c
  of-units q c (units n free s a b t) = (n, free, s, t)

  of-fits : FitTold g p None → (p.length ≢ 0) × Free g × Settles g p × UnitRule g p
  of-fits (fits n free s u) = (n, free, s, u)

-- with a schedule and no knot it goes by the limits
pub past-knots : (f : Form) → f.header.length ≢ 0 → knotted (loop_of f) ≡ false
    → fit_of f ≡ pick (settled_of (limits (loop_of f) (pair_of f))).settled (units_of (loop_of f) (pair_of f)) (Some NoRetiming)
unfolding fit_of
past-knots f n k = pick-false _ _ _ (ne_eqb _ _ n) ∙ pick-false _ _ _ k

module _ (f : Form) (w : WellFormed f) where
  settles-or-not : (b : Bool) → (settled_of (limits (loop_of f) (pair_of f))).settled ≡ b → f.header.length ≢ 0 → Free (loop_of f)
      → FitTold (loop_of f) (pair_of f) (pick b (units_of (loop_of f) (pair_of f)) (Some NoRetiming))
  unfolding pick pair_of
  settles-or-not true q n free = told-units (loop_of f) (pair_of f) n free q
  settles-or-not false q n free = unfit n free (unsettled-unfit (loop_of f) (pair_of f) (sound-form f w) q)

  -- what a fit answers is so
  pub fit-told : FitTold (loop_of f) (pair_of f) (fit_of f)
  unfolding fit_of pair_of
  fit-told =
      pick_ind (FitTold (loop_of f) (pair_of f)) (eqb f.header.length 0) (Some Bare) _
      (λ z. bare (eqb-true _ _ z))
      (λ n. pick_ind (FitTold (loop_of f) (pair_of f)) (knotted (loop_of f)) (Some Knotted) _
      (λ k. let t = knotted-knot (loop_of f) (sound-form f w) k in knot (eqb-false _ _ n) t.0 t.1)
      (λ k. settles-or-not _ refl (eqb-false _ _ n) (unknotted-free (loop_of f) k)))

  unsettled : ((r : ℕ → ℕ) → Fits (loop_of f) (pair_of f) r → ⊥) → (settled_of (limits (loop_of f) (pair_of f))).settled ≡ false
  unsettled none = go (settled_of (limits (loop_of f) (pair_of f))).settled refl
    where
      go : (b : Bool) → (settled_of (limits (loop_of f) (pair_of f))).settled ≡ b → (settled_of (limits (loop_of f) (pair_of f))).settled ≡ false
      go true q = absurd (none (λ v. get_or (retimings (loop_of f) (pair_of f)) v 0) (retimings-fit (loop_of f) (pair_of f) (sound-form f w) q))
      go false q = q

  -- and what is so it answers
  pub fit_is : (r : Verdict) → FitTold (loop_of f) (pair_of f) r → fit_of f ≡ r
  unfolding fit_of pair_of
  fit_is r (bare z) = pick_true _ _ _ (eq-eqb _ _ z)
  fit_is r (knot n es k) = pick-false _ _ _ (ne_eqb _ _ n) ∙ pick_true _ _ _ (knot-knotted (loop_of f) es k)
  fit_is r (unfit n free none) = past-knots f n (free-unknotted (loop_of f) (sound-form f w) free) ∙ pick-false _ _ _ (unsettled none)
  fit_is r (units n free s q c t) = past-knots f n (free-unknotted (loop_of f) (sound-form f w) free) ∙ pick_true _ _ _ s ∙ units-is (loop_of f) (pair_of f) q c t
  fit_is r (fits n free s u) = past-knots f n (free-unknotted (loop_of f) (sound-form f w) free) ∙ pick_true _ _ _ s ∙ none_is (loop_of f) (pair_of f) u

  told : (r : Verdict) → fit_of f ≡ r → FitTold (loop_of f) (pair_of f) r
  told r e = subst (FitTold (loop_of f) (pair_of f)) e fit-told

  -- Bare: the form has no schedule
  pub fit-bare : fit_of f ≡ Some Bare → f.header.length ≡ 0
  unfolding pair_of
  fit-bare e = of_bare (loop_of f) (pair_of f) (told (Some Bare) e)

  -- Knot: it has a schedule, and the loop has a knot
  pub fit-knot : fit_of f ≡ Some Knotted → (f.header.length ≢ 0) × ((es : List ℕ) × Knot (loop_of f) es)
  unfolding pair_of
  fit-knot e = of-knot (loop_of f) (pair_of f) (told (Some Knotted) e)

  -- NoRetiming: it has a schedule, the loop has no knot, and no retiming fits the starts
  pub fit-impossible : fit_of f ≡ Some NoRetiming → (f.header.length ≢ 0) × Free (loop_of f) × ((r : ℕ → ℕ) → Fits (loop_of f) (pair_of f) r → ⊥)
  unfolding pair_of
  fit-impossible e = of-unfit (loop_of f) (pair_of f) (told (Some NoRetiming) e)

  -- where no retiming fits it is NoRetiming
  pub impossible-fit : f.header.length ≢ 0 → Free (loop_of f) → ((r : ℕ → ℕ) → Fits (loop_of f) (pair_of f) r → ⊥) → fit_of f ≡ Some NoRetiming
  unfolding pair_of
  impossible-fit n free none = fit_is (Some NoRetiming) (unfit n free none)

  -- Units: some retiming fits, and step q and class c are the lowest over the units
  pub fit-units : (q c : ℕ) → fit_of f ≡ Some (Units q c) → (f.header.length ≢ 0) × Free (loop_of f) × Settles (loop_of f) (pair_of f) × LowestOver (loop_of f) (pair_of f) q c
  unfolding pair_of
  fit-units q c e = of-units (loop_of f) (pair_of f) q c (told (Some (Units q c)) e)

  -- nothing refused: some retiming fits, and the starts keep the unit rule
  pub fit_none : fit_of f ≡ None → (f.header.length ≢ 0) × Free (loop_of f) × Settles (loop_of f) (pair_of f) × UnitRule (loop_of f) (pair_of f)
  unfolding pair_of
  fit_none e = of-fits (loop_of f) (pair_of f) (told None e)

  -- the pair answered is legal
  pub fit-legal : fit_of f ≡ None → Legal (loop_of (fitted_form f)) (pair_of (fitted_form f))
  fit-legal e = let t = fit_none e in fitted-form-legal f w t.0 t.2 t.3

  -- and the judge accepts it
  pub fit-judged : fit_of f ≡ None → judge_of (fitted_form f) ≡ None
  unfolding fitted_form with_retiming
  fit-judged e = let t = fit_none e in accepts-judge (fitted_form f) (fitted-well-formed f w t.0 t.2) t.0 (fit-legal e)

  -- no retiming that fits is less deep than the one answered
  pub fit-least : fit_of f ≡ None → (r : ℕ → ℕ) (d : ℕ) → Fits (loop_of f) (pair_of f) r → ((v : ℕ) → v < f.header.nodes → r v ≤ d) → top (fitted_form f).retiming ≤ d
  unfolding fitted_form with_retiming loop_of graph_of
  fit-least e r d h under = retimings-least (loop_of f) (pair_of f) (sound-form f w) (fit_none e).2 r d h under

  -- and none that is no deeper is larger at any node
  pub fit-largest : fit_of f ≡ None → (r : ℕ → ℕ) → Fits (loop_of f) (pair_of f) r → ((v : ℕ) → v < f.header.nodes → r v ≤ top (fitted_form f).retiming)
      → (v : ℕ) → v < f.header.nodes → r v ≤ retiming_of (fitted_form f) v
  unfolding fitted_form with_retiming loop_of graph_of
  fit-largest e r h under = retimings-largest (loop_of f) (pair_of f) (sound-form f w) (fit_none e).2 r h under
