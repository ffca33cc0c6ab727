-- The ways that a fit of a form goes: Bare, a knot, no retiming, and the form with the retiming that fits.
-- Assumes nothing.
use Rattle.std.specs.Prelude.{None, Some, Result, Ok, Err, IsErrAnd, MatchResult}
use mathlib.Core.Path.{◌≡◌, refl, sym, ap, subst, ◌∙◌}
use mathlib.Core.Bool.{true}
use mathlib.Core.Logic.{◌≢◌, ◌⊎◌}
use mathlib.Core.List.{List}
use Prim.Native.Nat.{ℕ}
use native.Mathlib.Omega.{arith}
use borrow.Author.Tests.{eq-eqb, ne_eqb}
use lib.Dec.{eqb, leb}
use Rattle.lists.specs.Pick.{pick, pick_ind, pick_true, pick-false, both_ways}
use Rattle.answer.specs.Refused.{Verdict, number_of, fine, refused_fine}
use Rattle.answer.specs.Outcome.{no_cycle, cycle_or}
use Rattle.answer.specs.declared.Refusal.{Refusal}
use Rattle.answer.specs.declared.Refused.{Refused}
use Rattle.answer.specs.declared.Cycle.{Cycle}
use Rattle.answer.specs.declared.Refusal.TheVariants.{Bare, NoRetiming, Room}
use Rattle.form.specs.declared.Form.{Form}
use Rattle.form.specs.Ranges.{WellFormed}
use Rattle.writer.specs.Writing.{refusal_of}
use Rattle.record.specs.Held.{Held}
use Rattle.system.specs.Rounds.{settled_of}
use Rattle.legal.specs.Loop.{Loop, Pair, loop_of, pair_of}
use Rattle.legal.specs.Systems.{knotted, limits}
use Rattle.legal.specs.Judging.{over_step, units_of}
use Rattle.legal.specs.Handed.{handed-none, handed-knot}
use Rattle.tables.specs.declared.Timetable.{Timetable}
use Rattle.tables.specs.Times.{times_of}
use Rattle.knots.specs.Found.{KnotFound, Untied}
use Rattle.plans.specs.Outcome.{Plan, plan_in}
use Rattle.plans.specs.Pairs.{with_pair, with_times, times_with, SameButPair}
use Rattle.plans.specs.Scheduling.{Planned, unturned}
use Rattle.fit.specs.Outcome.{fitting_in}
use Rattle.fit.specs.Retimed.{with_retiming, fitted_form, StartsFitted}
use Rattle.fit.specs.Fitting.{fit_of}
use Rattle.fit.specs.Laws.{FitTold, bare, knot, unfit, units, fits, past-knots, fit-told, fit_none, fitted-written}

units_number : (g : Loop) (p : Pair) → (number_of (units_of g p) ≢ 12) × (number_of (units_of g p) ≢ 14)
unfolding units_of
units_number g p = pick_ind (λ r. (number_of r ≢ 12) × (number_of r ≢ 14)) (leb (over_step g p) p.length) _ _ (λ e. (omega arith, omega arith)) (λ e. (omega arith, omega arith))

-- the form with its timetable's pair and another retiming has that retiming
retimed : (f : Form) → SameButPair f f → (u : Timetable) → u ≡ times_of f → (rs : List ℕ) → with_times f (times_with u u.start u.length rs) ≡ with_retiming f rs
unfolding with_times times_with with_pair with_retiming
retimed f same u is rs =
    ap (λ (x : Timetable). with_pair f x.start x.length rs) is ∙ ap (λ (g : Form). with_retiming g rs) (sym same)

module _ (f : Form) (u : Timetable) where
  pub plan-bare : f.header.length ≡ 0 → (y : Plan) → y ≡ record { refusal = Some Bare; rotations = 0; cycle = no_cycle; times = u } → Planned fit_of fitted_form unturned f y
  unfolding fit_of fine
  plan-bare z y is = subst (Planned fit_of fitted_form unturned f) (sym is) (record {
    refusal = sym (pick_true (eqb f.header.length 0) _ _ (eq-eqb _ _ z));
    form = λ q. both_ways q refl;
    rotations = λ q. refl;
    handed = handed-none (loop_of f) (pair_of f) (Some Bare) no_cycle (omega arith) (omega arith) refl;
  })

  module _ (n : f.header.length ≢ 0) where
    pub plan-knot : (e : Refused) → Untied (loop_of f) (Err e) → Planned fit_of fitted_form unturned f (plan_in u (Err e))
    unfolding fit_of fine
    plan-knot e untied =
        let found = untied.1 in
        let l = untied.2 in
        rw untied.0 (record {
          refusal = sym (pick-false (eqb f.header.length 0) _ _ (ne_eqb _ _ n) ∙ pick_true (knotted (loop_of f)) _ _ (found.tied l));
          form = λ q. both_ways q refl;
          rotations = λ q. refl;
          handed = handed-knot (loop_of f) (pair_of f) (cycle_or e.cycle) (found.knot l) found.tallies;
        })

    module _ (free : KnotFound (loop_of f) no_cycle) where
      by-limits : fit_of f ≡ pick (settled_of (limits (loop_of f) (pair_of f))).settled (units_of (loop_of f) (pair_of f)) (Some NoRetiming)
      by-limits = past-knots f n (free.free refl)

      -- what no retiming fits, with the cycle
      unfitting : (c : Cycle) → StartsFitted (loop_of f) (pair_of f) (fitting_in (Err c)) → Planned fit_of fitted_form unturned f (record { refusal = Some NoRetiming; rotations = 0; cycle = c; times = u })
      unfolding fine
      unfitting c s = record {
        refusal = sym (by-limits ∙ pick-false _ _ _ (sym s.fits));
        form = λ q. both_ways q refl;
        rotations = λ q. refl;
        handed = record {
          knot = λ q. let z : ◌≡◌ {A = ℕ} 14 12 = ap number_of q in absurd (omega arith);
          impossible = λ _. s.impossible refl;
          none = λ _ q. absurd (q refl);
          tallies = s.tallies;
        };
      }

      pub plan-unfit : (t : Result (List ℕ) Cycle) → StartsFitted (loop_of f) (pair_of f) (fitting_in t) → (e : Refused) → (c : Cycle) × (t ≡ Err c) × (e.refusal ≡ NoRetiming) × (e.cycle ≡ Some c)
          → Planned fit_of fitted_form unturned f (plan_in u (Err e))
      plan-unfit t s e told = rw (told.2, told.3) (unfitting told.0 (rw told.1 at s))

      module _ (rs : List ℕ) (s : StartsFitted (loop_of f) (pair_of f) (fitting_in (Ok rs))) where
        by-units : fit_of f ≡ units_of (loop_of f) (pair_of f)
        by-units = by-limits ∙ pick_true _ _ _ (sym s.fits)

        pub plan-units : (r : Refusal) → Some r ≡ units_of (loop_of f) (pair_of f) → Planned fit_of fitted_form unturned f (record { refusal = Some r; rotations = 0; cycle = no_cycle; times = u })
        plan-units r is =
            let number = units_number (loop_of f) (pair_of f) in
            record {
              refusal = is ∙ sym by-units;
              form = λ q. both_ways q (refused_fine r);
              rotations = λ q. refl;
              handed = handed-none (loop_of f) (pair_of f) (Some r) no_cycle (λ q. number.0 (sym (ap number_of is) ∙ q)) (λ q. number.1 (sym (ap number_of is) ∙ q)) refl;
            }

        pub plan-fits : SameButPair f f → u ≡ times_of f → None ≡ units_of (loop_of f) (pair_of f)
            → Planned fit_of fitted_form unturned f (record { refusal = None; rotations = 0; cycle = no_cycle; times = times_with u u.start u.length rs })
        unfolding fitted_form
        plan-fits same is-u is = record {
          refusal = is ∙ sym by-units;
          form = λ _. retimed f same u is-u rs ∙ ap (with_retiming f) (s.retiming refl);
          rotations = λ q. refl;
          handed = handed-none (loop_of f) (pair_of f) None no_cycle (omega arith) (omega arith) refl;
        }

-- ---- the retiming that fits, or the refusal with the cycle

-- what a refusal made of the cycle comes from
abbrev pub Unfit : Result (List ℕ) Cycle → Result (List ℕ) Refused → Type 0
Unfit t r = MatchResult t (λ rs. r ≡ Ok rs) (λ c. IsErrAnd r (λ e. (e.refusal ≡ NoRetiming) × (e.cycle ≡ Some c)))

pub unfit-from : (t : Result (List ℕ) Cycle) (e : Refused) → Unfit t (Err e) → (c : Cycle) × (t ≡ Err c) × (e.refusal ≡ NoRetiming) × (e.cycle ≡ Some c)
unfit-from (Ok rs) e m = absurd cc
unfit-from (Err c) e m = (c, refl, m.0, m.1)

pub fit-from : (t : Result (List ℕ) Cycle) (rs : List ℕ) → Unfit t (Ok rs) → t ≡ Ok rs
fit-from (Ok x) rs m = let same : x ≡ rs = cc in ap Ok same
fit-from (Err c) rs m = absurd m

-- ---- what is written

told_none : (g : Loop) (p : Pair) (r : Verdict) → FitTold g p r → fine r ≡ true → r ≡ None
unfolding fine
told_none g p r (bare z) e = both_ways e refl
told_none g p r (knot n es k) e = both_ways e refl
told_none g p r (unfit n free none) e = both_ways e refl
told_none g p r (units n free s q c t) e = both_ways e refl
told_none g p r (fits n free s u) e = refl

pub fit-writes : (f : Form) → WellFormed f → Held f → fine (fit_of f) ≡ true → (room : ℕ) → (refusal_of (fitted_form f) room ≡ None) ⊎ (refusal_of (fitted_form f) room ≡ Some (Room 0))
fit-writes f w h e room =
    let t = fit_none f w (told_none _ _ _ (fit-told f w) e) in
    fitted-written f w t.0 t.2 h room
