-- The ways that a first schedule goes: a knot, and the form's first schedule.
-- Assumes nothing.
use Rattle.std.specs.Prelude.{Err, None, Some}
use mathlib.Core.Path.{◌≡◌, refl, sym, ap, subst, ◌∙◌}
use mathlib.Core.Bool.{Bool, true, false}
use mathlib.Core.Logic.{◌⊎◌}
use Prim.Native.Nat.{ℕ, ◌≤◌, ◌<◌}
use native.Mathlib.Omega.{arith}
use Rattle.lists.specs.Pick.{pick_true, pick-false, both_ways}
use Rattle.answer.specs.Refused.{fine}
use Rattle.answer.specs.Outcome.{cycle_or}
use Rattle.answer.specs.declared.Cycle.{Cycle}
use Rattle.answer.specs.declared.Refusal.{Refusal}
use Rattle.answer.specs.declared.Refused.{Refused}
use Rattle.answer.specs.declared.Refusal.TheVariants.{Knot, Room}
use Rattle.form.specs.declared.Form.{Form}
use Rattle.form.specs.Ranges.{WellFormed}
use Rattle.writer.specs.Writing.{refusal_of}
use Rattle.record.specs.Held.{Held}
use Rattle.legal.specs.Loop.{loop_of, pair_of}
use Rattle.legal.specs.Systems.{knotted}
use Rattle.legal.specs.Handed.{handed-none, handed-knot}
use Rattle.tables.specs.declared.Timetable.{Timetable}
use Rattle.tables.specs.Times.{times_of}
use Rattle.knots.specs.Found.{KnotFound, Untied}
use Rattle.plans.specs.Outcome.{plan_in}
use Rattle.plans.specs.Pairs.{with_times}
use Rattle.plans.specs.Scheduling.{Planned, unturned}
use Rattle.turning.specs.Rotation.{first_form}
use Rattle.turning.specs.FirstLaws.{first-same, first-written}
use Rattle.rotation.specs.Rotating.{first_asked}

module _ (f : Form) (k : Cycle) (found : KnotFound (loop_of f) k) where
  pub first-knot : 0 < k.count → (t : Timetable) → Planned first_asked first_form unturned f (record { refusal = Some Knot; rotations = 0; cycle = k; times = t })
  unfolding first_asked fine
  first-knot l t = record {
    refusal = sym (pick_true (knotted (loop_of f)) _ _ (found.tied l));
    form = λ q. both_ways q refl;
    rotations = λ q. refl;
    handed = handed-knot (loop_of f) (pair_of f) k (found.knot l) found.tallies;
  }

  pub first-planned : WellFormed f → k.count ≤ 0 → (t : Timetable) → t ≡ times_of (first_form f)
      → Planned first_asked first_form unturned f (record { refusal = None; rotations = 0; cycle = k; times = t })
  unfolding first_asked
  first-planned w l t is =
      let free = found.free (omega arith) in
      record {
        refusal = sym (pick-false (knotted (loop_of f)) _ _ free);
        form = λ _. ap (with_times f) is ∙ sym (first-same f w free);
        rotations = λ _. refl;
        handed = handed-none _ _ None k (omega arith) (omega arith) (found.none (omega arith));
      }

-- a knot refuses the plan
pub first-tied : (f : Form) (t : Timetable) (e : Refused) → Untied (loop_of f) (Err e) → Planned first_asked first_form unturned f (plan_in t (Err e))
first-tied f t e u =
    subst (λ (r : Refusal). Planned first_asked first_form unturned f (record { refusal = Some r; rotations = 0; cycle = cycle_or e.cycle; times = t })) (sym u.0)
    (first-knot f (cycle_or e.cycle) u.1 u.2 t)

pub first-writes : (f : Form) → WellFormed f → Held f → fine (first_asked f) ≡ true → (room : ℕ) → (refusal_of (first_form f) room ≡ None) ⊎ (refusal_of (first_form f) room ≡ Some (Room 0))
unfolding first_asked fine
first-writes f w h t room = first-written f w (go (knotted (loop_of f)) refl) h room
  where
    go : (b : Bool) → knotted (loop_of f) ≡ b → knotted (loop_of f) ≡ false
    go true q = both_ways t (ap fine (pick_true (knotted (loop_of f)) (Some Knot) None q))
    go false q = q
