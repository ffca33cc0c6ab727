-- The ways that a rotation goes: what the judge refuses, Size, Long, and the form rotated.
-- Assumes nothing.
use Rattle.std.specs.Prelude.{Ok, Err, None, Some}
use mathlib.Core.Path.{◌≡◌, refl, sym, ap, subst, ◌∙◌}
use mathlib.Core.Bool.{Bool, true, false, ◌&&◌}
use mathlib.Core.Logic.{◌⊎◌, ◌≢◌}
use mathlib.Core.List.{List}
use Prim.Native.Nat.{ℕ, ◌≤◌, ◌<◌}
use native.Mathlib.Omega.{arith}
use lib.Dec.{ltb}
use borrow.Author.Tests.{ltb-true, lt-ltb, le-ltb}
use Rattle.lists.specs.Pick.{pick_true, pick-false, pick_ind, both_ways}
use Rattle.lists.specs.Both.{and_both}
use Rattle.answer.specs.Refused.{fine, refused_fine}
use Rattle.answer.specs.Outcome.{no_cycle}
use Rattle.answer.specs.declared.Cycle.{Cycle}
use Rattle.answer.specs.declared.Refusal.TheVariants.{Size, Long, Room}
use Rattle.answer.specs.declared.Refused.{Refused}
use Rattle.form.specs.declared.Form.{Form}
use Rattle.form.specs.Ranges.{WellFormed}
use Rattle.writer.specs.Writing.{refusal_of}
use Rattle.record.specs.Held.{Held}
use Rattle.legal.specs.Loop.{loop_of, pair_of}
use Rattle.legal.specs.Legal.{Legal}
use Rattle.legal.specs.Judging.{judge_of}
use Rattle.legal.specs.Judged.{judged, judged-none, judge-accepts}
use Rattle.legal.specs.Handed.{handed-none}
use Rattle.tables.specs.declared.Timetable.{Timetable}
use Rattle.tables.specs.Times.{times_of}
use Rattle.judge.specs.Judgement.{Judgement}
use Rattle.judge.specs.Outcome.{judged_in}
use Rattle.plans.specs.Outcome.{Plan, plan_in}
use Rattle.plans.specs.Pairs.{with_pair, with_times}
use Rattle.plans.specs.Tabled.{Tabled}
use Rattle.plans.specs.Scheduling.{Planned, unturned}
use Rattle.turning.specs.Rotation.{rotated_length, rotated, too_long, turned_form, rotated_or}
use Rattle.turning.specs.Lending.{Turnable}
use Rattle.turning.specs.RotatedLaws.{rotated-same, rotated-written}
use Rattle.rotation.specs.Rotating.{turns, rotate_asked, rotated_by}

-- what steps can be rotated
turns-told : (z l : ℕ) → turns z l ≡ true → (1 ≤ z) × (z < l)
unfolding turns
turns-told z l t = let b = and_both _ _ t in (ltb-true _ _ b.0, ltb-true _ _ b.1)

pub turns-zero : (z l : ℕ) → z ≡ 0 → false ≡ turns z l
unfolding turns
turns-zero z l e = ap (λ (b : Bool). b && ltb z l) (sym (le-ltb 0 z (omega (arith, e))))

pub turns-some : (z l : ℕ) → z ≢ 0 → ltb z l ≡ turns z l
unfolding turns
turns-some z l n = ap (λ (b : Bool). b && ltb z l) (sym (lt-ltb 0 z (omega (arith, n))))

-- the length is the same, whether or not a retiming is fitted
or-length : (f : Form) (z : ℕ) → (rotated_or f z).header.length ≡ rotated_length f z
unfolding rotated_or turned_form rotated with_pair
or-length f z = pick_ind (λ (x : Form). x.header.length ≡ rotated_length f z) (too_long f z) (turned_form f z) (rotated f z) (λ _. refl) (λ _. refl)

-- the steps are those of the form's body
pub turns-here : (f : Form) (edges : ℕ) (from to delays : List ℕ) (t : Timetable) → Tabled f edges from to delays t → (z : ℕ) (b : Bool) → b ≡ turns z t.length → turns z f.header.length ≡ b
unfolding times_of
turns-here f edges from to delays t k z b is = ap (λ (u : Timetable). turns z u.length) (sym k.is) ∙ sym is

-- what the judge accepts, and what it refuses
pub judge-accepted : (f : Form) (done : Unit) → Judgement f (judged_in (Ok done)) → judge_of f ≡ None
judge-accepted f done q = sym q.refusal

pub rotate-unjudged : (f : Form) (e : Refused) → Judgement f (judged_in (Err e)) → (z : ℕ) (t : Timetable) → Planned (rotate_asked z) (rotated_by z) unturned f (plan_in t (Err e))
unfolding rotate_asked
rotate-unjudged f e q z t = record {
  refusal = q.refusal ∙ sym (pick-false (fine (judge_of f)) _ _ (sym (ap fine q.refusal) ∙ refused_fine e.refusal));
  form = λ b. both_ways b (refused_fine e.refusal);
  rotations = λ b. refl;
  handed = q.handed;
}

module _ (f : Form) (w : WellFormed f) (z : ℕ) (accepted : judge_of f ≡ None) where
  judge-fine : fine (judge_of f) ≡ true
  unfolding fine
  judge-fine = ap fine accepted

  -- what the judge accepts is legal
  rotate-legal : turns z f.header.length ≡ true → Legal (loop_of f) (pair_of f) × (1 ≤ z) × (z < f.header.length)
  rotate-legal t = let b = turns-told z f.header.length t in ((judge-accepts f w accepted).1, b.0, b.1)

  pub rotate-turnable : turns z f.header.length ≡ true → (edges : ℕ) (from to delays : List ℕ) (t : Timetable) → Tabled f edges from to delays t → Turnable f edges from to delays t z
  rotate-turnable b edges from to delays t k = let l = rotate-legal b in record { tabled = k; legal = l.0; some = l.1; below = l.2 }

  pub rotate-size : turns z f.header.length ≡ false → (n : ℕ) → n ≡ z → (c : Cycle) → c ≡ no_cycle
      → (u : Timetable) (y : Plan) → y ≡ record { refusal = Some (Size n); rotations = 0; cycle = c; times = u } → Planned (rotate_asked z) (rotated_by z) unturned f y
  unfolding rotate_asked fine
  rotate-size b n is c none u y e = subst (Planned (rotate_asked z) (rotated_by z) unturned f) (sym e) (record {
    refusal = ap (λ (k : ℕ). (Some (Size k))) is ∙ sym (pick_true (fine (judge_of f)) _ _ judge-fine ∙ pick-false (turns z f.header.length) _ _ b);
    form = λ t. both_ways t refl;
    rotations = λ t. refl;
    handed = handed-none _ _ (Some (Size n)) c (omega arith) (omega arith) none;
  })

  module _ (t : turns z f.header.length ≡ true) (x : Timetable) (is : x ≡ times_of (rotated_or f z)) (c : Cycle) (none : c ≡ no_cycle) where
    long-is : x.length ≡ rotated_length f z
    unfolding times_of
    long-is = ap (λ (y : Timetable). y.length) is ∙ or-length f z

    pub rotate-too-long : 512 < x.length → (u : Timetable) (y : Plan) → y ≡ record { refusal = Some Long; rotations = 0; cycle = c; times = u } → Planned (rotate_asked z) (rotated_by z) unturned f y
    unfolding rotate_asked too_long fine
    rotate-too-long l u y e = subst (Planned (rotate_asked z) (rotated_by z) unturned f) (sym e) (record {
      refusal =
          sym (pick_true (fine (judge_of f)) _ _ judge-fine
          ∙ pick_true (turns z f.header.length) _ _ t
          ∙ pick_true (too_long f z) _ _ (lt-ltb 512 (rotated_length f z) (omega (arith, long-is))));
      form = λ q. both_ways q refl;
      rotations = λ q. refl;
      handed = handed-none _ _ (Some Long) c (omega arith) (omega arith) none;
    })

    pub rotate-planned : x.length ≤ 512 → Planned (rotate_asked z) (rotated_by z) unturned f (record { refusal = None; rotations = 0; cycle = c; times = x })
    unfolding rotate_asked rotated_or too_long
    rotate-planned l =
        let legal = rotate-legal t in
        let short : too_long f z ≡ false = le-ltb 512 (rotated_length f z) (omega (arith, long-is)) in
        record {
          refusal =
              sym (pick_true (fine (judge_of f)) _ _ judge-fine
              ∙ pick_true (turns z f.header.length) _ _ t
              ∙ pick-false (too_long f z) _ _ short);
          form = λ _. ap (with_times f) (is ∙ ap times_of (pick-false (too_long f z) _ _ short)) ∙ sym (rotated-same f w legal.0 z legal.1 legal.2);
          rotations = λ _. refl;
          handed = handed-none _ _ None c (omega arith) (omega arith) none;
        }

-- where nothing is refused, the judge accepts, the steps can be rotated, and the rotation is not too long
asked-told : (z : ℕ) (f : Form) → fine (rotate_asked z f) ≡ true → (fine (judge_of f) ≡ true) × (turns z f.header.length ≡ true) × (too_long f z ≡ false)
unfolding rotate_asked fine
asked-told z f e = go (fine (judge_of f)) (turns z f.header.length) (too_long f z) refl refl refl
  where
    go : (a b c : Bool) → fine (judge_of f) ≡ a → turns z f.header.length ≡ b → too_long f z ≡ c → (fine (judge_of f) ≡ true) × (turns z f.header.length ≡ true) × (too_long f z ≡ false)
    go false b c p q r = both_ways e (ap fine (pick-false (fine (judge_of f)) _ _ p) ∙ p)
    go true false c p q r = both_ways e (ap fine (pick_true (fine (judge_of f)) _ _ p ∙ pick-false (turns z f.header.length) _ _ q))
    go true true true p q r = both_ways e (ap fine (pick_true (fine (judge_of f)) _ _ p ∙ pick_true (turns z f.header.length) _ _ q ∙ pick_true (too_long f z) _ _ r))
    go true true false p q r = (p, q, r)

pub rotate-writes : (z : ℕ) (f : Form) → WellFormed f → Held f → fine (rotate_asked z f) ≡ true → (room : ℕ) → (refusal_of (rotated_by z f) room ≡ None) ⊎ (refusal_of (rotated_by z f) room ≡ Some (Room 0))
rotate-writes z f w h e room =
    let a = asked-told z f e in
    let l = rotate-legal f w z (judged-none (loop_of f) (pair_of f) (judge_of f) (judged f w) a.0) a.1 in
    rotated-written f w l.0 z l.1 l.2 a.2 h room
