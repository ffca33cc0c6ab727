-- The ways that an entry point goes: what is refused of a record, else what becomes of its plan.
-- Assumes nothing.
use Rattle.std.specs.Prelude.{None, Some, Result, Ok, Err, IsErrAnd}
use Rattle.std.proofs.lemmas.Result.{err_from_is_err_and}
use mathlib.Core.Path.{◌≡◌, refl, sym, ap, subst, ◌∙◌}
use mathlib.Core.Bool.{Bool, true, false}
use mathlib.Core.Logic.{◌⊎◌, inl, inr, ⊎_elim}
use mathlib.Core.List.{List}
use Prim.Native.Nat.{ℕ, ◌≤◌}
use native.Mathlib.Omega.{arith}
use lib.ListN.{length}
use lib.Seq.{sets}
use Rattle.lists.specs.Pick.{pick, pick_true, pick-false, both_ways}
use Rattle.answer.specs.Refused.{Verdict, number_of, fine, refused_fine, none_fine}
use Rattle.answer.specs.declared.Refusal.{Refusal}
use Rattle.answer.specs.declared.Refused.{Refused}
use Rattle.answer.specs.Outcome.{no_cycle}
use Rattle.answer.specs.declared.Cycle.{Cycle}
use Rattle.answer.specs.declared.Refusal.TheVariants.{Room}
use Rattle.form.specs.declared.Form.{Form}
use Rattle.form.specs.Ranges.{WellFormed}
use Rattle.field.specs.Number.{Bytes}
use Rattle.reader.specs.Outcome.{Record, record_in}
use Rattle.reader.specs.Reading.{read_form}
use Rattle.writer.specs.Outcome.{Written}
use Rattle.writer.specs.Layout.{layout}
use Rattle.writer.specs.Writing.{refusal_of, written, buffer_after}
use Rattle.record.specs.Held.{Held}
use Rattle.legal.specs.Loop.{loop_of, pair_of}
use Rattle.legal.specs.Handed.{Handed, handed-none}
use Rattle.record.specs.Early.{read-early}
use Rattle.record.specs.ReadFirst.{WellRead, first-refused, well-read}
use Rattle.tables.specs.declared.Timetable.{Timetable}
use Rattle.plans.specs.declared.Rewritten.{Rewritten}
use Rattle.plans.specs.Outcome.{Plan, Scheduled, scheduled_in, plan_in}
use Rattle.plans.specs.Pairs.{with_times}
use Rattle.plans.specs.Scheduling.{schedule_refusal, schedule_record, RecordScheduled, Planned, PlanWritten}

-- a choice goes the same way where the value chosen is the same
pick_same : {A : Type 0} (b : Bool) (x x' y : A) → (b ≡ true → x ≡ x') → pick b x y ≡ pick b x' y
unfolding pick
pick_same true x x' y e = e refl
pick_same false x x' y e = refl

-- where writing a form refuses nothing, or Room, the reader takes its bytes
taken-where : (f : Form) (room : ℕ) → (refusal_of f room ≡ None) ⊎ (refusal_of f room ≡ Some (Room 0)) → fine (read_form (layout f)).refusal ≡ true
unfolding refusal_of fine
taken-where f room w = go (fine (read_form (layout f)).refusal) refl
  where
    go : (b : Bool) → fine (read_form (layout f)).refusal ≡ b → fine (read_form (layout f)).refusal ≡ true
    go true t = t
    go false t =
        let is : refusal_of f room ≡ (read_form (layout f)).refusal = pick-false (fine (read_form (layout f)).refusal) _ _ t in
        let early : number_of (read_form (layout f)).refusal ≤ 10 = read-early (layout f) in
        ⊎_elim (λ q. both_ways (ap fine (sym is ∙ q)) t) (λ q. absurd (omega (arith, ap number_of (sym is ∙ q)))) w

-- a refusal with no cycle beside it, as the definitions speak of a plan
pub plan-alone : (u : Timetable) (e : Refused) (r : Refusal) → (e.refusal ≡ r) × (e.cycle ≡ None) → plan_in u (Err e) ≡ record { refusal = Some r; rotations = 0; cycle = no_cycle; times = u }
plan-alone u e r is = rw (is.0, is.1) refl

-- ---- a plan into a buffer

module _ (f : Form) (y : Plan) (out : List ℕ) where
  -- the form to be written
  abbrev next : Form
  next = with_times f y.times

  pub plan-refused : fine y.refusal ≡ false → PlanWritten f y out out (record { refusal = y.refusal; size = 0; rotations = 0; cycle = y.cycle })
  plan-refused b = record {
    refusal = sym (pick-false (fine y.refusal) _ _ b);
    size = sym (pick-false (fine y.refusal) _ _ b);
    rotations = sym (pick-false (fine y.refusal) _ _ b);
    buffer = sym (pick-false (fine y.refusal) _ _ b);
    cycle = refl;
  }

  module _ (t : fine y.refusal ≡ true) (g : Form) (is-g : g ≡ next) (z : Written) (last : List ℕ) (is-z : z ≡ written g (length out)) (is_last : last ≡ buffer_after g out) where
    pub plan-written : PlanWritten f y out last (record { refusal = z.refusal; size = z.size; rotations = pick (fine z.refusal) y.rotations 0; cycle = y.cycle })
    unfolding written buffer_after
    plan-written =
        let whole : z ≡ written next (length out) = is-z ∙ ap (λ (h : Form). written h (length out)) is-g in
        let refusal : z.refusal ≡ refusal_of next (length out) = ap (λ (w : Written). w.refusal) whole in
        record {
          refusal = refusal ∙ sym (pick_true (fine y.refusal) _ _ t);
          size = ap (λ (w : Written). w.size) whole ∙ ap (λ (q : Verdict). pick (fine q) (length (layout next)) 0) (sym refusal);
          rotations = refl;
          buffer = is_last ∙ ap (λ (h : Form). buffer_after h out) is-g ∙ ap (λ (q : Verdict). pick (fine q) (sets out 0 (layout next)) out) (sym refusal);
          cycle = refl;
        }

    -- where the writer refuses no rotations are told, else those that the plan took
    pub plan-roomless : fine z.refusal ≡ false → PlanWritten f y out last (record { refusal = z.refusal; size = z.size; rotations = 0; cycle = y.cycle })
    plan-roomless b = subst (λ (n : ℕ). PlanWritten f y out last (record { refusal = z.refusal; size = z.size; rotations = n; cycle = y.cycle })) (pick-false _ _ _ b) plan-written

    pub plan-told : fine z.refusal ≡ true → PlanWritten f y out last (record { refusal = z.refusal; size = z.size; rotations = y.rotations; cycle = y.cycle })
    plan-told b = subst (λ (n : ℕ). PlanWritten f y out last (record { refusal = z.refusal; size = z.size; rotations = n; cycle = y.cycle })) (pick_true _ _ _ b) plan-written

-- ---- a record

module _ (asked : Form → Verdict) (planned : Form → Form) (turned : Form → ℕ) (s out : List ℕ) where
  -- what the reader refuses
  pub entry-unread : (e : Refusal) → record_in (Err e) ≡ read_form s → (r : Result Rewritten Refused) → IsErrAnd r (λ y. (y.refusal ≡ e) × (y.cycle ≡ None))
      → RecordScheduled asked planned turned s out out (scheduled_in r)
  unfolding schedule_record
  entry-unread e back r handed_on =
      let told = err_from_is_err_and r handed_on in
      let unfit : fine (Some e) ≡ false = refused_fine e in
      let early : number_of (Some e) ≤ 10 = subst (λ (x : Record). number_of x.refusal ≤ 10) (sym back) (read-early s) in
      rw (told.1, told.2.0, told.2.1) (record {
        refusal = sym (first-refused s _ back (schedule_refusal asked planned turned (length out)) unfit);
        size = sym (pick-false (fine (Some e)) _ _ unfit);
        rotations = sym (pick-false (fine (Some e)) _ _ unfit);
        buffer = sym (pick-false (fine (Some e)) _ _ unfit);
        handed = handed-none _ _ (Some e) no_cycle (λ q. omega arith) (λ q. omega arith) refl;
      })

  -- a form that was read, and that can be written as it is planned, with room
  module _ (f : Form) (back : record_in (Ok f) ≡ read_form s) (bytes : Bytes s)
      (writes : (g : Form) → WellFormed g → Held g → fine (asked g) ≡ true → (room : ℕ) → (refusal_of (planned g) room ≡ None) ⊎ (refusal_of (planned g) room ≡ Some (Room 0)))
    where
      read : WellRead s (record_in (Ok f))
      read = well-read s (record_in (Ok f)) back bytes none_fine

      module _ (y : Plan) (plan : Planned asked planned turned f y) where
        here : Planned asked planned turned (read_form s).form y
        here = subst (λ (q : Record). Planned asked planned turned q.form y) back plan

        -- the reader takes the bytes of the form planned
        pub plan-taken : fine y.refusal ≡ true → fine (read_form (layout (with_times f y.times))).refusal ≡ true
        plan-taken t =
            subst (λ (g : Form). fine (read_form (layout g)).refusal ≡ true) (sym (plan.form t))
            (taken-where (planned f) 0 (writes f read.good read.held (ap fine (sym plan.refusal) ∙ t) 0))

        module _ (last : List ℕ) (r : Scheduled) (a : PlanWritten f y out last r) where
          -- what is fine in the end was planned
          was-fine : fine r.refusal ≡ true → fine y.refusal ≡ true
          was-fine t = go (fine y.refusal) refl
            where
              go : (b : Bool) → fine y.refusal ≡ b → fine y.refusal ≡ true
              go true q = q
              go false q = both_ways t (ap fine (a.refusal ∙ pick-false (fine y.refusal) _ _ q) ∙ q)

          -- the form that was written is the form planned
          form-is : fine r.refusal ≡ true → with_times f y.times ≡ planned (read_form s).form
          form-is t = plan.form (was-fine t) ∙ ap (λ (q : Record). planned q.form) back

          handed-on : (b : Bool) → fine y.refusal ≡ b → Handed (loop_of (read_form s).form) (pair_of (read_form s).form) r.refusal r.cycle
          unfolding fine
          handed-on true t =
              let is : r.refusal ≡ refusal_of (planned f) (length out) =
              a.refusal ∙ pick_true (fine y.refusal) _ _ t ∙ ap (λ (g : Form). refusal_of g (length out)) (plan.form t) in
              let w = writes f read.good read.held (ap fine (sym plan.refusal) ∙ t) (length out) in
              let late : (number_of r.refusal ≡ 0) ⊎ (number_of r.refusal ≡ 18) = ⊎_elim (λ q. inl (ap number_of (is ∙ q))) (λ q. inr (ap number_of (is ∙ q))) w in
              handed-none _ _ r.refusal r.cycle
              (λ q. ⊎_elim (λ k. omega arith) (λ k. omega arith) late)
              (λ q. ⊎_elim (λ k. omega arith) (λ k. omega arith) late)
              (a.cycle ∙ here.handed.none (λ q. both_ways t (ap fine q)) (λ q. both_ways t (ap fine q)))
          handed-on false t =
              let is : r.refusal ≡ y.refusal = a.refusal ∙ pick-false (fine y.refusal) _ _ t in
              subst (λ (c : Cycle). Handed (loop_of (read_form s).form) (pair_of (read_form s).form) r.refusal c) (sym a.cycle)
              (subst (λ (q : Verdict). Handed (loop_of (read_form s).form) (pair_of (read_form s).form) q y.cycle) (sym is) here.handed)

          -- what becomes of the plan
          pub entry-planned : RecordScheduled asked planned turned s out last r
          unfolding schedule_record
          entry-planned = record {
            refusal =
                a.refusal
                ∙ pick_same (fine y.refusal) _ _ _ (λ t. ap (λ (g : Form). refusal_of g (length out)) (plan.form t))
                ∙ ap (λ (q : Verdict). pick (fine q) (refusal_of (planned f) (length out)) q) plan.refusal
                ∙ sym (read.asks (schedule_refusal asked planned turned (length out)));
            size = a.size ∙ pick_same (fine r.refusal) _ _ 0 (λ t. ap (λ (g : Form). length (layout g)) (form-is t));
            rotations = a.rotations ∙ pick_same (fine r.refusal) _ _ 0 (λ t. here.rotations (was-fine t));
            buffer = a.buffer ∙ pick_same (fine r.refusal) _ _ out (λ t. ap (λ (g : Form). sets out 0 (layout g)) (form-is t));
            handed = handed-on (fine y.refusal) refl;
          }

      -- what is refused of the form: nothing is written
      pub entry-refused : (before : Timetable) (e : Refused) → Planned asked planned turned f (plan_in before (Err e)) → (r : Result Rewritten Refused) → IsErrAnd r (λ y. y ≡ e)
          → RecordScheduled asked planned turned s out out (scheduled_in r)
      entry-refused before e plan r handed_on =
          let told = err_from_is_err_and r handed_on in
          rw (told.1, told.2) (entry-planned (plan_in before (Err e)) plan out _ (plan-refused f (plan_in before (Err e)) out (refused_fine e.refusal)))
