-- A form that was read is the form with the pair of its own timetable: its starts past the nodes are 0.
-- Assumes nothing.
use Rattle.std.specs.Prelude.{◌≡◌, true, ℕ, ◌≤◌, ◌<◌, eqb, length}
use Rattle.std.proofs.Math.Path.{sym}
use Rattle.std.proofs.Common.{ap, subst, ◌∙◌, arith, ext_get_or}
use mathlib.Core.List.{List, map}
use Rattle.std.proofs.Math.Decide.{dec_lt}
use Rattle.std.proofs.Math.ListN.{get_or}
use Rattle.std.proofs.lemmas.List.{length-map}
use Rattle.lists.specs.Pick.{pick_ind}
use Rattle.lists.specs.Filled.{filled, filled_at, filled-past, filled-length}
use Rattle.answer.specs.Refused.{fine}
use Rattle.form.specs.declared.Form.{Form}
use Rattle.form.specs.declared.BodyStep.{BodyStep}
use Rattle.form.specs.Places.{no_step, start_of, scheduled_of, scheduled, used}
use Rattle.field.specs.Number.{Bytes}
use Rattle.reader.specs.Outcome.{Record}
use Rattle.reader.specs.Reading.{read_form}
use Rattle.record.specs.FirstOf.{first_past}
use Rattle.record.specs.Read.{read-well-formed, read-used}
use Rattle.record.specs.ReadHeld.{read_held}
use Rattle.tables.specs.Times.{times_of}
use Rattle.plans.specs.Pairs.{as_body_step, with_steps, with_pair, with_times, SameButPair, step-at}

few-scheduled : (l n : ℕ) → scheduled_of l n ≤ n
unfolding scheduled_of
few-scheduled l n = pick_ind (λ (k : ℕ). k ≤ n) (eqb l 0) 0 n (λ _. omega arith) (λ _. omega arith)

module _ (f : Form) (few : f.header.nodes ≤ 64) (long : length f.start ≡ 64) (same : used f ≡ f) where
  -- a start past the nodes is 0
  start-past : (v : ℕ) → f.header.nodes ≤ v → v < 64 → get_or f.start v no_step ≡ no_step
  unfolding used
  start-past v h l =
      sym (ap (λ (g : Form). get_or g.start v no_step) same)
      ∙ first_past (scheduled f) no_step f.start v (omega (arith, few-scheduled f.header.length f.header.nodes)) (omega (arith, long))

  steps-kept : map as_body_step (filled 64 (start_of f) f.header.nodes) ≡ f.start
  steps-kept =
      let t : List ℕ = filled 64 (start_of f) f.header.nodes in
      let whole : length (map as_body_step t) ≡ 64 = length-map t as_body_step ∙ filled-length 64 (start_of f) f.header.nodes few in
      ext_get_or no_step (map as_body_step t) f.start (whole ∙ sym long) (λ v l.
      elim (dec_lt v f.header.nodes) [
        | yes h ↦ ap as_body_step (step-at t v ∙ filled_at 64 (start_of f) f.header.nodes v h)
        | no h ↦ ap as_body_step (step-at t v ∙ filled-past 64 (start_of f) f.header.nodes v (omega arith)) ∙ sym (start-past v (omega arith) (omega (arith, whole)))
      ])

  form-kept : SameButPair f f
  unfolding times_of with_times with_pair
  form-kept = sym (ap (λ (s : List BodyStep). with_steps f s f.header.length f.retiming) steps-kept)

pub read_kept : (s : List ℕ) (r : Record) → r ≡ read_form s → Bytes s → fine r.refusal ≡ true → SameButPair r.form r.form
read_kept s r back b e =
    let e' : fine (read_form s).refusal ≡ true = subst (λ (q : Record). fine q.refusal ≡ true) back e in
    subst (λ (q : Record). SameButPair q.form q.form) (sym back)
    (form-kept (read_form s).form (read-well-formed s b e').nodes.1 (read_held s b e').sized.start (read-used s b e'))
