-- Demand 3. What the judge accepts runs, step for step, to the plain loop's values; what it refuses gets stuck.
-- Assumes nothing.
use Rattle.std.specs.Prelude.{◌≡◌, true, ◌≢◌, List, ℕ, suc, ◌+◌, ◌*◌, ◌≤◌, ◌<◌, eqb, ltb, length, get_or, None}
use Rattle.std.proofs.Math.Path.{refl, sym, ap, subst}
use Rattle.std.proofs.Common.{◌∙◌, arith, ne_eqb, le-ltb}
use Rattle.lists.specs.Pick.{pick_true, pick-false}
use Rattle.answer.specs.Refused.{fine}
use Rattle.form.specs.declared.Form.{Form}
use Rattle.form.specs.Ranges.{WellFormed}
use Rattle.field.specs.Number.{Bytes}
use Rattle.reader.specs.Reading.{read_form}
use Rattle.record.specs.Read as reading
use Rattle.record.specs.ReadFirst.{first-asked, neither-refused}
use Rattle.legal.specs.Loop.{Loop, Pair, loop_of, graph_of, pair_of}
use Rattle.legal.specs.Shape.{Sound, Starting, sound-form}
use Rattle.legal.specs.Knots.{Free}
use Rattle.legal.specs.Paced.{legal-free}
use Rattle.legal.specs.Judging.{judge_of}
use Rattle.legal.specs.Judged as judging
use Rattle.judge.specs.Outcome.{Ruling}
use Rattle.judge.specs.Judgement.{judge_record, RecordJudgement}
use Rattle.machine.specs.Values.{place_of}
use Rattle.machine.specs.Plain.{PlainLoop}
use Rattle.machine.specs.Run.{depth, run_steps, run_of}
use Rattle.machine.specs.Unique.{unique}
use Rattle.machine.specs.Begins.{blank}
use Rattle.machine.specs.Ended.{KeptFrom, EndsAt, ended, values-kept, finish-kept}
use Rattle.machine.specs.Judges as judges
use Rattle.plain.specs.Outcome.{Looped}
use Rattle.plain.specs.Answer.{RecordLooped}
use Rattle.run.specs.Outcome.{Stepped}
use Rattle.run.specs.Running.{room_asked, run_asked, asked, ran_of, RecordRun}

-- a well-formed form, any start values, any number of iterations, any buffers with room for them
module _ (f : Form) (w : WellFormed f) (starts : List ℕ) (k : ℕ) (values finish : List ℕ)
    (room : k * (loop_of f).graph.nodes ≤ length values) (room' : k * (loop_of f).graph.nodes ≤ length finish) where
  -- accepted: no operation ever begins before its operands are finished or without a free unit
  pub accepted-runs : judge_of f ≡ None → (run_of (loop_of f) (pair_of f) starts k values finish).refusal ≡ None
  accepted-runs = judges.accepted-runs f w starts k values finish room room'

  -- and each value of each iteration is the plain loop's
  pub accepted-values : judge_of f ≡ None → PlainLoop (loop_of f) starts k (run_of (loop_of f) (pair_of f) starts k values finish).values
  accepted-values = judges.accepted-values f w starts k values finish room room'

  -- refused, with at least one iteration more than the depth: the run gets stuck
  pub refused-sooner : f.header.length ≢ 0 → judge_of f ≢ None → depth (loop_of f) (pair_of f) + 1 ≤ k → (run_of (loop_of f) (pair_of f) starts k values finish).refusal ≢ None
  refused-sooner = judges.refused-stuck f w starts k values finish room room'

  -- so it does with the depth plus sixteen
  pub refused-stuck : f.header.length ≢ 0 → judge_of f ≢ None → depth (loop_of f) (pair_of f) + 16 ≤ k → (run_of (loop_of f) (pair_of f) starts k values finish).refusal ≢ None
  refused-stuck n j d = refused-sooner n j (omega arith)

-- the plain loop's equations have one table at most, where there is no knot
pub plain-one : (g : Loop) (s : Sound g) (starts : List ℕ) (k : ℕ) (xs ys : List ℕ) → PlainLoop g starts k xs → PlainLoop g starts k ys → Free g
    → (i v : ℕ) → i < k → v < g.graph.nodes → get_or xs (place_of g starts i v) 0 ≡ get_or ys (place_of g starts i v) 0
plain-one = unique

-- ---- the same, of what the entry points answer for a record

module _ (s : List ℕ) (bytes : Bytes s) (k : ℕ) (starts values₀ finish₀ values finish : List ℕ)
    (r : Stepped) (ran : RecordRun s k starts values₀ finish₀ values finish r)
    (lent : 15 * (read_form s).form.header.nodes ≤ length starts)
    (room : k * (read_form s).form.header.nodes ≤ length values₀)
    (room' : k * (read_form s).form.header.nodes ≤ length finish₀) where
  -- what is read, has a schedule and has room is run
  begun : fine (read_form s).refusal ≡ true → (read_form s).form.header.length ≢ 0 → asked s k starts values₀ finish₀ ≡ None
  unfolding asked room_asked
  begun e n =
      first-asked s (read_form s) refl (λ f. run_asked f k starts values₀ finish₀) e
      ∙ pick-false (eqb (read_form s).form.header.length 0) _ _ (ne_eqb _ _ n)
      ∙ pick-false (ltb (length starts) (15 * (read_form s).form.header.nodes)) _ _ (le-ltb _ _ lent)
      ∙ pick-false (ltb (length values₀) (k * (read_form s).form.header.nodes)) _ _ (le-ltb _ _ room)
      ∙ pick-false (ltb (length finish₀) (k * (read_form s).form.header.nodes)) _ _ (le-ltb _ _ room')

  module _ (e : fine (read_form s).refusal ≡ true) (n : (read_form s).form.header.length ≢ 0) where
    begun-fine : fine (asked s k starts values₀ finish₀) ≡ true
    unfolding fine
    begun-fine = ap fine (begun e n)

    refusal_is : r.refusal ≡ (ran_of (read_form s).form k starts values₀ finish₀).refusal
    refusal_is = ran.refusal ∙ pick_true _ _ _ begun-fine

    values-are : values ≡ (ran_of (read_form s).form k starts values₀ finish₀).values
    values-are = ran.values-are ∙ pick_true _ _ _ begun-fine

    finish-is : finish ≡ (ran_of (read_form s).form k starts values₀ finish₀).finish
    finish-is = ran.finish-is ∙ pick_true _ _ _ begun-fine

  module _ (j : Ruling) (judged : RecordJudgement s j) where
    -- a record that the judge accepts was read, and its form is accepted
    accepts : j.refusal ≡ None → (fine (read_form s).refusal ≡ true) × (judge_of (read_form s).form ≡ None)
    unfolding judge_record fine
    accepts q =
        let t = neither-refused s judge_of (ap fine (sym judged.refusal ∙ q)) in
        (t.0, sym (first-asked s (read_form s) refl judge_of t.0) ∙ sym judged.refusal ∙ q)

    -- accepted: the run is not refused, its steps are (K + D) * L
    pub accepted-record-runs : j.refusal ≡ None → (r.refusal ≡ None) × (r.steps ≡ (k + depth (loop_of (read_form s).form) (pair_of (read_form s).form)) * (read_form s).form.header.length)
    unfolding fine run_steps loop_of graph_of pair_of
    accepted-record-runs q =
        let a = accepts q in
        let f : Form = (read_form s).form in
        let w : WellFormed f = reading.read-well-formed s bytes a.0 in
        let n : f.header.length ≢ 0 = (judging.judge-accepts f w a.1).0 in
        let none : r.refusal ≡ None = refusal_is a.0 n ∙ accepted-runs f w starts k values₀ finish₀ room room' a.1 in
        (none, ran.steps ∙ pick_true (fine r.refusal) _ _ (ap fine none))

    -- and each value of each iteration is what the plain loop leaves at its place
    pub accepted-record-values : j.refusal ≡ None → (before after : List ℕ) (x : Looped) → RecordLooped s k starts before after x → x.refusal ≡ None
        → (i v : ℕ) → i < k → v < (read_form s).form.header.nodes → get_or values (i * (read_form s).form.header.nodes + v) 0 ≡ get_or after (i * (read_form s).form.header.nodes + v) 0
    unfolding fine loop_of graph_of
    accepted-record-values q before after x looped fits i v l h =
        let a = accepts q in
        let f : Form = (read_form s).form in
        let w : WellFormed f = reading.read-well-formed s bytes a.0 in
        let legal = judging.judge-accepts f w a.1 in
        let mine : PlainLoop (loop_of f) starts k values = subst (PlainLoop (loop_of f) starts k) (sym (values-are a.0 legal.0)) (accepted-values f w starts k values₀ finish₀ room room' a.1) in
        plain-one (loop_of f) (sound-form f w) starts k values after mine (looped.done (ap fine fits)).plain (legal-free (loop_of f) (pair_of f) (sound-form f w) legal.1) i v l h

    -- refused for its pair, with at least the depth plus sixteen iterations: stuck
    pub refused-record-stuck : fine (read_form s).refusal ≡ true → (read_form s).form.header.length ≢ 0 → j.refusal ≢ None
        → depth (loop_of (read_form s).form) (pair_of (read_form s).form) + 16 ≤ k → r.refusal ≢ None
    unfolding judge_record loop_of graph_of
    refused-record-stuck e n no-judge d none =
        let f : Form = (read_form s).form in
        refused-stuck f (reading.read-well-formed s bytes e) starts k values₀ finish₀ room room' n
        (λ q. no-judge (judged.refusal ∙ first-asked s (read_form s) refl judge_of e ∙ q)) d (sym (refusal_is e n) ∙ none)

-- ---- how a run ends

-- with every node of every iteration issued in its run step, or stopped with the earlier issues alone; places past the run stay
module _ (g : Loop) (p : Pair) (s : Sound g) (b : Starting g p) (starts : List ℕ) (k : ℕ) (values finish : List ℕ)
    (room : k * g.graph.nodes ≤ length values) (room' : k * g.graph.nodes ≤ length finish) where
  pub run_ends : EndsAt g p starts k (blank g k values finish) (suc (run_steps g p starts k) * g.graph.nodes) (run_of g p starts k values finish)
  run_ends = ended g p s b starts k values finish room room'

  pub run-keeps-values : KeptFrom (k * g.graph.nodes) values (run_of g p starts k values finish).values
  run-keeps-values = values-kept g p s b starts k values finish room room'

  pub run-keeps-finish : KeptFrom (k * g.graph.nodes) finish (run_of g p starts k values finish).finish
  run-keeps-finish = finish-kept g p s b starts k values finish room room'
