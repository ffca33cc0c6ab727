-- Demand 1. Every entry point ends with an answer or with the refusal that comes first, and a refusal alters no buffer.
-- Each contract leaves one possibility: two answers that meet it on the same input, with the buffers they leave, are equal.
-- Assumes nothing.
use Rattle.std.specs.Prelude.{◌≡◌, true, false, List, ℕ, length, ◌≢◌, Bool, refl, ltb, None, Some}
use Rattle.std.proofs.Common.{sym, ◌∙◌, true≢false, ap}
use lib.Seq.{sets}
use Rattle.lists.specs.Pick.{pick, pick-false}
use Rattle.answer.specs.Refused.{Verdict, number_of, fine}
use Rattle.form.specs.declared.Form.{Form}
use Rattle.form.specs.Outcome.{Added}
use Rattle.form.specs.declared.Class.{Class}
use Rattle.form.specs.declared.Node.{Node}
use Rattle.form.specs.declared.Edge.{Edge}
use Rattle.form.specs.Adding.{class_added, node_added, edge_added}
use Rattle.reader.specs.Outcome.{Record}
use Rattle.reader.specs.Reading.{read_form}
use Rattle.writer.specs.Outcome.{Written}
use Rattle.writer.specs.Writing.{refusal_of, written, buffer_after}
use Rattle.rsk_c.specs.Rewrite.{rewritten, rewritten_out, rewritten_answer}
use Rattle.answer.specs.declared.Cycle.{Cycle}
use Rattle.answer.specs.declared.Refusal.TheVariants as refusal
use Rattle.legal.specs.Loop.{Loop, Pair}
use Rattle.legal.specs.Handed.{Handed}
use Rattle.judge.specs.Outcome.{Ruling}
use Rattle.judge.specs.Judgement.{RecordJudgement}
use Rattle.fit.specs.Retimed.{fitted_form}
use Rattle.fit.specs.Fitting.{fit_of, RecordFitted}
use Rattle.writer.specs.Layout.{layout}
use Rattle.plans.specs.Outcome.{Scheduled}
use Rattle.plans.specs.Scheduling.{RecordScheduled, unturned}
use Rattle.field.specs.Number.{Bytes}
use Rattle.run.specs.Outcome.{Stepped}
use Rattle.run.specs.Running.{asked, steps_of, RecordRun}
use Rattle.plain.specs.Outcome.{Looped}
use Rattle.plain.specs.Answer.{RecordLooped}
use Rattle.plain.specs.Only as loops
use Rattle.floor.specs.Outcome.{Floored}
use Rattle.floor_part.specs.Parts as part
use Rattle.floor.specs.Floor.{RecordFloored}
use Rattle.listing.specs.Outcome.{Listed}
use Rattle.listing.specs.Lines.{listing_of, listed, listed_buffer}

-- what a definition gives is one thing
pub settled {ℓ} : {A : Type ℓ} {x : A} (a b : A) → a ≡ x → b ≡ x → a ≡ b
settled a b p q = p ∙ sym q

-- adding a class, a node, an edge
pub add-class-settled : (f : Form) (k : Class) (a b : Added) → a ≡ class_added f k → b ≡ class_added f k → a ≡ b
add-class-settled f k = settled

pub add-node-settled : (f : Form) (k : Node) (a b : Added) → a ≡ node_added f k → b ≡ node_added f k → a ≡ b
add-node-settled f k = settled

pub add-edge-settled : (f : Form) (k : Edge) (a b : Added) → a ≡ edge_added f k → b ≡ edge_added f k → a ≡ b
add-edge-settled f k = settled

-- reading
pub read-settled : (s : List ℕ) (a b : Record) → a ≡ read_form s → b ≡ read_form s → a ≡ b
read-settled s = settled

-- what writing answers, and the buffer it leaves
pub record Wrote (f : Form) (out : List ℕ) (r : Written) (after : List ℕ) : Type 0 where
  pub answer : r ≡ written f (length out)
  pub buffer : after ≡ buffer_after f out

pub write-settled : (f : Form) (out : List ℕ) (a b : Written) (after again : List ℕ) → Wrote f out a after → Wrote f out b again
    → (a ≡ b) × (after ≡ again)
write-settled f out a b after again p q = (settled a b p.answer q.answer, settled after again p.buffer q.buffer)

-- a form that is refused leaves the buffer as it was
pub write-refused : (f : Form) (out : List ℕ) → fine (refusal_of f (length out)) ≡ false → buffer_after f out ≡ out
unfolding buffer_after
write-refused f out e = pick-false (fine (refusal_of f (length out))) _ out e

-- what rsk_rewrite answers, the buffer and the answer's places
pub record Rewrote (s out : List ℕ) (r : ℕ) (after places : List ℕ) : Type 0 where
  pub number : r ≡ number_of (rewritten s (length out)).refusal
  pub buffer : after ≡ rewritten_out s out
  pub answer : places ≡ rewritten_answer s (length out)

pub rewrite-settled : (s out : List ℕ) (a b : ℕ) (after again places others : List ℕ) → Rewrote s out a after places → Rewrote s out b again others
    → (a ≡ b) × (after ≡ again) × (places ≡ others)
rewrite-settled s out a b after again places others p q = (
  settled a b p.number q.number,
  settled after again p.buffer q.buffer,
  settled places others p.answer q.answer,
)

-- a record that rsk_rewrite refuses leaves the buffer as it was
pub rewrite-refused : (s out : List ℕ) → fine (rewritten s (length out)).refusal ≡ false → rewritten_out s out ≡ out
unfolding rewritten rewritten_out written pick
rewrite-refused s out e = go (fine (read_form s).refusal) e
  where
    go : (b : Bool)
        → fine (pick b (written (read_form s).form (length out)) (record { refusal = (read_form s).refusal; size = 0 })).refusal ≡ false
        → pick b (buffer_after (read_form s).form out) out ≡ out
    go true e = write-refused (read_form s).form out e
    go false e = refl

-- where no cycle is handed over, it is the empty one
pub cycle-settled : (g : Loop) (p : Pair) (r q : Verdict) (c d : Cycle) → Handed g p r c → Handed g p q d → r ≡ q
    → r ≢ Some refusal.Knot → r ≢ Some refusal.NoRetiming → c ≡ d
cycle-settled g p r q c d h k e a b = settled c d (h.none a b) (k.none (λ t. a (e ∙ t)) (λ t. b (e ∙ t)))

-- judging: the refusal and its details are settled, and so is the cycle where none is handed over
pub judge-settled : (s : List ℕ) (a b : Ruling) → RecordJudgement s a → RecordJudgement s b
    → (a.refusal ≡ b.refusal) × (a.refusal ≢ Some refusal.Knot → a.refusal ≢ Some refusal.NoRetiming → a.cycle ≡ b.cycle)
judge-settled s a b p q =
    let same : a.refusal ≡ b.refusal = settled a.refusal b.refusal p.refusal q.refusal in
    (same, λ k n. cycle-settled _ _ _ _ _ _ p.handed q.handed same k n)

-- first schedules, rotations and searches, whatever is asked and planned: all but the knot handed over
module _ (asked : Form → Verdict) (planned : Form → Form) (turned : Form → ℕ) (s out : List ℕ) where
  pub schedule-settled : (after again : List ℕ) (a b : Scheduled) → RecordScheduled asked planned turned s out after a → RecordScheduled asked planned turned s out again b
      → (a.refusal ≡ b.refusal) × (a.size ≡ b.size) × (a.rotations ≡ b.rotations) × (after ≡ again)
      × (a.refusal ≢ Some refusal.Knot → a.refusal ≢ Some refusal.NoRetiming → a.cycle ≡ b.cycle)
  schedule-settled after again a b p q =
      let same : a.refusal ≡ b.refusal = settled a.refusal b.refusal p.refusal q.refusal in (
        same,
        settled a.size b.size p.size (q.size ∙ ap (λ r. pick (fine r) (length (layout (planned (read_form s).form))) 0) (sym same)),
        settled a.rotations b.rotations p.rotations (q.rotations ∙ ap (λ r. pick (fine r) (turned (read_form s).form) 0) (sym same)),
        settled after again p.buffer (q.buffer ∙ ap (λ r. pick (fine r) (sets out 0 (layout (planned (read_form s).form))) out) (sym same)),
        λ k n. cycle-settled _ _ _ _ _ _ p.handed q.handed same k n,
      )

  -- a refusal leaves the buffer as it was
  pub schedule-refused : (after : List ℕ) (a : Scheduled) → RecordScheduled asked planned turned s out after a → fine a.refusal ≡ false → after ≡ out
  schedule-refused after a p e = p.buffer ∙ pick-false (fine a.refusal) _ out e

-- fitting: the refusal, the size and the buffer are settled, and so is the cycle where none is handed over
pub fit-settled : (s out after again : List ℕ) (a b : Scheduled) → RecordFitted s out after a → RecordFitted s out again b
    → (a.refusal ≡ b.refusal) × (a.size ≡ b.size) × (a.rotations ≡ b.rotations) × (after ≡ again)
    × (a.refusal ≢ Some refusal.Knot → a.refusal ≢ Some refusal.NoRetiming → a.cycle ≡ b.cycle)
fit-settled s out = schedule-settled fit_of fitted_form unturned s out

-- a record that the fit refuses leaves the buffer as it was
pub fit_refused : (s out after : List ℕ) (a : Scheduled) → RecordFitted s out after a → fine a.refusal ≡ false → after ≡ out
fit_refused s out = schedule-refused fit_of fitted_form unturned s out

-- a run: refusal, steps and both buffers
pub run_settled : (s : List ℕ) (k : ℕ) (starts values finish values₁ finish₁ values₂ finish₂ : List ℕ) (a b : Stepped)
    → RecordRun s k starts values finish values₁ finish₁ a → RecordRun s k starts values finish values₂ finish₂ b
    → (a.refusal ≡ b.refusal) × (a.steps ≡ b.steps) × (values₁ ≡ values₂) × (finish₁ ≡ finish₂)
run_settled s k starts values finish values₁ finish₁ values₂ finish₂ a b p q =
    let same : a.refusal ≡ b.refusal = settled a.refusal b.refusal p.refusal q.refusal in (
      same,
      settled a.steps b.steps p.steps (q.steps ∙ ap (λ r. pick (fine r) (steps_of (read_form s).form k starts) 0) (sym same)),
      settled values₁ values₂ p.values-are q.values-are,
      settled finish₁ finish₂ p.finish-is q.finish-is,
    )

-- what is refused before a run begins leaves both buffers as they were
pub run-refused : (s : List ℕ) (k : ℕ) (starts values finish after after' : List ℕ) (a : Stepped)
    → RecordRun s k starts values finish after after' a → fine (asked s k starts values finish) ≡ false → (after ≡ values) × (after' ≡ finish)
run-refused s k starts values finish after after' a p e = (p.values-are ∙ pick-false _ _ _ e, p.finish-is ∙ pick-false _ _ _ e)

-- the plain loop: refusal and values, since its equations have one table
pub plain-settled : (s : List ℕ) → Bytes s → (k : ℕ) (starts before after again : List ℕ) (a b : Looped)
    → RecordLooped s k starts before after a → RecordLooped s k starts before again b → (a.refusal ≡ b.refusal) × (after ≡ again)
plain-settled = loops.settled

pub plain-refused : (s : List ℕ) (k : ℕ) (starts before after : List ℕ) (a : Looped) → RecordLooped s k starts before after a → fine a.refusal ≡ false → after ≡ before
plain-refused s k starts before after a p e = p.untouched e

-- the floor: refusal, floor and part are settled, and so is the cycle where none is handed over
pub floor-settled : (s : List ℕ) (a b : Floored) → RecordFloored s a → RecordFloored s b
    → (a.refusal ≡ b.refusal) × (a.floor ≡ b.floor) × (a.part ≡ b.part)
    × (a.refusal ≢ Some refusal.Knot → a.part ≢ part.Cycle → a.cycle ≡ b.cycle)
floor-settled s a b p q =
    let same : a.refusal ≡ b.refusal = settled a.refusal b.refusal p.refusal q.refusal in
    let named : a.part ≡ b.part = settled a.part b.part p.part (q.part ∙ ap (λ r. pick (fine r) (Rattle.floor.specs.Floor.part_of (Rattle.legal.specs.Loop.loop_of (read_form s).form)) part.None) (sym same)) in (
      same,
      settled a.floor b.floor p.floor (q.floor ∙ ap (λ r. pick (fine r) (Rattle.floor.specs.Parts.floor_length (Rattle.legal.specs.Loop.loop_of (read_form s).form)) 0) (sym same)),
      named,
      λ k n. settled a.cycle b.cycle (p.cycle.none k n) (q.cycle.none (λ t. k (same ∙ t)) (λ t. n (named ∙ t))),
    )

-- listing: what it answers, and the buffer it leaves
pub record ListedInto (s out : List ℕ) (r : Listed) (after : List ℕ) : Type 0 where
  pub answer : r ≡ listed s (length out)
  pub buffer : after ≡ listed_buffer s out

pub list-settled : (s out : List ℕ) (a b : Listed) (after again : List ℕ) → ListedInto s out a after → ListedInto s out b again
    → (a ≡ b) × (after ≡ again)
list-settled s out a b after again p q = (settled a b p.answer q.answer, settled after again p.buffer q.buffer)

-- a listing without room leaves the buffer as it was
pub list-refused : (s out : List ℕ) → fine (listed s (length out)).refusal ≡ false → listed_buffer s out ≡ out
unfolding listed listed_buffer pick fine
list-refused s out e = go (ltb (length out) (length (listing_of s))) e
  where
    go : (b : Bool)
        → fine (pick {A = Listed} b (record { refusal = Some (refusal.Room 0); size = 0 }) (record { refusal = None; size = length (listing_of s) })).refusal ≡ false
        → pick b out (lib.Seq.sets out 0 (listing_of s)) ≡ out
    go true e = refl
    go false e = absurd (true≢false e)
