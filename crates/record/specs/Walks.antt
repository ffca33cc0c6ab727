-- A row of known bytes, field after field: the cursor goes on past it, or stops at a field that is out of range.
-- Assumes nothing.
use Rattle.std.specs.Prelude.{◌≡◌, true, false, List, [], ◌∷◌, ℕ, ◌+◌, ◌-◌, ◌≤◌, ◌<◌, length, take, drop}
use Rattle.std.proofs.Math.Path.{refl}
use Rattle.std.proofs.Common.{sym, ap, ◌∙◌, ⊎_elim, add-zero, arith}
use Rattle.answer.specs.Refused.{Verdict, fine}
use Rattle.form.specs.declared.Class.{Class}
use Rattle.form.specs.declared.Node.{Node}
use Rattle.form.specs.declared.Edge.{Edge}
use Rattle.form.specs.declared.Operation.{Operation}
use Rattle.form.specs.declared.Operation.TheVariants.{Add, Sub, Mul}
use Rattle.form.specs.Ranges.{Within, GoodClass, GoodEdge}
use Rattle.field.specs.declared.Kind.{Kind}
use Rattle.field.specs.declared.Kind.TheVariants.{Machine, Node as node, Edge as edge, Start, Retiming}
use Rattle.field.specs.Outcome.{Cursor}
use Rattle.field.specs.Number.{Bytes, number_at, bytes_of, number_lt, number-take, number-drop}
use Rattle.field.specs.Taking.{taken, onward, wrong_at}
use Rattle.field.specs.Laws.{Outside, bad}
use Rattle.rows.specs.Rows.{latency_in, units_in, class_at, class_in, code_in, node_at, from_in, to_in, edge_at, start_in, start_at}
use Rattle.writer.specs.Layout.{code_of, class_bytes, node_bytes, edge_bytes, start_bytes}
use Rattle.record.specs.Rows.{slice-room}
use Rattle.record.specs.LayoutSize.{node-width, start-width}
use Rattle.record.specs.ReadRows.{Slot, slot_bytes, GoodSlot}
use Rattle.record.specs.Fields.{begun, got}

-- the cursor is fine and at the offset, or Q of its refusal
pub record Walks (Q : Verdict → Type 0) (at : ℕ) (c : Cursor) : Type 0 where
  pub on : fine c.refusal ≡ true → c ≡ onward at
  pub off : fine c.refusal ≡ false → Q c.refusal

-- a number within a known slice
pub slice-number : (s part : List ℕ) (at size width k : ℕ) → take size (drop at s) ≡ part → k + width ≤ size → number_at width s (at + k) ≡ number_at width part k
slice-number s part at size width k e h = sym (number-drop width s at k) ∙ sym (number-take width size (drop at s) k h) ∙ rw e

module _ (Q : Verdict → Type 0) (s : List ℕ) where
  -- a complete field goes on where its number is in range
  pub field-walks : (c : Cursor) (at to width low high : ℕ) (kind : Kind) → Walks Q at c → at + width ≤ length s → at + width ≡ to
      → ((Within low high (number_at width s at) → ⊥) → Q (wrong_at kind at)) → Walks Q to (taken s c width low high kind).next
  field-walks c at to width low high kind w room n q =
      let place : fine c.refusal ≡ true → c.at ≡ at = λ f. ap (λ (k : Cursor). k.at) (w.on f) in
      let stop : Outside s c width low high kind (taken s c width low high kind).next → Q (taken s c width low high kind).next.refusal =
      λ o. let a : c.at ≡ at = place o.begun in rw (o.wrong, a) (q (rw a at o.never)) in
      record {
        on = λ f. (got s c width low high kind f at to (w.on (begun s c width low high kind f)) n).next;
        off =
            λ f.
            ⊎_elim (λ b. rw b.1 (w.off b.0)) stop
            (bad s c width low high kind (λ g. let a : c.at ≡ at = place g in omega arith) f);
      }

-- the first number of a known slice
pub slice_first : (s part : List ℕ) (at size width : ℕ) → take size (drop at s) ≡ part → width ≤ size → number_at width s at ≡ number_at width part 0
slice_first s part at size width e h = rw add-zero at (slice-number s part at size width 0 e (omega arith))

-- the numbers of three bytes at an offset
pub record Three (s : List ℕ) (at x y z : ℕ) : Type 0 where
  pub room : at + 3 ≤ length s
  pub first : number_at 1 s at ≡ x
  pub second : number_at 1 s (at + 1) ≡ y
  pub third : number_at 1 s (at + 2) ≡ z

-- the numbers of a slice of three bytes
three : (s : List ℕ) (at x y z : ℕ) → take 3 (drop at s) ≡ x ∷ y ∷ z ∷ [] → Three s at x y z
unfolding number_at
three s at x y z e =
    record {
      room = slice-room s (x ∷ y ∷ z ∷ []) at 3 e refl (omega arith);
      first = slice_first s (x ∷ y ∷ z ∷ []) at 3 1 e (omega arith) ∙ omega arith;
      second = slice-number s (x ∷ y ∷ z ∷ []) at 3 1 1 e (omega arith) ∙ omega arith;
      third = slice-number s (x ∷ y ∷ z ∷ []) at 3 1 2 e (omega arith) ∙ omega arith;
    }

code-le : (o : Operation) → code_of o ≤ 2
code-le (Add k) = omega arith
code-le (Sub k) = omega arith
code-le (Mul k) = omega arith

-- the numbers of a node at an offset
pub record NodeNumbers (s : List ℕ) (at : ℕ) (k : Node) : Type 0 where
  pub room : at + 6 ≤ length s
  pub class : number_at 1 s at ≡ k.class
  pub code : number_at 1 s (at + 1) ≤ 2

node-numbers : (s : List ℕ) (at : ℕ) (k : Node) → take 6 (drop at s) ≡ node_bytes k → NodeNumbers s at k
unfolding number_at node_bytes
node-numbers s at k e =
    record {
      room = slice-room s (node_bytes k) at 6 e (node-width k) (omega arith);
      class = slice_first s (node_bytes k) at 6 1 e (omega arith) ∙ omega arith;
      code = omega (arith, slice-number s (node_bytes k) at 6 1 1 e (omega arith), code-le k.operation);
    }

-- the numbers of a start and a retiming at an offset
pub record SlotNumbers (s : List ℕ) (at : ℕ) (k : Slot) : Type 0 where
  pub room : at + 3 ≤ length s
  pub start : number_at 2 s at ≡ k.start.0
  pub retiming : number_at 1 s (at + 2) ≡ k.retiming

slot-numbers : (s : List ℕ) (at : ℕ) (k : Slot) → k.start.0 < 65536 → take 3 (drop at s) ≡ slot_bytes k → SlotNumbers s at k
unfolding number_at start_bytes bytes_of
slot-numbers s at k l e =
    record {
      room = slice-room s (slot_bytes k) at 3 e (start-width k.start.0 k.retiming) (omega arith);
      start = slice_first s (slot_bytes k) at 3 2 e (omega arith) ∙ omega arith;
      retiming = slice-number s (slot_bytes k) at 3 1 2 e (omega arith) ∙ omega arith;
    }

-- the rows of each table
module _ (Q : Verdict → Type 0) (s : List ℕ) (c : Cursor) (at to : ℕ) (w : Walks Q at c) where
  -- a class stops only where it is out of range
  pub class-walks : (k : Class) → take 3 (drop at s) ≡ class_bytes k → at + 3 ≡ to → ((GoodClass k → ⊥) → (a : ℕ) → Q (wrong_at Machine a))
      → Walks Q to (class_at s c).next
  unfolding class_at class_bytes
  class-walks k e n q =
      let t : Three s at k.latency k.units k.pipelined = three s at k.latency k.units k.pipelined e in
      let w1 : Walks Q (at + 1) (latency_in s c).next =
      field-walks Q s c at (at + 1) 1 1 8 Machine w (omega (arith, t.room)) refl (λ o. q (λ g. o (omega (arith, t.first, g.latency))) at) in
      let w2 : Walks Q (at + 2) (units_in s c).next =
      field-walks Q s (latency_in s c).next (at + 1) (at + 2) 1 1 8 Machine w1 (omega (arith, t.room)) (omega arith) (λ o. q (λ g. o (omega (arith, t.second, g.units))) (at + 1)) in
      field-walks Q s (units_in s c).next (at + 2) to 1 0 1 Machine w2 (omega (arith, t.room)) (omega arith) (λ o. q (λ g. o (omega (arith, t.third, g.pipelined))) (at + 2))

  -- a node stops only where its class is out of range
  pub node-walks : (classes : ℕ) (k : Node) → Bytes s → take 6 (drop at s) ≡ node_bytes k → at + 6 ≡ to → ((k.class < classes → ⊥) → (a : ℕ) → Q (wrong_at node a))
      → Walks Q to (node_at s c classes).next
  unfolding node_at
  node-walks classes k b e n q =
      let t : NodeNumbers s at k = node-numbers s at k e in
      let w1 : Walks Q (at + 1) (class_in s c classes).next =
      field-walks Q s c at (at + 1) 1 0 (classes - 1) node w (omega (arith, t.room)) refl (λ o. q (λ g. o (omega (arith, t.class))) at) in
      let w2 : Walks Q (at + 2) (code_in s c classes).next =
      field-walks Q s (class_in s c classes).next (at + 1) (at + 2) 1 0 2 node w1 (omega (arith, t.room)) (omega arith) (λ o. absurd (o (omega (arith, t.code)))) in
      field-walks Q s (code_in s c classes).next (at + 2) to 4 0 4294967295 node w2 (omega (arith, t.room)) (omega arith)
      (λ o. absurd (o (omega (arith, number_lt s b 4 (at + 2)))))

  -- an edge stops only where it is out of range
  pub edge-walks : (nodes : ℕ) (k : Edge) → take 3 (drop at s) ≡ edge_bytes k → at + 3 ≡ to → ((GoodEdge nodes k → ⊥) → (a : ℕ) → Q (wrong_at edge a))
      → Walks Q to (edge_at s c nodes).next
  unfolding edge_at edge_bytes
  edge-walks nodes k e n q =
      let t : Three s at k.from k.to k.delays = three s at k.from k.to k.delays e in
      let w1 : Walks Q (at + 1) (from_in s c nodes).next =
      field-walks Q s c at (at + 1) 1 0 (nodes - 1) edge w (omega (arith, t.room)) refl (λ o. q (λ g. o (omega (arith, t.first, g.from))) at) in
      let w2 : Walks Q (at + 2) (to_in s c nodes).next =
      field-walks Q s (from_in s c nodes).next (at + 1) (at + 2) 1 0 (nodes - 1) edge w1 (omega (arith, t.room)) (omega arith) (λ o. q (λ g. o (omega (arith, t.second, g.to))) (at + 1)) in
      field-walks Q s (to_in s c nodes).next (at + 2) to 1 0 15 edge w2 (omega (arith, t.room)) (omega arith) (λ o. q (λ g. o (omega (arith, t.third, g.delays))) (at + 2))

  -- a start or a retiming stops only where it is out of range
  pub start-walks : (last latency : ℕ) (k : Slot) → k.start.0 < 65536 → take 3 (drop at s) ≡ slot_bytes k → at + 3 ≡ to
      → ((GoodSlot last latency k → ⊥) → (a : ℕ) → Q (wrong_at Start a) × Q (wrong_at Retiming a)) → Walks Q to (start_at s c last latency).next
  unfolding start_at
  start-walks last latency k l e n q =
      let t : SlotNumbers s at k = slot-numbers s at k l e in
      let w1 : Walks Q (at + 2) (start_in s c last latency).next =
      field-walks Q s c at (at + 2) 2 1 (last + 1 - latency) Start w (omega (arith, t.room)) refl (λ o. (q (λ g. o (omega (arith, t.start, g.begins, g.ends))) at).0) in
      field-walks Q s (start_in s c last latency).next (at + 2) to 1 0 63 Retiming w1 (omega (arith, t.room)) (omega arith) (λ o. (q (λ g. o (omega (arith, t.retiming, g.retiming))) (at + 2)).1)
