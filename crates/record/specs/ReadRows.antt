-- A row that was read: it is in range, and its bytes are those it was read from.
-- Assumes nothing.
use Rattle.std.specs.Prelude.{◌≡◌, List, [], ◌∷◌, eqb, length, take, drop}
use Rattle.std.proofs.Math.Path.{refl}
use Rattle.std.proofs.Common.{sym, arith, eqb-true, take-add}
use Rattle.std.proofs.Math.Bool.{true}
use Prim.Native.Nat.{ℕ, suc, ◌+◌, ◌-◌, ◌≤◌, ◌<◌}
use Rattle.std.proofs.lemmas.Bool.{eqb-false}
use Rattle.std.proofs.Math.Seq.{drop-drop}
use Rattle.lists.specs.Pick.{pick_ind}
use Rattle.answer.specs.Refused.{fine}
use Rattle.form.specs.declared.Node.{Node}
use Rattle.form.specs.declared.BodyStep.{BodyStep}
use Rattle.form.specs.Ranges.{GoodClass, GoodEdge}
use Rattle.field.specs.declared.Kind.TheVariants.{Machine, Node as node, Edge as edge, Start, Retiming}
use Rattle.field.specs.Outcome.{Cursor}
use Rattle.field.specs.Number.{Bytes, number_at, bytes-number}
use Rattle.field.specs.Taking.{onward}
use Rattle.rows.specs.Rows.{latency_in, units_in, pipelined_in, class_at, operation_of, class_in, code_in, constant_in, node_at, from_in, to_in, delays_in, edge_at, start_in, retiming_in, start_at}
use Rattle.writer.specs.Layout.{code_of, constant_of, class_bytes, node_bytes, edge_bytes, start_bytes}
use Rattle.record.specs.Fields.{Got, begun, got, slice-cons}

slice-three : (s : List ℕ) (at : ℕ) → at + 3 ≤ length s → take 3 (drop at s) ≡ number_at 1 s at ∷ number_at 1 s (suc at) ∷ number_at 1 s (suc (suc at)) ∷ []
slice-three s at h = rw (slice-cons s at 2 (omega arith), slice-cons s (suc at) 1 (omega arith), slice-cons s (suc (suc at)) 0 (omega arith))

-- a node of a class that there is, with a constant of 32 bits
pub record GoodNode (classes : ℕ) (k : Node) : Type 0 where
  pub class : k.class < classes
  pub constant : constant_of k.operation < 4294967296

-- a node's start and retiming
pub record Slot : Type 0 where
  pub start : BodyStep
  pub retiming : ℕ

-- the bytes of a node's start and retiming
abbrev pub slot_bytes : Slot → List ℕ
slot_bytes k = start_bytes k.start.0 k.retiming

-- a start from which a node of a latency ends in the body, and a retiming of at most 63
pub record GoodSlot (length latency : ℕ) (k : Slot) : Type 0 where
  pub begins : 1 ≤ k.start.0
  pub ends : k.start.0 + latency ≤ length + 1
  pub retiming : k.retiming ≤ 63

-- what is known of a row that was read
pub record RowRead {A : Type 0} (s : List ℕ) (at to width : ℕ) (bytes : A → List ℕ) (Good : A → Type 0) (past : Cursor) (a : A) : Type 0 where
  pub next : past ≡ onward to
  pub laid : bytes a ≡ take width (drop at s)
  pub good : Good a

-- the operation of a code is the one that has it
pub code-of : (code k : ℕ) → code ≤ 2 → code_of (operation_of code k) ≡ code
unfolding operation_of
code-of code k l =
    pick_ind (λ o. code_of o ≡ code) (eqb code 0) _ _ (λ e. sym (eqb-true code 0 e))
    (λ z. pick_ind (λ o. code_of o ≡ code) (eqb code 1) _ _ (λ e. sym (eqb-true code 1 e))
    (λ e. omega (arith, eqb-false code 0 z, eqb-false code 1 e)))

-- the operation of a code has the constant given
pub constant-of : (code k : ℕ) → constant_of (operation_of code k) ≡ k
unfolding operation_of
constant-of code k =
    pick_ind (λ o. constant_of o ≡ k) (eqb code 0) _ _ (λ e. refl) (λ z. pick_ind (λ o. constant_of o ≡ k) (eqb code 1) _ _ (λ e. refl) (λ e. refl))

module _ (s : List ℕ) (b : Bytes s) (c : Cursor) (at to : ℕ) (e : c ≡ onward at) where
  -- a class that is not refused was read
  pub class-row : at + 3 ≡ to → fine (class_at s c).next.refusal ≡ true → RowRead s at to 3 class_bytes GoodClass (class_at s c).next (class_at s c).class
  unfolding class_at class_bytes
  class-row n f =
      let f2 : fine (units_in s c).next.refusal ≡ true = begun s (units_in s c).next 1 0 1 Machine f in
      let f1 : fine (latency_in s c).next.refusal ≡ true = begun s (latency_in s c).next 1 1 8 Machine f2 in
      let l : Got s at (suc at) 1 1 8 (latency_in s c) = got s c 1 1 8 Machine f1 at (suc at) e (omega arith) in
      let u : Got s (suc at) (suc (suc at)) 1 1 8 (units_in s c) = got s (latency_in s c).next 1 1 8 Machine f2 (suc at) (suc (suc at)) l.next (omega arith) in
      let p : Got s (suc (suc at)) to 1 0 1 (pipelined_in s c) = got s (units_in s c).next 1 0 1 Machine f (suc (suc at)) to u.next (omega arith) in
      record {
        next = p.next;
        laid = rw (slice-three s at (omega arith), l.number, u.number, p.number);
        good = record { latency = (l.at_least, l.at_most); units = (u.at_least, u.at_most); pipelined = p.at_most };
      }

  module _ (classes : ℕ) where
    -- a node that is not refused was read
    pub node_row : 0 < classes → at + 6 ≡ to → fine (node_at s c classes).next.refusal ≡ true
        → RowRead s at to 6 node_bytes (GoodNode classes) (node_at s c classes).next (node_at s c classes).node
    unfolding node_at node_bytes
    node_row z n f =
        let f2 : fine (code_in s c classes).next.refusal ≡ true = begun s (code_in s c classes).next 4 0 4294967295 node f in
        let f1 : fine (class_in s c classes).next.refusal ≡ true = begun s (class_in s c classes).next 1 0 2 node f2 in
        let k : Got s at (suc at) 1 0 (classes - 1) (class_in s c classes) = got s c 1 0 (classes - 1) node f1 at (suc at) e (omega arith) in
        let o : Got s (suc at) (suc (suc at)) 1 0 2 (code_in s c classes) = got s (class_in s c classes).next 1 0 2 node f2 (suc at) (suc (suc at)) k.next (omega arith) in
        let q : Got s (suc (suc at)) to 4 0 4294967295 (constant_in s c classes) =
        got s (code_in s c classes).next 4 0 4294967295 node f (suc (suc at)) to o.next (omega arith) in
        let code : ℕ = (code_in s c classes).value in
        let constant : ℕ = (constant_in s c classes).value in
        record {
          next = q.next;
          laid =
              rw (slice-cons s at 5 (omega arith), slice-cons s (suc at) 4 (omega arith), ← bytes-number s b 4 (suc (suc at)) (omega arith), code-of code constant o.at_most, constant-of code constant, k.number, o.number, q.number);
          good = record { class = omega (arith, k.at_most); constant = rw (constant-of code constant) (omega (arith, q.at_most)) };
        }

  module _ (nodes : ℕ) where
    -- an edge that is not refused was read
    pub edge_row : 0 < nodes → at + 3 ≡ to → fine (edge_at s c nodes).next.refusal ≡ true
        → RowRead s at to 3 edge_bytes (GoodEdge nodes) (edge_at s c nodes).next (edge_at s c nodes).edge
    unfolding edge_at edge_bytes
    edge_row z n f =
        let f2 : fine (to_in s c nodes).next.refusal ≡ true = begun s (to_in s c nodes).next 1 0 15 edge f in
        let f1 : fine (from_in s c nodes).next.refusal ≡ true = begun s (from_in s c nodes).next 1 0 (nodes - 1) edge f2 in
        let u : Got s at (suc at) 1 0 (nodes - 1) (from_in s c nodes) = got s c 1 0 (nodes - 1) edge f1 at (suc at) e (omega arith) in
        let v : Got s (suc at) (suc (suc at)) 1 0 (nodes - 1) (to_in s c nodes) = got s (from_in s c nodes).next 1 0 (nodes - 1) edge f2 (suc at) (suc (suc at)) u.next (omega arith) in
        let d : Got s (suc (suc at)) to 1 0 15 (delays_in s c nodes) = got s (to_in s c nodes).next 1 0 15 edge f (suc (suc at)) to v.next (omega arith) in
        record {
          next = d.next;
          laid = rw (slice-three s at (omega arith), u.number, v.number, d.number);
          good = record { from = omega (arith, u.at_most); to = omega (arith, v.at_most); delays = d.at_most };
        }

  module _ (last latency : ℕ) where
    -- a start and a retiming that are not refused were read
    pub start-row : at + 3 ≡ to → fine (start_at s c last latency).next.refusal ≡ true
        → RowRead s at to 3 slot_bytes (GoodSlot last latency) (start_at s c last latency).next
        (record { start = (start_at s c last latency).start; retiming = (start_at s c last latency).retiming })
    unfolding start_at start_bytes
    start-row n f =
        let f1 : fine (start_in s c last latency).next.refusal ≡ true = begun s (start_in s c last latency).next 1 0 63 Retiming f in
        let u : Got s at (at + 2) 2 1 (last + 1 - latency) (start_in s c last latency) = got s c 2 1 (last + 1 - latency) Start f1 at (at + 2) e refl in
        let v : Got s (at + 2) to 1 0 63 (retiming_in s c last latency) = got s (start_in s c last latency).next 1 0 63 Retiming f (at + 2) to u.next (omega arith) in
        record {
          next = v.next;
          laid =
              rw (take-add 2 1 (drop at s), drop-drop 2 at s, slice-cons s (at + 2) 0 (omega arith), ← bytes-number s b 2 at (omega arith), u.number, v.number);
          good = record { begins = u.at_least; ends = omega (arith, u.at_least, u.at_most); retiming = v.at_most };
        }
