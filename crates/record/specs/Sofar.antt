-- A record read so far: so many rows of each table are in the form as they stand in the bytes, in range, and the rest is unused.
-- Assumes nothing.
use Rattle.std.specs.Prelude.{◌≡◌, true, get_or}
use Rattle.std.proofs.Math.Path.{refl}
use Rattle.std.proofs.Common.{subst, ◌∙◌, arith}
use mathlib.Core.List.{List}
use Prim.Native.Nat.{ℕ, suc, ◌+◌, ◌*◌, ◌<◌}
use Rattle.std.proofs.Math.ListN.{length, length-set, length-replicate}
use Rattle.std.proofs.Math.Seq.{get_or-set_same, get_or-set_other}
use Rattle.answer.specs.Refused.{fine}
use Rattle.form.specs.declared.Form.{Form}
use Rattle.form.specs.declared.Header.{Header}
use Rattle.form.specs.declared.Class.{Class}
use Rattle.form.specs.declared.Node.{Node}
use Rattle.form.specs.declared.Edge.{Edge}
use Rattle.form.specs.Places.{no_class, no_node, no_step, empty_form, class_of, node_of, edge_of, latency_of}
use Rattle.form.specs.Offsets.{classes_at, nodes_at, edges_at, starts_at}
use Rattle.form.specs.Ranges.{GoodClass, GoodEdge}
use Rattle.field.specs.Number.{Bytes}
use Rattle.field.specs.Taking.{onward}
use Rattle.reader.specs.Outcome.{Reading}
use Rattle.rows.specs.Rows.{class_at, node_at, edge_at, start_at}
use Rattle.reader.specs.Tables.{header_of, class_step, node_step, edge_step, start_step}
use Rattle.writer.specs.Layout.{class_bytes, node_bytes, edge_bytes}
use Rattle.record.specs.FirstOf.{unused}
use Rattle.record.specs.Cells.{Cells, cells-none, cells-put, list_put}
use Rattle.record.specs.ReadHeader.{Head, header_read}
use Rattle.record.specs.ReadRows.{GoodNode, Slot, slot_bytes, GoodSlot, RowRead, class-row, node_row, edge_row, start-row}

-- the counts that the header has, and where each table begins by them
module _ (s : List ℕ) where
  abbrev pub head_classes : ℕ
  head_classes = (header_of s).form.header.classes

  abbrev pub head_nodes : ℕ
  head_nodes = (header_of s).form.header.nodes

  abbrev pub head_edges : ℕ
  head_edges = (header_of s).form.header.edges

  abbrev pub head_length : ℕ
  head_length = (header_of s).form.header.length

  abbrev pub nodes_from : ℕ
  nodes_from = nodes_at (header_of s).form.header

  abbrev pub edges_from : ℕ
  edges_from = edges_at (header_of s).form.header

  abbrev pub starts_after : ℕ
  starts_after = starts_at (header_of s).form.header

-- an unused edge, start and retiming
abbrev pub no_edge : Edge
no_edge = record { from = 0; to = 0; delays = 0 }

abbrev pub no_slot : Slot
no_slot = record { start = no_step; retiming = 0 }

-- a node's start and retiming in a form
abbrev pub slot_of : Form → ℕ → Slot
slot_of f v = record { start = get_or f.start v no_step; retiming = get_or f.retiming v 0 }

-- a header that is the record's
pub record SameCounts (s : List ℕ) (h : Header) : Type 0 where
  pub classes : h.classes ≡ head_classes s
  pub nodes : h.nodes ≡ head_nodes s
  pub edges : h.edges ≡ head_edges s
  pub last : h.length ≡ head_length s

-- so many classes, nodes, edges and starts are read, up to an offset
pub record ReadSofar (s : List ℕ) (c n e t at : ℕ) (x : Reading) : Type 0 where
  pub head : Head s
  pub next : x.next ≡ onward at
  pub counts : SameCounts s x.form.header
  pub class : Cells s 11 3 class_bytes (λ i. GoodClass) no_class (length x.form.class ≡ 4) c (class_of x.form)
  pub node : Cells s (nodes_from s) 6 node_bytes (λ v. GoodNode (head_classes s)) no_node (length x.form.node ≡ 64) n (node_of x.form)
  pub edge :
      Cells s (edges_from s) 3 edge_bytes (λ i. GoodEdge (head_nodes s)) no_edge
      ((length x.form.from ≡ 256) × (length x.form.to ≡ 256) × (length x.form.delays ≡ 256))
      e (edge_of x.form)
  pub start :
      Cells s (starts_after s) 3 slot_bytes (λ v. GoodSlot (head_length s) (latency_of x.form v)) no_slot
      ((length x.form.start ≡ 64) × (length x.form.retiming ≡ 64))
      t (slot_of x.form)

-- the offset may be written in another way
pub moved : (s : List ℕ) (c n e t at to : ℕ) (x : Reading) → at ≡ to → ReadSofar s c n e t at x → ReadSofar s c n e t to x
moved s c n e t at to x q p = subst (λ (k : ℕ). ReadSofar s c n e t k x) q p

module _ (s : List ℕ) (b : Bytes s) where
  -- after the header, no row is read
  pub header-on : fine (header_of s).next.refusal ≡ true → ReadSofar s 0 0 0 0 11 (header_of s)
  unfolding header_of empty_form
  header-on f =
      let z : ℕ = 0 in
      record {
        head = header_read s b f;
        next = (header_read s b f).next;
        counts = record { classes = refl; nodes = refl; edges = refl; last = refl };
        class = cells-none s 11 3 class_bytes _ no_class (length-replicate 4 no_class) _ (λ i. unused 4 i no_class);
        node = cells-none s (nodes_from s) 6 node_bytes _ no_node (length-replicate 64 no_node) _ (λ v. unused 64 v no_node);
        edge =
            cells-none s (edges_from s) 3 edge_bytes _ no_edge (length-replicate 256 z, length-replicate 256 z, length-replicate 256 z) _
            (λ e j. record { from = unused 256 e z j; to = unused 256 e z j; delays = unused 256 e z j });
        start =
            cells-none s (starts_after s) 3 slot_bytes _ no_slot (length-replicate 64 no_step, length-replicate 64 z) _
            (λ v j. record { start = unused 64 v no_step j; retiming = unused 64 v z j });
      }

  -- one class more
  pub class-on : (i : ℕ) (x : Reading) → i < head_classes s → ReadSofar s i 0 0 0 (classes_at + 3 * i) x → fine (class_step s i x).next.refusal ≡ true
      → ReadSofar s (suc i) 0 0 0 (classes_at + 3 * suc i) (class_step s i x)
  unfolding class_step
  class-on i x l p f =
      let new : Class = (class_at s x.next).class in
      let r : RowRead s (classes_at + 3 * i) (classes_at + 3 * suc i) 3 class_bytes GoodClass (class_at s x.next).next new =
      class-row s b x.next (classes_at + 3 * i) (classes_at + 3 * suc i) p.next (omega arith) f in
      record {
        head = p.head;
        next = r.next;
        counts = p.counts;
        class = list_put s 11 3 class_bytes (λ j. GoodClass) no_class 4 i x.form.class p.class (omega (arith, p.head.classes)) new r.laid r.good;
        node = p.node;
        edge = p.edge;
        start = cells-none s (starts_after s) 3 slot_bytes _ no_slot p.start.sized _ (λ v. p.start.rest v (omega arith));
      }

  -- one node more
  pub node-on : (v : ℕ) (x : Reading) → v < head_nodes s → ReadSofar s (head_classes s) v 0 0 (nodes_from s + 6 * v) x → fine (node_step s v x).next.refusal ≡ true
      → ReadSofar s (head_classes s) (suc v) 0 0 (nodes_from s + 6 * suc v) (node_step s v x)
  unfolding node_step
  node-on v x l p f =
      let at : ℕ = nodes_from s + 6 * v in
      let to : ℕ = nodes_from s + 6 * suc v in
      let classes : ℕ = x.form.header.classes in
      let new : Node = (node_at s x.next classes).node in
      let r : RowRead s at to 6 node_bytes (GoodNode classes) (node_at s x.next classes).next new =
      node_row s b x.next at to p.next classes (omega (arith, p.counts.classes, p.head.classes)) (omega arith) f in
      record {
        head = p.head;
        next = r.next;
        counts = p.counts;
        class = p.class;
        node =
            list_put s (nodes_from s) 6 node_bytes (λ j. GoodNode (head_classes s)) no_node 64 v x.form.node p.node (omega (arith, p.head.nodes)) new r.laid
            (subst (λ (c : ℕ). GoodNode c new) p.counts.classes r.good);
        edge = p.edge;
        start = cells-none s (starts_after s) 3 slot_bytes _ no_slot p.start.sized _ (λ j. p.start.rest j (omega arith));
      }

  -- one edge more
  pub edge_on : (e : ℕ) (x : Reading) → e < head_edges s → ReadSofar s (head_classes s) (head_nodes s) e 0 (edges_from s + 3 * e) x
      → fine (edge_step s e x).next.refusal ≡ true → ReadSofar s (head_classes s) (head_nodes s) (suc e) 0 (edges_from s + 3 * suc e) (edge_step s e x)
  unfolding edge_step
  edge_on e x l p f =
      let at : ℕ = edges_from s + 3 * e in
      let to : ℕ = edges_from s + 3 * suc e in
      let nodes : ℕ = x.form.header.nodes in
      let new : Edge = (edge_at s x.next nodes).edge in
      let r : RowRead s at to 3 edge_bytes (GoodEdge nodes) (edge_at s x.next nodes).next new =
      edge_row s b x.next at to p.next nodes (omega (arith, p.counts.nodes, p.head.nodes)) (omega arith) f in
      let z : (length x.form.from ≡ 256) × (length x.form.to ≡ 256) × (length x.form.delays ≡ 256) = p.edge.sized in
      let k : (xs : List ℕ) → length xs ≡ 256 → e < length xs = λ xs q. omega (arith, p.head.edges) in
      record {
        head = p.head;
        next = r.next;
        counts = p.counts;
        class = p.class;
        node = p.node;
        edge =
            cells-put s (edges_from s) 3 edge_bytes (λ j. GoodEdge (head_nodes s)) no_edge p.edge
            (length-set x.form.from e _ ∙ z.0, length-set x.form.to e _ ∙ z.1, length-set x.form.delays e _ ∙ z.2)
            _ new
            (λ i. record {
              from = get_or-set_same x.form.from e new.from 0 (k x.form.from z.0) i;
              to = get_or-set_same x.form.to e new.to 0 (k x.form.to z.1) i;
              delays = get_or-set_same x.form.delays e new.delays 0 (k x.form.delays z.2) i;
            })
            (λ j ne i. record {
              from = get_or-set_other x.form.from e j new.from 0 ne i;
              to = get_or-set_other x.form.to e j new.to 0 ne i;
              delays = get_or-set_other x.form.delays e j new.delays 0 ne i;
            })
            r.laid
            (subst (λ (c : ℕ). GoodEdge c new) p.counts.nodes r.good);
        start = p.start;
      }

  -- one start and retiming more
  pub start-on : (v : ℕ) (x : Reading) → v < head_nodes s → ReadSofar s (head_classes s) (head_nodes s) (head_edges s) v (starts_after s + 3 * v) x
      → fine (start_step s v x).next.refusal ≡ true → ReadSofar s (head_classes s) (head_nodes s) (head_edges s) (suc v) (starts_after s + 3 * suc v) (start_step s v x)
  unfolding start_step
  start-on v x l p f =
      let at : ℕ = starts_after s + 3 * v in
      let to : ℕ = starts_after s + 3 * suc v in
      let latency : ℕ = latency_of x.form v in
      let last : ℕ = x.form.header.length in
      let new : Slot = record { start = (start_at s x.next last latency).start; retiming = (start_at s x.next last latency).retiming } in
      let r : RowRead s at to 3 slot_bytes (GoodSlot last latency) (start_at s x.next last latency).next new =
      start-row s b x.next at to p.next last latency (omega arith) f in
      let z : (length x.form.start ≡ 64) × (length x.form.retiming ≡ 64) = p.start.sized in
      record {
        head = p.head;
        next = r.next;
        counts = p.counts;
        class = p.class;
        node = p.node;
        edge = p.edge;
        start =
            cells-put s (starts_after s) 3 slot_bytes (λ j. GoodSlot (head_length s) (latency_of x.form j)) no_slot p.start
            (length-set x.form.start v _ ∙ z.0, length-set x.form.retiming v _ ∙ z.1)
            _ new
            (λ i. record {
              start = get_or-set_same x.form.start v new.start no_step (omega (arith, z.0, p.head.nodes)) i;
              retiming = get_or-set_same x.form.retiming v new.retiming 0 (omega (arith, z.1, p.head.nodes)) i;
            })
            (λ j ne i. record {
              start = get_or-set_other x.form.start v j new.start no_step ne i;
              retiming = get_or-set_other x.form.retiming v j new.retiming 0 ne i;
            })
            r.laid
            (subst (λ (c : ℕ). GoodSlot c latency new) p.counts.last r.good);
      }
