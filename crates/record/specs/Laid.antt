-- Reading a held form's bytes, row after row, whatever is left past them: all is read, or a field of the form is out of range.
-- Assumes nothing.
use Rattle.std.specs.Prelude.{◌≡◌, ◌≢◌, List}
use Rattle.std.proofs.Math.Path.{refl}
use Rattle.std.proofs.Common.{sym, ap, subst, ◌∙◌, arith}
use Prim.Native.Nat.{ℕ, ◌+◌, ◌*◌, ◌<◌}
use Rattle.lists.specs.Pick.{both_ways}
use Rattle.answer.specs.Refused.{Verdict, fine}
use Rattle.form.specs.declared.Form.{Form}
use Rattle.form.specs.declared.Class.{Class}
use Rattle.form.specs.declared.Node.{Node}
use Rattle.form.specs.Places.{class_of, node_of, edge_of, latency_of}
use Rattle.form.specs.Offsets.{classes_at}
use Rattle.form.specs.Ranges.{GoodEdge, GoodStart, WellFormed}
use Rattle.field.specs.Outcome.{Cursor}
use Rattle.field.specs.Number.{Bytes}
use Rattle.field.specs.Taking.{onward}
use Rattle.reader.specs.Outcome.{Reading}
use Rattle.reader.specs.Tables.{class_step, node_step, edge_step, start_step}
use Rattle.reader.specs.Reading.{starts_read}
use Rattle.writer.specs.Layout.{layout}
use Rattle.record.specs.Held.{Held}
use Rattle.record.specs.Rows.{bytes-append}
use Rattle.record.specs.LayoutSize.{layout-bytes, scheduled-le}
use Rattle.record.specs.Runs.{Runs}
use Rattle.record.specs.ReadRows.{GoodSlot}
use Rattle.record.specs.Sofar.{head_classes, head_nodes, head_edges, head_length, nodes_from, edges_from, starts_after, slot_of}
use Rattle.record.specs.ReadAll.{head_starts, ClassesSofar, NodesSofar, EdgesSofar, StartsSofar, Refuses, starts-run}
use Rattle.record.specs.Least.{scheduled-none}
use Rattle.record.specs.Walks.{Walks, class-walks, node-walks, edge-walks, start-walks}
use Rattle.record.specs.LaidHeader.{Faulty, Counts, followed, counts, header-off}
use Rattle.record.specs.Agree.{class-laid, node-laid, edge-laid, starts-same, start-laid, class-agrees, node-agrees}

walks_at : (Q : Verdict → Type 0) (c : Cursor) (at : ℕ) → c ≡ onward at → Walks Q at c
unfolding fine
walks_at Q c at e = record { on = λ f. e; off = λ f. both_ways (ap (λ (k : Cursor). fine k.refusal) e) f }

module _ (f : Form) (h : Held f) (rest : List ℕ) (tail : Bytes rest) where
  bytes : Bytes (followed f rest)
  bytes = bytes-append (layout f) rest (layout-bytes f h) tail

  class-off : Refuses (class_step (followed f rest)) (ClassesSofar (followed f rest)) (head_classes (followed f rest)) (Faulty f)
  unfolding class_step
  class-off i x l p e =
      let k : Counts f (followed f rest) = counts f h rest p.head in
      (class-walks (Faulty f) (followed f rest) x.next (classes_at + 3 * i) (classes_at + 3 * i + 3) (walks_at (Faulty f) x.next (classes_at + 3 * i) p.next) (class_of f i)
      (class-laid f h rest k i l) refl
      (λ never a. record { low = omega arith; high = omega arith; never = λ w. never (w.class i (omega (arith, k.classes))) })
      ).off e

  node-off : Refuses (node_step (followed f rest)) (NodesSofar (followed f rest)) (head_nodes (followed f rest)) (Faulty f)
  unfolding node_step
  node-off v x l p e =
      let k : Counts f (followed f rest) = counts f h rest p.head in
      let at : ℕ = nodes_from (followed f rest) + 6 * v in
      (node-walks (Faulty f) (followed f rest) x.next at (at + 6) (walks_at (Faulty f) x.next at p.next) x.form.header.classes (node_of f v) bytes
      (node-laid f h rest k v l) refl
      (λ never a.
      record {
        low = omega arith;
        high = omega arith;
        never = λ w. never (omega (arith, w.node v (omega (arith, k.nodes)), p.counts.classes, k.classes));
      })
      ).off e

  edge-off : Refuses (edge_step (followed f rest)) (EdgesSofar (followed f rest)) (head_edges (followed f rest)) (Faulty f)
  unfolding edge_step
  edge-off i x l p e =
      let k : Counts f (followed f rest) = counts f h rest p.head in
      let at : ℕ = edges_from (followed f rest) + 3 * i in
      (edge-walks (Faulty f) (followed f rest) x.next at (at + 3) (walks_at (Faulty f) x.next at p.next) x.form.header.nodes (edge_of f i)
      (edge-laid f h rest k i l) refl
      (λ never a.
      record {
        low = omega arith;
        high = omega arith;
        never = λ w. never (subst (λ (n : ℕ). GoodEdge n (edge_of f i)) (sym (p.counts.nodes ∙ k.nodes)) (w.edge i (omega (arith, k.edges))));
      })
      ).off e

  -- a node's latency is read before its start
  latency-agrees : (v : ℕ) (x : Reading) (p : StartsSofar (followed f rest) v x) → v < head_nodes (followed f rest) → latency_of x.form v ≡ latency_of f v
  latency-agrees v x p l =
      let n : node_of x.form v ≡ node_of f v = node-agrees f h rest _ _ _ _ _ x p v l l in
      let c : (node_of f v).class < head_classes (followed f rest) = subst (λ (k : Node). k.class < head_classes (followed f rest)) n (p.node.good v l).class in
      ap (λ (k : Node). (class_of x.form k.class).latency) n ∙ ap (λ (k : Class). k.latency) (class-agrees f h rest _ _ _ _ _ x p (node_of f v).class c c)

  start-off : Refuses (start_step (followed f rest)) (StartsSofar (followed f rest)) (head_starts (followed f rest)) (Faulty f)
  unfolding start_step
  start-off v x l p e =
      let k : Counts f (followed f rest) = counts f h rest p.head in
      let at : ℕ = starts_after (followed f rest) + 3 * v in
      let m : v < head_nodes (followed f rest) = omega (arith, scheduled-le (head_length (followed f rest)) (head_nodes (followed f rest))) in
      let ne : f.header.length ≢ 0 = λ z. omega (arith, starts-same f h rest k, scheduled-none f.header.length f.header.nodes z) in
      let never : WellFormed f → GoodSlot x.form.header.length (latency_of x.form v) (slot_of f v) = λ w.
      let g : GoodStart f v = (w.schedule ne).starts v (omega (arith, k.nodes)) in
      record { begins = g.begins; ends = omega (arith, g.ends, latency-agrees v x p m, p.counts.last, k.last); retiming = g.retiming } in
      (start-walks (Faulty f) (followed f rest) x.next at (at + 3) (walks_at (Faulty f) x.next at p.next) x.form.header.length (latency_of x.form v) (slot_of f v)
      (h.start v (omega (arith, p.head.nodes))) (start-laid f h rest k v l) refl
      (λ no a. (record { low = omega arith; high = omega arith; never = λ w. no (never w) }, record { low = omega arith; high = omega arith; never = λ w. no (never w) }))
      ).off e

  -- a held form's bytes are read whole, or a field of it is out of range
  pub laid-run : Runs (StartsSofar (followed f rest) (head_starts (followed f rest))) (Faulty f) (starts_read (followed f rest))
  laid-run = starts-run (followed f rest) bytes (Faulty f) (header-off f h rest) class-off node-off edge-off start-off
