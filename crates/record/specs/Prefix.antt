-- The record at the front of any bytes: it is well-formed, its unused places are 0, and it is laid out as the bytes it was read from.
-- Assumes nothing.
use Rattle.std.specs.Prelude.{◌≡◌, true, List, ◌++◌, length, drop, None}
use Rattle.std.proofs.Common.{sym, ap₂, subst, ◌∙◌, length-take, take-add, drop-drop}
use Rattle.std.proofs.Math.Path.{ap}
use Prim.Native.Nat.{ℕ, ◌+◌, ◌*◌, ◌≤◌, min}
use native.Mathlib.Omega.{arith}
use Rattle.std.proofs.Math.ListN.{take}
use Rattle.lists.specs.Pick.{pick}
use Rattle.answer.specs.Refused.{fine}
use Rattle.form.specs.declared.Form.{Form}
use Rattle.form.specs.declared.Edge.{Edge}
use Rattle.form.specs.Places.{no_class, no_node, no_step, edge_of, scheduled_of, used}
use Rattle.form.specs.Ranges.{GoodEdge, WellFormed}
use Rattle.field.specs.Number.{Bytes}
use Rattle.field.specs.Outcome.{Cursor}
use Rattle.reader.specs.Outcome.{Reading}
use Rattle.reader.specs.Tables.{header_of}
use Rattle.reader.specs.Reading.{starts_read, normalized, end_of, fronted, prefix_of}
use Rattle.writer.specs.Layout.{count_bytes, header_bytes, class_rows, node_rows, edge_rows, start_rows, layout}
use Rattle.record.specs.Held.{CountsFit}
use Rattle.record.specs.Rows.{rows_cut}
use Rattle.record.specs.LayoutSize.{scheduled-le, fits-length}
use Rattle.record.specs.FirstOf.{first-self}
use Rattle.record.specs.ReadRows.{Slot}
use Rattle.record.specs.Sofar.{head_classes, head_nodes, head_edges, head_length, nodes_from, edges_from, starts_after, no_edge, no_slot, slot_of}
use Rattle.record.specs.ReadAll.{head_starts, StartsSofar, starts-run, Ended, ended}
use Rattle.record.specs.Least.{some-zero, normal-some, scheduled-all}

-- two slices that meet are one
slices : (s : List ℕ) (at n m : ℕ) → take n (drop at s) ++ take m (drop (at + n) s) ≡ take (n + m) (drop at s)
slices s at n m = rw (take-add n m (drop at s), drop-drop n at s)

header-same : (f g : Form) → f.header.classes ≡ g.header.classes → f.header.nodes ≡ g.header.nodes → f.header.edges ≡ g.header.edges → f.header.length ≡ g.header.length → header_bytes f ≡ header_bytes g
unfolding count_bytes
header-same f g c n e l = rw (c, n, e, l)

-- a record of which every row is read
module _ (s : List ℕ) (x : Reading) (p : StartsSofar s (head_starts s) x) where
  starts_is : scheduled_of x.form.header.length x.form.header.nodes ≡ head_starts s
  starts_is = ap₂ scheduled_of p.counts.last p.counts.nodes

  -- it is well-formed
  pub whole-well-formed : normalized x.form.header.length x.form.header.nodes x.form.retiming ≡ true → WellFormed x.form
  whole-well-formed normal =
      record {
        classes = omega (arith, p.counts.classes, p.head.classes);
        nodes = omega (arith, p.counts.nodes, p.head.nodes);
        edges = omega (arith, p.counts.edges, p.head.edges);
        length = omega (arith, p.counts.last, p.head.last);
        class = λ i l. p.class.good i (omega (arith, p.counts.classes));
        node = λ v l. omega (arith, (p.node.good v (omega (arith, p.counts.nodes))).class, p.counts.classes);
        edge = λ e l. subst (λ (n : ℕ). GoodEdge n (edge_of x.form e)) (sym p.counts.nodes) (p.edge.good e (omega (arith, p.counts.edges)));
        schedule =
            λ ne. record {
              starts =
                  λ v l.
                  let g = p.start.good v (omega (arith, starts_is, scheduled-all x.form.header.length x.form.header.nodes ne)) in
                  record { begins = g.begins; ends = omega (arith, g.ends, p.counts.last); retiming = g.retiming };
              least = some-zero x.form.header.nodes x.form.retiming (sym (normal-some x.form.header.length x.form.header.nodes x.form.retiming ne) ∙ normal);
            };
      }

  -- its unused places are 0
  pub whole-used : used x.form ≡ x.form
  unfolding used
  whole-used =
      let f : Form = x.form in
      let t : ℕ = scheduled_of f.header.length f.header.nodes in
      let edge : (i : ℕ) → f.header.edges ≤ i → edge_of f i ≡ no_edge = λ i l. p.edge.rest i (omega (arith, p.counts.edges)) in
      let slot : (v : ℕ) → t ≤ v → slot_of f v ≡ no_slot = λ v l. p.start.rest v (omega (arith, starts_is)) in
      λ i. record {
        header = f.header;
        class = first-self f.header.classes no_class f.class (λ j l. p.class.rest j (omega (arith, p.counts.classes))) i;
        node = first-self f.header.nodes no_node f.node (λ v l. p.node.rest v (omega (arith, p.counts.nodes))) i;
        from = first-self f.header.edges 0 f.from (λ e l. ap (λ (k : Edge). k.from) (edge e l)) i;
        to = first-self f.header.edges 0 f.to (λ e l. ap (λ (k : Edge). k.to) (edge e l)) i;
        delays = first-self f.header.edges 0 f.delays (λ e l. ap (λ (k : Edge). k.delays) (edge e l)) i;
        start = first-self t no_step f.start (λ v l. ap (λ (k : Slot). k.start) (slot v l)) i;
        retiming = first-self t 0 f.retiming (λ v l. ap (λ (k : Slot). k.retiming) (slot v l)) i;
      }

  class-rows : class_rows x.form ≡ take (3 * head_classes s) (drop 11 s)
  unfolding class_rows
  class-rows =
      let m : min x.form.header.classes 4 ≡ head_classes s = omega (arith, p.counts.classes, p.head.classes) in
      rw m (rows_cut _ 3 s 11 (head_classes s) p.class.laid)

  node-rows : node_rows x.form ≡ take (6 * head_nodes s) (drop (nodes_from s) s)
  unfolding node_rows
  node-rows =
      let m : min x.form.header.nodes 64 ≡ head_nodes s = omega (arith, p.counts.nodes, p.head.nodes) in
      rw m (rows_cut _ 6 s (nodes_from s) (head_nodes s) p.node.laid)

  edge-rows : edge_rows x.form ≡ take (3 * head_edges s) (drop (edges_from s) s)
  unfolding edge_rows
  edge-rows =
      let m : min x.form.header.edges 256 ≡ head_edges s = omega (arith, p.counts.edges, p.head.edges) in
      rw m (rows_cut _ 3 s (edges_from s) (head_edges s) p.edge.laid)

  start-rows : start_rows x.form ≡ take (3 * head_starts s) (drop (starts_after s) s)
  unfolding start_rows
  start-rows =
      let m : min (scheduled_of x.form.header.length x.form.header.nodes) 64 ≡ head_starts s = omega (arith, starts_is, scheduled-le (head_length s) (head_nodes s), p.head.nodes) in
      rw m (rows_cut _ 3 s (starts_after s) (head_starts s) p.start.laid)

  -- it is laid out as its bytes
  pub whole-layout : layout x.form ≡ take x.next.at s
  unfolding layout
  whole-layout =
      let header : header_bytes x.form ≡ take 11 s = header-same x.form (header_of s).form p.counts.classes p.counts.nodes p.counts.edges p.counts.last ∙ p.head.laid in
      let at : x.next.at ≡ starts_after s + 3 * head_starts s = ap (λ (c : Cursor). c.at) p.next in
      let all : 11 + (3 * head_classes s + (6 * head_nodes s + (3 * head_edges s + 3 * head_starts s))) ≡ x.next.at = omega arith in
      rw (
        header,
        class-rows,
        node-rows,
        edge-rows,
        start-rows,
        slices s (edges_from s) (3 * head_edges s) (3 * head_starts s),
        slices s (nodes_from s) (6 * head_nodes s) (3 * head_edges s + 3 * head_starts s),
        slices s 11 (3 * head_classes s) (6 * head_nodes s + (3 * head_edges s + 3 * head_starts s)),
        slices s 0 11 (3 * head_classes s + (6 * head_nodes s + (3 * head_edges s + 3 * head_starts s))),
      )
      (ap (λ (n : ℕ). take n s) all)

  -- it ends where its layout does
  pub whole-end : x.next.at ≡ length (layout x.form)
  whole-end =
      let at : x.next.at ≡ starts_after s + 3 * head_starts s = ap (λ (c : Cursor). c.at) p.next in
      let fits : CountsFit x.form = record {
        classes = omega (arith, p.counts.classes, p.head.classes);
        nodes = omega (arith, p.counts.nodes, p.head.nodes);
        edges = omega (arith, p.counts.edges, p.head.edges);
      } in
      omega (arith, fits-length x.form fits, p.counts.classes, p.counts.nodes, p.counts.edges, starts_is)

-- the record at the front, where nothing is refused of it
module _ (s : List ℕ) (b : Bytes s) (f : fine (prefix_of s).refusal ≡ true) where
  end : Ended (starts_read s) (end_of (starts_read s))
  unfolding prefix_of fronted
  end = ended (starts_read s) f

  -- it is the one read, up to where reading ended
  pub prefix-read : prefix_of s ≡ record { refusal = None; size = (starts_read s).next.at; form = (starts_read s).form }
  unfolding prefix_of fronted fine pick
  prefix-read = rw end.none

  -- every row of it was read
  pub prefix-whole : StartsSofar s (head_starts s) (starts_read s)
  prefix-whole = (starts-run s b (λ r. Unit {0}) (λ e. tt) (λ i x l p e. tt) (λ i x l p e. tt) (λ i x l p e. tt) (λ i x l p e. tt)).on end.begun

  -- it is well-formed
  pub prefix-well-formed : WellFormed (prefix_of s).form
  prefix-well-formed = rw prefix-read (whole-well-formed s (starts_read s) prefix-whole end.normal)

  -- its unused places are 0
  pub prefix-used : used (prefix_of s).form ≡ (prefix_of s).form
  prefix-used = rw prefix-read (whole-used s (starts_read s) prefix-whole)

  -- its size is that of its layout
  pub prefix-size : (prefix_of s).size ≡ length (layout (prefix_of s).form)
  prefix-size = rw prefix-read (whole-end s (starts_read s) prefix-whole)

  -- so many bytes at the front are its layout
  pub prefix-layout : layout (prefix_of s).form ≡ take (prefix_of s).size s
  prefix-layout = rw prefix-read (whole-layout s (starts_read s) prefix-whole)

  -- it ends within the bytes
  pub prefix-within : (prefix_of s).size ≤ length s
  prefix-within = omega (arith, prefix-size, ap length prefix-layout, length-take (prefix_of s).size s)
