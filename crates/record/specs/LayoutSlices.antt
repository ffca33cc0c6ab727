-- The rows of a form whose counts are in range, each a slice of its layout.
-- Assumes nothing.
use Rattle.std.specs.Prelude.{◌≡◌, ℕ, ◌+◌, ◌*◌, ◌<◌, length, take, drop}
use mathlib.Core.List.{List, [], ◌++◌, append_assoc, append-nil}
use Rattle.std.proofs.Common.{arith, length-append}
use Rattle.std.proofs.Math.Seq.{take_at}
use Rattle.form.specs.declared.Form.{Form}
use Rattle.form.specs.Places.{class_of, node_of, edge_of, start_of, retiming_of, scheduled}
use Rattle.form.specs.Offsets.{classes_at, nodes_at, edges_at, starts_at}
use Rattle.writer.specs.Layout.{class_bytes, node_bytes, edge_bytes, start_bytes, header_bytes, class_rows, node_rows, edge_rows, start_rows, layout}
use Rattle.record.specs.Held.{CountsFit}
use Rattle.record.specs.Rows.{rows-slice}
use Rattle.record.specs.LayoutSize.{class-width, node-width, edge-width, start-width, header-width, classes-width, nodes-width, edges-width, scheduled-le}

module _ (f : Form) where
  -- the header is the first 11 bytes
  pub header-slice : take 11 (layout f) ≡ header_bytes f
  unfolding layout
  header-slice = take_at (header_bytes f) _ 11 (header-width f)

  module _ (h : CountsFit f) where
    -- class i is a slice of the layout
    pub class-slice : (i : ℕ) → i < f.header.classes → take 3 (drop (classes_at + 3 * i) (layout f)) ≡ class_bytes (class_of f i)
    unfolding layout class_rows
    class-slice i l =
        rows-slice (λ j. class_bytes (class_of f j)) 3 (λ j. class-width (class_of f j)) (header_bytes f) _ 11 _ i (header-width f) (omega arith)

    -- what stands before the nodes, the edges and the starts
    before_nodes : List ℕ
    before_nodes = header_bytes f ++ class_rows f

    before_edges : List ℕ
    before_edges = before_nodes ++ node_rows f

    before_starts : List ℕ
    before_starts = before_edges ++ edge_rows f

    nodes-from : length before_nodes ≡ nodes_at f.header
    unfolding before_nodes
    nodes-from = simp (length-append, header-width, classes-width) (omega arith)

    edges-from : length before_edges ≡ edges_at f.header
    unfolding before_edges
    edges-from = simp (length-append, nodes-from, nodes-width) (omega arith)

    starts_from : length before_starts ≡ starts_at f.header
    unfolding before_starts
    starts_from = simp (length-append, edges-from, edges-width) (omega arith)

    -- node v is a slice of the layout
    pub node-slice : (v : ℕ) → v < f.header.nodes → take 6 (drop (nodes_at f.header + 6 * v) (layout f)) ≡ node_bytes (node_of f v)
    unfolding layout before_nodes node_rows
    node-slice v l =
        rw (← append_assoc (header_bytes f) (class_rows f) (node_rows f ++ (edge_rows f ++ start_rows f)))
        (rows-slice (λ j. node_bytes (node_of f j)) 6 (λ j. node-width (node_of f j)) before_nodes _ _ _ v nodes-from (omega arith))

    -- edge e is a slice of the layout
    pub edge-slice : (e : ℕ) → e < f.header.edges → take 3 (drop (edges_at f.header + 3 * e) (layout f)) ≡ edge_bytes (edge_of f e)
    unfolding layout before_nodes before_edges edge_rows
    edge-slice e l =
        rw (
          ← append_assoc (header_bytes f) (class_rows f) (node_rows f ++ (edge_rows f ++ start_rows f)),
          ← append_assoc before_nodes (node_rows f) (edge_rows f ++ start_rows f),
        )
        (rows-slice (λ j. edge_bytes (edge_of f j)) 3 (λ j. edge-width (edge_of f j)) before_edges _ _ _ e edges-from (omega arith))

    -- the start and the retiming of node v are a slice of the layout
    pub start-slice : (v : ℕ) → v < scheduled f
        → take 3 (drop (starts_at f.header + 3 * v) (layout f)) ≡ start_bytes (start_of f v) (retiming_of f v)
    unfolding layout before_nodes before_edges before_starts start_rows
    start-slice v l =
        rw (
          ← append_assoc (header_bytes f) (class_rows f) (node_rows f ++ (edge_rows f ++ start_rows f)),
          ← append_assoc before_nodes (node_rows f) (edge_rows f ++ start_rows f),
          ← append_assoc before_edges (edge_rows f) (start_rows f),
          ← append-nil (start_rows f),
        )
        (rows-slice (λ j. start_bytes (start_of f j) (retiming_of f j)) 3 (λ j. start-width (start_of f j) (retiming_of f j)) before_starts [] _ _ v starts_from (omega (arith, scheduled-le f.header.length f.header.nodes)))
