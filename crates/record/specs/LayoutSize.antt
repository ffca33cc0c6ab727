-- The bytes of a held form: how many they are, that each is one, and each row as a slice of them.
-- Assumes nothing.
use Rattle.std.specs.Prelude.{◌≡◌, refl, eqb, length}
use mathlib.Core.List.{List, [], ◌∷◌, ◌++◌}
use Prim.Native.Nat.{ℕ, ◌+◌, ◌*◌, ◌≤◌, ◌<◌, min}
use Rattle.std.proofs.Common.{arith, length-append}
use Rattle.lists.specs.Pick.{pick_ind}
use Rattle.form.specs.declared.Form.{Form}
use Rattle.form.specs.declared.Class.{Class}
use Rattle.form.specs.declared.Node.{Node}
use Rattle.form.specs.declared.Edge.{Edge}
use Rattle.form.specs.declared.Operation.{Operation}
use Rattle.form.specs.declared.Operation.TheVariants.{Add, Sub, Mul}
use Rattle.form.specs.Places.{class_of, node_of, edge_of, start_of, retiming_of, scheduled, scheduled_of}
use Rattle.form.specs.Offsets.{size_of}
use Rattle.form.specs.Ranges.{WellFormed}
use Rattle.field.specs.Number.{Bytes, bytes_of}
use Rattle.writer.specs.Layout.{code_of, constant_of, class_bytes, node_bytes, edge_bytes, start_bytes, count_bytes, header_bytes, class_rows, node_rows, edge_rows, start_rows, layout}
use Rattle.record.specs.Held.{Held, HeldClass, HeldEdge, CountsFit}
use Rattle.record.specs.Rows.{bytes-nil, bytes-cons, bytes-three, bytes-append, bytes-of, rows-bytes, rows-length}

-- a class takes 3 bytes
pub class-width : (k : Class) → length (class_bytes k) ≡ 3
unfolding class_bytes
class-width k = refl

-- a node takes 6 bytes
pub node-width : (k : Node) → length (node_bytes k) ≡ 6
unfolding node_bytes bytes_of
node-width k = refl

-- an edge takes 3 bytes
pub edge-width : (k : Edge) → length (edge_bytes k) ≡ 3
unfolding edge_bytes
edge-width k = refl

-- a start and a retiming take 3 bytes
pub start-width : (s r : ℕ) → length (start_bytes s r) ≡ 3
unfolding start_bytes bytes_of
start-width s r = refl

-- the header takes 11 bytes
pub header-width : (f : Form) → length (header_bytes f) ≡ 11
unfolding count_bytes bytes_of
header-width f = refl

-- no more starts than nodes
pub scheduled-le : (last nodes : ℕ) → scheduled_of last nodes ≤ nodes
unfolding scheduled_of
scheduled-le last nodes = pick_ind (λ n. n ≤ nodes) (eqb last 0) _ _ (λ e. omega arith) (λ e. omega arith)

code_lt : (o : Operation) → code_of o < 256
code_lt (Add k) = omega arith
code_lt (Sub k) = omega arith
code_lt (Mul k) = omega arith

module _ (f : Form) where
  -- the classes' room
  pub classes-width : length (class_rows f) ≡ 3 * min f.header.classes 4
  unfolding class_rows
  classes-width = rows-length _ 3 (λ i. class-width (class_of f i)) _

  -- the nodes' room
  pub nodes-width : length (node_rows f) ≡ 6 * min f.header.nodes 64
  unfolding node_rows
  nodes-width = rows-length _ 6 (λ i. node-width (node_of f i)) _

  -- the edges' room
  pub edges-width : length (edge_rows f) ≡ 3 * min f.header.edges 256
  unfolding edge_rows
  edges-width = rows-length _ 3 (λ i. edge-width (edge_of f i)) _

  -- the starts' room
  pub starts-width : length (start_rows f) ≡ 3 * min (scheduled f) 64
  unfolding start_rows
  starts-width = rows-length _ 3 (λ i. start-width (start_of f i) (retiming_of f i)) _

  layout-width : length (layout f) ≡ 11 + 3 * min f.header.classes 4 + 6 * min f.header.nodes 64 + 3 * min f.header.edges 256 + 3 * min (scheduled f) 64
  unfolding layout
  layout-width = simp (length-append, header-width, classes-width, nodes-width, edges-width, starts-width) (omega arith)

  -- a record has at most 1,367 bytes
  pub layout-short : length (layout f) ≤ 1367
  layout-short = omega (arith, layout-width)

  -- a form with places for its counts takes the bytes that its header says
  pub fits-length : CountsFit f → length (layout f) ≡ size_of f.header
  fits-length w = omega (arith, layout-width, scheduled-le f.header.length f.header.nodes)

  -- and so does a well-formed one
  pub layout-length : WellFormed f → length (layout f) ≡ size_of f.header
  layout-length w = fits-length (record { classes = w.classes.1; nodes = w.nodes.1; edges = w.edges })

  module _ (h : Held f) where
    class-bytes : Bytes (class_rows f)
    unfolding class_rows class_bytes
    class-bytes =
        rows-bytes (λ i. class_bytes (class_of f i)) _
        (λ i l. let k : HeldClass (class_of f i) = h.class i (omega arith) in bytes-three _ _ _ k.latency k.units k.pipelined)

    node-bytes : Bytes (node_rows f)
    unfolding node_rows node_bytes
    node-bytes =
        rows-bytes (λ v. node_bytes (node_of f v)) _
        (λ v l.
        let k : Node = node_of f v in
        let t : List ℕ = bytes_of 4 (constant_of k.operation) in
        bytes-cons k.class (code_of k.operation ∷ t) (h.node v (omega arith)).class
        (bytes-cons (code_of k.operation) t (code_lt k.operation) (bytes-of 4 (constant_of k.operation))))

    edge-bytes : Bytes (edge_rows f)
    unfolding edge_rows edge_bytes
    edge-bytes =
        rows-bytes (λ e. edge_bytes (edge_of f e)) _
        (λ e l. let k : HeldEdge (edge_of f e) = h.edge e (omega arith) in bytes-three _ _ _ k.from k.to k.delays)

    start-bytes : Bytes (start_rows f)
    unfolding start_rows start_bytes
    start-bytes =
        rows-bytes (λ v. start_bytes (start_of f v) (retiming_of f v)) _
        (λ v l.
        bytes-append (bytes_of 2 (start_of f v)) (retiming_of f v ∷ []) (bytes-of 2 (start_of f v))
        (bytes-cons (retiming_of f v) [] (h.retiming v (omega arith)) bytes-nil))

    header-bytes : Bytes (header_bytes f)
    unfolding count_bytes
    header-bytes =
        let t : List ℕ = bytes_of 2 f.header.edges ++ bytes_of 2 f.header.length in
        bytes-append (82 ∷ 83 ∷ 75 ∷ []) (1 ∷ 0 ∷ f.header.classes ∷ f.header.nodes ∷ t) (bytes-three 82 83 75 (omega arith) (omega arith) (omega arith))
        (bytes-append (1 ∷ 0 ∷ f.header.classes ∷ []) (f.header.nodes ∷ t) (bytes-three 1 0 f.header.classes (omega arith) (omega arith) h.classes)
        (bytes-cons f.header.nodes t h.nodes (bytes-append (bytes_of 2 f.header.edges) (bytes_of 2 f.header.length) (bytes-of 2 f.header.edges) (bytes-of 2 f.header.length))))

    -- every element of a held form's layout is a byte
    pub layout-bytes : Bytes (layout f)
    unfolding layout
    layout-bytes =
        bytes-append (header_bytes f) (class_rows f ++ (node_rows f ++ (edge_rows f ++ start_rows f))) header-bytes
        (bytes-append (class_rows f) (node_rows f ++ (edge_rows f ++ start_rows f)) class-bytes
        (bytes-append (node_rows f) (edge_rows f ++ start_rows f) node-bytes (bytes-append (edge_rows f) (start_rows f) edge-bytes start-bytes)))
