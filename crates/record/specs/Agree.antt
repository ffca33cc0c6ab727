-- Reading a held form's bytes, whatever is left past them: the rows that are read are the form's own.
-- Assumes nothing.
use Rattle.std.specs.Prelude.{◌≡◌, List, [], ◌∷◌, ◌++◌, take, drop}
use Rattle.std.proofs.Math.Path.{sym, ap}
use Rattle.std.proofs.Common.{ap₂, subst, ◌∙◌, arith}
use Prim.Native.Nat.{ℕ, ◌+◌, ◌*◌, ◌^◌, ◌≤◌, ◌<◌}
use Rattle.form.specs.declared.Form.{Form}
use Rattle.form.specs.declared.Class.{Class}
use Rattle.form.specs.declared.Node.{Node}
use Rattle.form.specs.declared.Edge.{Edge}
use Rattle.form.specs.declared.Operation.{Operation}
use Rattle.form.specs.declared.Operation.TheVariants.{Add, Sub, Mul}
use Rattle.form.specs.Places.{no_class, no_node, no_step, class_of, node_of, edge_of, start_of, retiming_of, scheduled_of, used}
use Rattle.form.specs.Offsets.{classes_at, nodes_at, edges_at, starts_at}
use Rattle.field.specs.Number.{number_at, bytes_of, number-front}
use Rattle.reader.specs.Outcome.{Reading}
use Rattle.writer.specs.Layout.{code_of, constant_of, class_bytes, node_bytes, edge_bytes, start_bytes, layout}
use Rattle.record.specs.Held.{Held}
use Rattle.record.specs.Rows.{slice_front}
use Rattle.record.specs.LayoutSize.{class-width, node-width, edge-width, start-width, scheduled-le}
use Rattle.record.specs.LayoutSlices.{class-slice, node-slice, edge-slice, start-slice}
use Rattle.record.specs.FirstOf.{first-is}
use Rattle.record.specs.ReadRows.{Slot, slot_bytes}
use Rattle.record.specs.Sofar.{head_classes, head_nodes, head_edges, head_length, nodes_from, edges_from, starts_after, no_edge, no_slot, slot_of, ReadSofar}
use Rattle.record.specs.ReadAll.{head_starts, StartsSofar}
use Rattle.record.specs.LaidHeader.{Counts, followed, counts}

-- rows with the same bytes are the same
class_same : (a b : Class) → class_bytes a ≡ class_bytes b → a ≡ b
unfolding class_bytes
class_same a b e =
    let l : a.latency ≡ b.latency = cc in
    let u : a.units ≡ b.units = cc in
    let p : a.pipelined ≡ b.pipelined = cc in
    λ i. record { latency = l i; units = u i; pipelined = p i }

edge_same : (a b : Edge) → edge_bytes a ≡ edge_bytes b → a ≡ b
unfolding edge_bytes
edge_same a b e =
    let u : a.from ≡ b.from = cc in
    let v : a.to ≡ b.to = cc in
    let d : a.delays ≡ b.delays = cc in
    λ i. record { from = u i; to = v i; delays = d i }

bytes_same : (width x y : ℕ) → x < 256 ^ width → y < 256 ^ width → (p q : List ℕ) → bytes_of width x ++ p ≡ bytes_of width y ++ q → x ≡ y
bytes_same width x y l m p q e = sym (number-front width x p l) ∙ ap (λ (t : List ℕ). number_at width t 0) e ∙ number-front width y q m

operation-same : (o p : Operation) → code_of o ≡ code_of p → constant_of o ≡ constant_of p → o ≡ p
operation-same (Add a) (Add b) c k = ap Add k
operation-same (Add a) (Sub b) c k = absurd (omega arith)
operation-same (Add a) (Mul b) c k = absurd (omega arith)
operation-same (Sub a) (Add b) c k = absurd (omega arith)
operation-same (Sub a) (Sub b) c k = ap Sub k
operation-same (Sub a) (Mul b) c k = absurd (omega arith)
operation-same (Mul a) (Add b) c k = absurd (omega arith)
operation-same (Mul a) (Sub b) c k = absurd (omega arith)
operation-same (Mul a) (Mul b) c k = ap Mul k

node-same : (a b : Node) → constant_of a.operation < 4294967296 → constant_of b.operation < 4294967296 → node_bytes a ≡ node_bytes b → a ≡ b
unfolding node_bytes
node-same a b l m e =
    let c : a.class ≡ b.class = cc in
    let o : code_of a.operation ≡ code_of b.operation = cc in
    let k : bytes_of 4 (constant_of a.operation) ≡ bytes_of 4 (constant_of b.operation) = cc in
    let n : constant_of a.operation ≡ constant_of b.operation =
    bytes_same 4 (constant_of a.operation) (constant_of b.operation) l m [] [] (ap (λ (t : List ℕ). t ++ []) k) in
    λ i. record { class = c i; operation = operation-same a.operation b.operation o n i }

slot_same : (a b : Slot) → a.start.0 < 65536 → b.start.0 < 65536 → slot_bytes a ≡ slot_bytes b → a ≡ b
unfolding start_bytes bytes_of
slot_same a b l m e =
    let s : a.start.0 ≡ b.start.0 = bytes_same 2 a.start.0 b.start.0 l m (a.retiming ∷ []) (b.retiming ∷ []) e in
    let r : a.retiming ≡ b.retiming = cc in
    λ i. record { start = record { 0 = s i }; retiming = r i }

module _ (f : Form) (h : Held f) (rest : List ℕ) where
  -- the form's rows, at the offsets that the header read gives
  module _ (k : Counts f (followed f rest)) where
    -- class i stands at its place of the table
    pub class-laid : (i : ℕ) → i < head_classes (followed f rest) → take 3 (drop (classes_at + 3 * i) (followed f rest)) ≡ class_bytes (class_of f i)
    class-laid i l =
        slice_front (layout f) rest (class_bytes (class_of f i)) (classes_at + 3 * i) 3 (class-slice f k.fits i (omega (arith, k.classes))) (class-width (class_of f i)) (omega arith)

    -- node v stands at its place of the table
    pub node-laid : (v : ℕ) → v < head_nodes (followed f rest) → take 6 (drop (nodes_from (followed f rest) + 6 * v) (followed f rest)) ≡ node_bytes (node_of f v)
    node-laid v l =
        let at : nodes_at f.header + 6 * v ≡ nodes_from (followed f rest) + 6 * v = omega (arith, k.classes) in
        subst (λ (a : ℕ). take 6 (drop a (followed f rest)) ≡ node_bytes (node_of f v)) at
        (slice_front (layout f) rest (node_bytes (node_of f v)) (nodes_at f.header + 6 * v) 6 (node-slice f k.fits v (omega (arith, k.nodes))) (node-width (node_of f v)) (omega arith))

    -- edge e stands at its place of the table
    pub edge-laid : (e : ℕ) → e < head_edges (followed f rest) → take 3 (drop (edges_from (followed f rest) + 3 * e) (followed f rest)) ≡ edge_bytes (edge_of f e)
    edge-laid e l =
        let at : edges_at f.header + 3 * e ≡ edges_from (followed f rest) + 3 * e = omega (arith, k.classes, k.nodes) in
        subst (λ (a : ℕ). take 3 (drop a (followed f rest)) ≡ edge_bytes (edge_of f e)) at
        (slice_front (layout f) rest (edge_bytes (edge_of f e)) (edges_at f.header + 3 * e) 3 (edge-slice f k.fits e (omega (arith, k.edges))) (edge-width (edge_of f e)) (omega arith))

    -- as many starts are read as the form has
    pub starts-same : head_starts (followed f rest) ≡ scheduled_of f.header.length f.header.nodes
    starts-same = ap₂ scheduled_of k.last k.nodes

    -- the start of node v stands at its place of the table
    pub start-laid : (v : ℕ) → v < head_starts (followed f rest) → take 3 (drop (starts_after (followed f rest) + 3 * v) (followed f rest)) ≡ slot_bytes (slot_of f v)
    start-laid v l =
        let at : starts_at f.header + 3 * v ≡ starts_after (followed f rest) + 3 * v = omega (arith, k.classes, k.nodes, k.edges) in
        subst (λ (a : ℕ). take 3 (drop a (followed f rest)) ≡ slot_bytes (slot_of f v)) at
        (slice_front (layout f) rest (slot_bytes (slot_of f v)) (starts_at f.header + 3 * v) 3 (start-slice f k.fits v (omega (arith, starts-same))) (start-width (start_of f v) (retiming_of f v)) (omega arith))

  -- the rows that are read so far are the form's
  module _ (c n e t at : ℕ) (x : Reading) (p : ReadSofar (followed f rest) c n e t at x) where
    same-counts : Counts f (followed f rest)
    same-counts = counts f h rest p.head

    -- a class that is read is the form's
    pub class-agrees : (i : ℕ) → i < c → i < head_classes (followed f rest) → class_of x.form i ≡ class_of f i
    class-agrees i l m = class_same (class_of x.form i) (class_of f i) (p.class.laid i l ∙ class-laid same-counts i m)

    -- a node that is read is the form's
    pub node-agrees : (v : ℕ) → v < n → v < head_nodes (followed f rest) → node_of x.form v ≡ node_of f v
    node-agrees v l m =
        node-same (node_of x.form v) (node_of f v) (p.node.good v l).constant (h.node v (omega (arith, p.head.nodes))).constant
        (p.node.laid v l ∙ node-laid same-counts v m)

    -- an edge that is read is the form's
    pub edge-agrees : (i : ℕ) → i < e → i < head_edges (followed f rest) → edge_of x.form i ≡ edge_of f i
    edge-agrees i l m = edge_same (edge_of x.form i) (edge_of f i) (p.edge.laid i l ∙ edge-laid same-counts i m)

    -- a start and retiming that are read are the form's
    pub slot-agrees : (v : ℕ) → v < t → v < head_starts (followed f rest) → slot_of x.form v ≡ slot_of f v
    slot-agrees v l m =
        let small : start_of x.form v < 65536 = omega (arith, (p.start.good v l).ends, p.head.last) in
        slot_same (slot_of x.form v) (slot_of f v) small
        (h.start v (omega (arith, scheduled-le (head_length (followed f rest)) (head_nodes (followed f rest)), p.head.nodes)))
        (p.start.laid v l ∙ start-laid same-counts v m)

  -- what is read whole is the form with its unused places 0
  pub reads-used : (x : Reading) → StartsSofar (followed f rest) (head_starts (followed f rest)) x → x.form ≡ used f
  unfolding used
  reads-used x p =
      let g : Form = x.form in
      let k : Counts f (followed f rest) = counts f h rest p.head in
      let edge : (i : ℕ) → i < f.header.edges → edge_of g i ≡ edge_of f i = λ i l. edge-agrees _ _ _ _ _ x p i (omega (arith, k.edges)) (omega (arith, k.edges)) in
      let past : (i : ℕ) → f.header.edges ≤ i → edge_of g i ≡ no_edge = λ i l. p.edge.rest i (omega (arith, k.edges)) in
      let t : ℕ = scheduled_of f.header.length f.header.nodes in
      let slot : (v : ℕ) → v < t → slot_of g v ≡ slot_of f v = λ v l. slot-agrees _ _ _ _ _ x p v (omega (arith, starts-same k)) (omega (arith, starts-same k)) in
      let free : (v : ℕ) → t ≤ v → slot_of g v ≡ no_slot = λ v l. p.start.rest v (omega (arith, starts-same k)) in
      λ i. record {
        header = record { classes = (p.counts.classes ∙ k.classes) i; nodes = (p.counts.nodes ∙ k.nodes) i; edges = (p.counts.edges ∙ k.edges) i; length = (p.counts.last ∙ k.last) i };
        class =
            first-is f.header.classes no_class f.class g.class (p.class.sized ∙ sym h.sized.class)
            (λ j l. class-agrees _ _ _ _ _ x p j (omega (arith, k.classes)) (omega (arith, k.classes)))
            (λ j l. p.class.rest j (omega (arith, k.classes)))
            i;
        node =
            first-is f.header.nodes no_node f.node g.node (p.node.sized ∙ sym h.sized.node)
            (λ j l. node-agrees _ _ _ _ _ x p j (omega (arith, k.nodes)) (omega (arith, k.nodes)))
            (λ j l. p.node.rest j (omega (arith, k.nodes)))
            i;
        from =
            first-is f.header.edges 0 f.from g.from (p.edge.sized.0 ∙ sym h.sized.from)
            (λ j l. ap (λ (q : Edge). q.from) (edge j l))
            (λ j l. ap (λ (q : Edge). q.from) (past j l))
            i;
        to =
            first-is f.header.edges 0 f.to g.to (p.edge.sized.1 ∙ sym h.sized.to)
            (λ j l. ap (λ (q : Edge). q.to) (edge j l))
            (λ j l. ap (λ (q : Edge). q.to) (past j l))
            i;
        delays =
            first-is f.header.edges 0 f.delays g.delays (p.edge.sized.2 ∙ sym h.sized.delays)
            (λ j l. ap (λ (q : Edge). q.delays) (edge j l))
            (λ j l. ap (λ (q : Edge). q.delays) (past j l))
            i;
        start =
            first-is t no_step f.start g.start (p.start.sized.0 ∙ sym h.sized.start)
            (λ j l. ap (λ (q : Slot). q.start) (slot j l))
            (λ j l. ap (λ (q : Slot). q.start) (free j l))
            i;
        retiming =
            first-is t 0 f.retiming g.retiming (p.start.sized.1 ∙ sym h.sized.retiming)
            (λ j l. ap (λ (q : Slot). q.retiming) (slot j l))
            (λ j l. ap (λ (q : Slot). q.retiming) (free j l))
            i;
      }
