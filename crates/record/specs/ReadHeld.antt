-- What is read can be held: its numbers fit their types and its tables have their lengths.
-- Assumes nothing.
use Rattle.std.specs.Prelude.{◌≡◌, true, List, ℕ, ◌≤◌, ◌<◌}
use Rattle.std.proofs.Common.{sym, subst, arith}
use Rattle.std.proofs.Math.Decide.{dec_lt}
use Rattle.answer.specs.Refused.{fine}
use Rattle.form.specs.Places.{no_class, no_node, class_of, node_of, edge_of}
use Rattle.field.specs.Number.{Bytes}
use Rattle.reader.specs.Outcome.{Reading}
use Rattle.reader.specs.Reading.{starts_read, prefix_of, read_form}
use Rattle.record.specs.Held.{HeldClass, HeldNode, HeldEdge, Held}
use Rattle.record.specs.Sofar.{head_classes, head_nodes, head_edges, no_edge, no_slot, slot_of}
use Rattle.record.specs.ReadAll.{head_starts, StartsSofar}
use Rattle.record.specs.Prefix.{prefix-read, prefix-whole}
use Rattle.record.specs.Read.{read-alone, read-form}

-- what holds of an unused place and of each of the first n holds of every place
everywhere : {A : Type 0} (P : A → Type 0) (none : A) (n : ℕ) (cell : ℕ → A) → P none → ((i : ℕ) → i < n → P (cell i)) → ((i : ℕ) → n ≤ i → cell i ≡ none)
    → (i : ℕ) → P (cell i)
everywhere P none n cell unused used rest i = elim (dec_lt i n) [ yes h ↦ used i h | no h ↦ subst P (sym (rest i (omega arith))) unused ]

-- a record of which every row is read
pub whole-held : (s : List ℕ) (x : Reading) → StartsSofar s (head_starts s) x → Held x.form
whole-held s x p =
    let slot : (v : ℕ) → ((slot_of x.form v).start.0 < 65536) × ((slot_of x.form v).retiming < 256) =
    everywhere (λ k. (k.start.0 < 65536) × (k.retiming < 256)) no_slot (head_starts s) (slot_of x.form) (omega arith)
    (λ v l. let g = p.start.good v l in omega (arith, p.head.last))
    p.start.rest in
    record {
      sized =
          record {
            class = p.class.sized;
            node = p.node.sized;
            from = p.edge.sized.0;
            to = p.edge.sized.1;
            delays = p.edge.sized.2;
            start = p.start.sized.0;
            retiming = p.start.sized.1;
          };
      classes = omega (arith, p.counts.classes, p.head.classes);
      nodes = omega (arith, p.counts.nodes, p.head.nodes);
      edges = omega (arith, p.counts.edges, p.head.edges);
      length = omega (arith, p.counts.last, p.head.last);
      class = λ i l.
          everywhere HeldClass no_class (head_classes s) (class_of x.form) (record { latency = omega arith; units = omega arith; pipelined = omega arith })
          (λ j m. let g = p.class.good j m in record { latency = omega arith; units = omega arith; pipelined = omega arith })
          p.class.rest i;
      node = λ v l.
          everywhere HeldNode no_node (head_nodes s) (node_of x.form) (record { class = omega arith; constant = omega arith })
          (λ j m. let g = p.node.good j m in record { class = omega (arith, p.head.classes); constant = g.constant })
          p.node.rest v;
      edge = λ e l.
          everywhere HeldEdge no_edge (head_edges s) (edge_of x.form) (record { from = omega arith; to = omega arith; delays = omega arith })
          (λ j m. let g = p.edge.good j m in record { from = omega (arith, p.head.nodes); to = omega (arith, p.head.nodes); delays = omega arith })
          p.edge.rest e;
      start = λ v l. (slot v).0;
      retiming = λ v l. (slot v).1;
    }

-- the form at the front is held
pub prefix-held : (s : List ℕ) → Bytes s → fine (prefix_of s).refusal ≡ true → Held (prefix_of s).form
prefix-held s b f = rw (prefix-read s b f) (whole-held s (starts_read s) (prefix-whole s b f))

-- a form that is read is held
pub read_held : (s : List ℕ) → Bytes s → fine (read_form s).refusal ≡ true → Held (read_form s).form
read_held s b f = rw (read-form s f) (prefix-held s b (read-alone s f).begun)
