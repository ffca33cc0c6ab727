-- The record at the front, table after table: everything read so far, or the refusal of the field that stopped it.
-- Assumes nothing.
use Rattle.std.specs.Prelude.{◌≡◌, refl, true, false, List, ℕ, ◌+◌, ◌*◌, ◌<◌, None}
use Rattle.std.proofs.Math.Path.{ap₂}
use Rattle.std.proofs.Common.{arith}
use Rattle.lists.specs.Pick.{pick_ind, both_ways}
use Rattle.answer.specs.Refused.{Verdict, fine}
use Rattle.form.specs.Places.{scheduled_of}
use Rattle.form.specs.Offsets.{classes_at}
use Rattle.field.specs.Number.{Bytes}
use Rattle.reader.specs.Outcome.{Reading}
use Rattle.reader.specs.Tables.{header_of, class_step, node_step, edge_step, start_step}
use Rattle.reader.specs.Reading.{classes_read, nodes_read, edges_read, starts_read, normalized, end_of}
use Rattle.record.specs.LayoutSize.{scheduled-le}
use Rattle.record.specs.Runs.{Runs, runs_on, table_runs}
use Rattle.record.specs.Sofar.{head_classes, head_nodes, head_edges, head_length, nodes_from, edges_from, starts_after, ReadSofar, moved, header-on, class-on, node-on, edge_on, start-on}

-- as many starts as the header says
abbrev pub head_starts : List ℕ → ℕ
head_starts s = scheduled_of (head_length s) (head_nodes s)

-- what is read of each table after so many of its rows
abbrev pub ClassesSofar : List ℕ → ℕ → Reading → Type 0
ClassesSofar s i = ReadSofar s i 0 0 0 (classes_at + 3 * i)

abbrev pub NodesSofar : List ℕ → ℕ → Reading → Type 0
NodesSofar s v = ReadSofar s (head_classes s) v 0 0 (nodes_from s + 6 * v)

abbrev pub EdgesSofar : List ℕ → ℕ → Reading → Type 0
EdgesSofar s e = ReadSofar s (head_classes s) (head_nodes s) e 0 (edges_from s + 3 * e)

abbrev pub StartsSofar : List ℕ → ℕ → Reading → Type 0
StartsSofar s v = ReadSofar s (head_classes s) (head_nodes s) (head_edges s) v (starts_after s + 3 * v)

-- a table's row that is refused after all before it were read
abbrev pub Refuses : (ℕ → Reading → Reading) → (ℕ → Reading → Type 0) → ℕ → (Verdict → Type 0) → Type 0
Refuses step P n Q = (i : ℕ) (x : Reading) → i < n → P i x → fine (step i x).next.refusal ≡ false → Q (step i x).next.refusal

module _ (s : List ℕ) (b : Bytes s) (Q : Verdict → Type 0)
    (header-off : fine (header_of s).next.refusal ≡ false → Q (header_of s).next.refusal)
    (class-off : Refuses (class_step s) (ClassesSofar s) (head_classes s) Q)
    (node-off : Refuses (node_step s) (NodesSofar s) (head_nodes s) Q)
    (edge-off : Refuses (edge_step s) (EdgesSofar s) (head_edges s) Q)
    (start-off : Refuses (start_step s) (StartsSofar s) (head_starts s) Q) where
  classes-run : Runs (ClassesSofar s (head_classes s)) Q (classes_read s)
  unfolding classes_read
  classes-run =
      runs_on {P = ClassesSofar s 0} (class_step s) (head_classes s) 0 (header_of s) (record { on = header-on s b; off = header-off })
      (λ f p. table_runs (class_step s) (ClassesSofar s) Q (head_classes s) (λ i x l q. record { on = class-on s b i x l q; off = class-off i x l q }) (head_classes s) 0 (header_of s) (omega arith) f p)

  nodes-run : Runs (NodesSofar s (head_nodes s)) Q (nodes_read s)
  unfolding nodes_read
  nodes-run =
      runs_on (node_step s) (classes_read s).form.header.nodes 0 (classes_read s) classes-run
      (λ f p.
      table_runs (node_step s) (NodesSofar s) Q (head_nodes s) (λ v x l q. record { on = node-on s b v x l q; off = node-off v x l q }) (classes_read s).form.header.nodes 0 (classes_read s) (omega (arith, p.counts.nodes)) f
      (moved s (head_classes s) 0 0 0 _ (nodes_from s + 6 * 0) (classes_read s) (omega arith) p))

  edges-run : Runs (EdgesSofar s (head_edges s)) Q (edges_read s)
  unfolding edges_read
  edges-run =
      runs_on (edge_step s) (nodes_read s).form.header.edges 0 (nodes_read s) nodes-run
      (λ f p.
      table_runs (edge_step s) (EdgesSofar s) Q (head_edges s) (λ e x l q. record { on = edge_on s b e x l q; off = edge-off e x l q }) (nodes_read s).form.header.edges 0 (nodes_read s) (omega (arith, p.counts.edges)) f
      (moved s (head_classes s) (head_nodes s) 0 0 _ (edges_from s + 3 * 0) (nodes_read s) (omega arith) p))

  -- a whole record: all of its rows are read, or Q of the refusal
  pub starts-run : Runs (StartsSofar s (head_starts s)) Q (starts_read s)
  unfolding starts_read
  starts-run =
      runs_on (start_step s) (scheduled_of (edges_read s).form.header.length (edges_read s).form.header.nodes) 0 (edges_read s) edges-run
      (λ f p.
      table_runs (start_step s) (StartsSofar s) Q (head_starts s)
      (λ v x l q. record { on = start-on s b v x (omega (arith, scheduled-le (head_length s) (head_nodes s))) q; off = start-off v x l q })
      (scheduled_of (edges_read s).form.header.length (edges_read s).form.header.nodes) 0 (edges_read s) (omega (arith, ap₂ scheduled_of p.counts.last p.counts.nodes)) f
      (moved s (head_classes s) (head_nodes s) (head_edges s) 0 _ (starts_after s + 3 * 0) (edges_read s) (omega arith) p))

-- what a fine end tells
pub record Ended (x : Reading) (r : Verdict) : Type 0 where
  pub begun : fine x.next.refusal ≡ true
  pub normal : normalized x.form.header.length x.form.header.nodes x.form.retiming ≡ true
  pub none : r ≡ None

-- a fine end: nothing is refused, and a retiming is 0
pub ended : (x : Reading) → fine (end_of x) ≡ true → Ended x (end_of x)
unfolding end_of fine
ended x =
    let P : Verdict → Type 0 = λ r. fine r ≡ true → Ended x r in
    pick_ind P (fine x.next.refusal) _ _
    (λ f. pick_ind P (normalized x.form.header.length x.form.header.nodes x.form.retiming) _ _ (λ n e. record { begun = f; normal = n; none = refl }) (λ n e. both_ways e refl))
    (λ f e. both_ways e f)
