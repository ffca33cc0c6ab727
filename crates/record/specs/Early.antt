-- What the reader refuses is a refusal of the layout, number 10 at most; no cycle is handed over beside one.
-- Assumes nothing.
use Rattle.std.specs.Prelude.{List, ltb, length}
use Prim.Native.Nat.{ℕ, zero, suc, ◌+◌, ◌≤◌}
use Rattle.std.proofs.Common.{arith}
use Rattle.lists.specs.Pick.{pick_ind}
use Rattle.answer.specs.Refused.{Verdict, number_of, fine}
use Rattle.field.specs.declared.Kind.{Kind}
use Rattle.field.specs.declared.Kind.TheVariants.{Mark, Version, Count, Machine, Node, Edge, Start, Retiming}
use Rattle.field.specs.Outcome.{Cursor, Taken}
use Rattle.field.specs.Number.{number_at}
use Rattle.field.specs.Taking.{wrong_at, onward, taken}
use Rattle.reader.specs.Outcome.{Reading, Prefix}
use Rattle.rows.specs.Rows.{class_at, node_at, edge_at, start_at}
use Rattle.reader.specs.Tables.{header_of, table, class_step, node_step, edge_step, start_step}
use Rattle.reader.specs.Reading.{classes_read, nodes_read, edges_read, starts_read, normalized, end_of, fronted, prefix_of, tail_of, answered, read_form}

abbrev Early : Cursor → Type 0
Early c = number_of c.refusal ≤ 10

wrong-early : (kind : Kind) (at : ℕ) → number_of (wrong_at kind at) ≤ 10
wrong-early Mark at = omega arith
wrong-early Version at = omega arith
wrong-early Count at = omega arith
wrong-early Machine at = omega arith
wrong-early Node at = omega arith
wrong-early Edge at = omega arith
wrong-early Start at = omega arith
wrong-early Retiming at = omega arith

module _ (s : List ℕ) where
  field-early : (c : Cursor) (width low high : ℕ) (kind : Kind) → Early c → Early (taken s c width low high kind).next
  unfolding taken
  field-early c width low high kind h =
      let P : Taken → Type 0 = λ t. Early t.next in
      pick_ind P (fine c.refusal) _ _
      (λ f. pick_ind P (ltb (length s) (c.at + width)) _ _ (λ e. omega arith)
      (λ e. pick_ind P (ltb (number_at width s c.at) low) _ _ (λ l. wrong-early kind c.at)
      (λ l. pick_ind P (ltb high (number_at width s c.at)) _ _ (λ m. wrong-early kind c.at) (λ m. omega arith))))
      (λ f. h)

  header-early : Early (header_of s).next
  unfolding header_of
  header-early =
      field-early _ 2 0 512 Count
      (field-early _ 2 0 256 Count
      (field-early _ 1 1 64 Count (field-early _ 1 1 4 Count (field-early _ 2 1 1 Version (field-early (onward 0) 3 4936530 4936530 Mark (omega arith))))))

  table-early : (step : ℕ → Reading → Reading) → ((i : ℕ) (x : Reading) → Early x.next → Early (step i x).next)
      → (n i : ℕ) (x : Reading) → Early x.next → Early (table step n i x).next
  unfolding table
  table-early step keeps zero i x h = h
  table-early step keeps (suc n) i x h =
      pick_ind (λ (r : Reading). Early r.next) (fine x.next.refusal) _ _ (λ f. table-early step keeps n (i + 1) (step i x) (keeps i x h)) (λ f. h)

  class-early : (i : ℕ) (x : Reading) → Early x.next → Early (class_step s i x).next
  unfolding class_step class_at
  class-early i x h = field-early _ 1 0 1 Machine (field-early _ 1 1 8 Machine (field-early x.next 1 1 8 Machine h))

  node-early : (v : ℕ) (x : Reading) → Early x.next → Early (node_step s v x).next
  unfolding node_step node_at
  node-early v x h = field-early _ 4 0 4294967295 Node (field-early _ 1 0 2 Node (field-early x.next 1 0 _ Node h))

  edge-early : (e : ℕ) (x : Reading) → Early x.next → Early (edge_step s e x).next
  unfolding edge_step edge_at
  edge-early e x h = field-early _ 1 0 15 Edge (field-early _ 1 0 _ Edge (field-early x.next 1 0 _ Edge h))

  start-early : (v : ℕ) (x : Reading) → Early x.next → Early (start_step s v x).next
  unfolding start_step start_at
  start-early v x h = field-early _ 1 0 63 Retiming (field-early x.next 2 1 _ Start h)

  starts-early : Early (starts_read s).next
  unfolding starts_read edges_read nodes_read classes_read
  starts-early =
      table-early (start_step s) start-early _ 0 (edges_read s)
      (table-early (edge_step s) edge-early _ 0 (nodes_read s)
      (table-early (node_step s) node-early _ 0 (classes_read s) (table-early (class_step s) class-early _ 0 (header_of s) header-early)))

  pub prefix-early : number_of (prefix_of s).refusal ≤ 10
  unfolding prefix_of fronted end_of
  prefix-early =
      let x : Reading = starts_read s in
      let P : Verdict → Type 0 = λ r. number_of r ≤ 10 in
      pick_ind P (fine x.next.refusal) _ _
      (λ f. pick_ind P (normalized x.form.header.length x.form.header.nodes x.form.retiming) _ _ (λ n. omega arith) (λ n. omega arith))
      (λ f. starts-early)

  pub read-early : number_of (read_form s).refusal ≤ 10
  unfolding read_form answered tail_of
  read-early =
      let p : Prefix = prefix_of s in
      let P : Verdict → Type 0 = λ r. number_of r ≤ 10 in
      pick_ind P (fine p.refusal) _ _ (λ f. pick_ind P (ltb p.size (length s)) _ _ (λ l. omega arith) (λ l. omega arith)) (λ f. prefix-early)
