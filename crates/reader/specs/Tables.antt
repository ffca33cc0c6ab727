-- The header and the tables of a record: row after row until one is refused.
-- Assumes nothing.
use Rattle.std.specs.Prelude.{◌≡◌, List, ℕ, zero, suc, ◌+◌, ◌*◌, ◌≤◌, replicate, Result, IfOk}
use Rattle.lists.specs.Pick.{pick}
use Rattle.answer.specs.Refused.{fine}
use Rattle.answer.specs.declared.Refusal.{Refusal}
use Rattle.form.specs.declared.Form.{Form}
use Rattle.form.specs.declared.Header.{Header}
use Rattle.form.specs.declared.Class.{Class}
use Rattle.form.specs.declared.Node.{Node}
use Rattle.form.specs.Places.{no_class, no_node, no_step, empty_form, latency_of, with_counts, with_class, with_node, with_edge, with_start, with_classes, with_nodes, with_edges, with_starts, with_header}
use Rattle.field.specs.Outcome.{Taken, Reads}
use Rattle.field.specs.declared.Kind.TheVariants.{Mark, Version, Count}
use Rattle.field.specs.Taking.{taken, onward}
use Rattle.reader.specs.Outcome.{Reading, EdgeTable, PlacedTable, edge_table, placed_table}
use Rattle.rows.specs.Rows.{class_at, node_at, edge_at, start_at}

-- the mark "RSK" as one number of three bytes, version 1, then C, N, E and L
module _ (s : List ℕ) where
  abbrev pub mark_in : Taken
  mark_in = taken s (onward 0) 3 4936530 4936530 Mark

  abbrev pub version_in : Taken
  version_in = taken s mark_in.next 2 1 1 Version

  abbrev pub classes_in : Taken
  classes_in = taken s version_in.next 1 1 4 Count

  abbrev pub nodes_in : Taken
  nodes_in = taken s classes_in.next 1 1 64 Count

  abbrev pub edges_in : Taken
  edges_in = taken s nodes_in.next 2 0 256 Count

  abbrev pub length_in : Taken
  length_in = taken s edges_in.next 2 0 512 Count

  unfoldable pub header_of : Reading
  header_of = record {
    form = with_counts empty_form classes_in.value nodes_in.value edges_in.value length_in.value;
    next = length_in.next;
  }

-- so many rows from number i on; after a refusal nothing is read
unfoldable pub table : (ℕ → Reading → Reading) → ℕ → ℕ → Reading → Reading
table step zero i x = x
table step (suc left) i x = pick (fine x.next.refusal) (table step left (i + 1) (step i x)) x

-- row i into its place
unfoldable pub class_step : List ℕ → ℕ → Reading → Reading
class_step s i x = record { form = with_class x.form i (class_at s x.next).class; next = (class_at s x.next).next }

unfoldable pub node_step : List ℕ → ℕ → Reading → Reading
node_step s v x = record {
  form = with_node x.form v (node_at s x.next x.form.header.classes).node;
  next = (node_at s x.next x.form.header.classes).next;
}

unfoldable pub edge_step : List ℕ → ℕ → Reading → Reading
edge_step s e x = record {
  form = with_edge x.form e (edge_at s x.next x.form.header.nodes).edge;
  next = (edge_at s x.next x.form.header.nodes).next;
}

unfoldable pub start_step : List ℕ → ℕ → Reading → Reading
start_step s v x = record {
  form =
      with_start x.form v
      (start_at s x.next x.form.header.length (latency_of x.form v)).start
      (start_at s x.next x.form.header.length (latency_of x.form v)).retiming;
  next = (start_at s x.next x.form.header.length (latency_of x.form v)).next;
}

-- a form that is read up to an offset
abbrev pub reading : Form → ℕ → Reading
reading f at = record { form = f; next = onward at }

-- what a stage of the reading answers, from its value: the form and the offset past it, as the definition makes them, or the definition's refusal
abbrev pub Staged : {A : Type 0} → (A → Reading) → Reading → Result A Refusal → Type 0
Staged made whole = Reads made (λ (x : Reading). x.next) whole

-- the counts of a header, as far as the tables go
pub record Few (h : Header) : Type 0 where
  pub classes : h.classes ≤ 4
  pub nodes : h.nodes ≤ 64
  pub edges : h.edges ≤ 256
  pub length : h.length ≤ 512

pub record Headed (s : List ℕ) (r : Result Header Refusal) : Type 0 where
  pub is : Staged (λ h. reading (with_header empty_form h) 11) (header_of s) r
  pub few : IfOk r Few

-- a table of n rows of a width, read from an offset into a form that begins with none of them
abbrev pub TableRead : {A : Type 0} → (ℕ → Reading → Reading) → ℕ → ℕ → ℕ → (A → Form) → A → Result A Refusal → Type 0
TableRead step n width at made none = Staged (λ a. reading (made a) (at + width * n)) (table step n 0 (reading (made none) at))

-- the tables of none, which each stage begins with
abbrev pub no_classes : List Class
no_classes = replicate 4 no_class

abbrev pub no_nodes : List Node
no_nodes = replicate 64 no_node

abbrev pub no_edges : EdgeTable
no_edges = edge_table (replicate 256 0) (replicate 256 0) (replicate 256 0)

abbrev pub no_starts : PlacedTable
no_starts = placed_table (replicate 64 no_step) (replicate 64 0)

-- each table, read into whatever form holds the counts
abbrev pub ClassesRead : List ℕ → ℕ → ℕ → Result (List Class) Refusal → Type 0
ClassesRead s at n r = (f : Form) → TableRead (class_step s) n 3 at (with_classes f) no_classes r

abbrev pub NodesRead : List ℕ → ℕ → ℕ → ℕ → Result (List Node) Refusal → Type 0
NodesRead s at classes n r = (f : Form) → f.header.classes ≡ classes → TableRead (node_step s) n 6 at (with_nodes f) no_nodes r

abbrev pub with_edge_rows : Form → EdgeTable → Form
with_edge_rows f t = with_edges f t.from t.to t.delays

abbrev pub EdgesRead : List ℕ → ℕ → ℕ → ℕ → Result EdgeTable Refusal → Type 0
EdgesRead s at nodes n r = (f : Form) → f.header.nodes ≡ nodes → TableRead (edge_step s) n 3 at (with_edge_rows f) no_edges r

abbrev pub with_start_rows : Form → PlacedTable → Form
with_start_rows f t = with_starts f t.start t.retiming

abbrev pub StartsRead : List ℕ → ℕ → ℕ → List Class → List Node → ℕ → Result PlacedTable Refusal → Type 0
StartsRead s at l ks ns n r =
    (f : Form) → f.header.length ≡ l → f.class ≡ ks → f.node ≡ ns → TableRead (start_step s) n 3 at (with_start_rows f) no_starts r
