-- The bytes of a form, in layout order. A count past its table's places is laid out as it is, and the table as far as it goes.
-- Assumes nothing.
use Rattle.std.specs.Prelude.{List, [], ◌∷◌, ◌++◌, ℕ, min}
use Rattle.laid.specs.Rows.{rows}
use Rattle.form.specs.declared.Form.{Form}
use Rattle.form.specs.declared.Header.{Header}
use Rattle.form.specs.declared.Class.{Class}
use Rattle.form.specs.declared.Node.{Node}
use Rattle.form.specs.declared.Edge.{Edge}
use Rattle.form.specs.declared.Operation.{Operation}
use Rattle.form.specs.declared.Operation.TheVariants.{Add, Sub, Mul}
use Rattle.form.specs.Places.{class_of, node_of, edge_of, start_of, retiming_of, scheduled}
use Rattle.field.specs.Number.{bytes_of}

-- add 0, sub 1, mul 2
abbrev pub code_of : Operation → ℕ
code_of (Add k) = 0
code_of (Sub k) = 1
code_of (Mul k) = 2

abbrev pub constant_of : Operation → ℕ
constant_of (Add k) = k
constant_of (Sub k) = k
constant_of (Mul k) = k

-- a row of each table
unfoldable pub class_bytes : Class → List ℕ
class_bytes k = k.latency ∷ k.units ∷ k.pipelined ∷ []

unfoldable pub node_bytes : Node → List ℕ
node_bytes k = k.class ∷ code_of k.operation ∷ bytes_of 4 (constant_of k.operation)

unfoldable pub edge_bytes : Edge → List ℕ
edge_bytes k = k.from ∷ k.to ∷ k.delays ∷ []

unfoldable pub start_bytes : ℕ → ℕ → List ℕ
start_bytes s r = bytes_of 2 s ++ (r ∷ [])

-- the mark "RSK", version 1, C, N, E and L
unfoldable pub count_bytes : Header → List ℕ
count_bytes h = 82 ∷ 83 ∷ 75 ∷ 1 ∷ 0 ∷ h.classes ∷ h.nodes ∷ (bytes_of 2 h.edges ++ bytes_of 2 h.length)

abbrev pub header_bytes : Form → List ℕ
header_bytes f = count_bytes f.header

module _ (f : Form) where
  unfoldable pub class_rows : List ℕ
  class_rows = rows (λ i. class_bytes (class_of f i)) (min f.header.classes 4)

  unfoldable pub node_rows : List ℕ
  node_rows = rows (λ v. node_bytes (node_of f v)) (min f.header.nodes 64)

  unfoldable pub edge_rows : List ℕ
  edge_rows = rows (λ e. edge_bytes (edge_of f e)) (min f.header.edges 256)

  unfoldable pub start_rows : List ℕ
  start_rows = rows (λ v. start_bytes (start_of f v) (retiming_of f v)) (min (scheduled f) 64)

  unfoldable pub layout : List ℕ
  layout = header_bytes f ++ (class_rows ++ (node_rows ++ (edge_rows ++ start_rows)))
