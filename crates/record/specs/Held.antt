-- A held form: its numbers fit their types and its tables have their lengths.
-- Assumes nothing.
use Rattle.std.specs.Prelude.{◌≡◌, ℕ, ◌≤◌, ◌<◌, length}
use Rattle.form.specs.declared.Form.{Form}
use Rattle.form.specs.declared.Class.{Class}
use Rattle.form.specs.declared.Node.{Node}
use Rattle.form.specs.declared.Edge.{Edge}
use Rattle.form.specs.Places.{class_of, node_of, edge_of, start_of, retiming_of}
use Rattle.writer.specs.Layout.{constant_of}

-- the tables have their places
pub record Sized (f : Form) : Type 0 where
  pub class : length f.class ≡ 4
  pub node : length f.node ≡ 64
  pub from : length f.from ≡ 256
  pub to : length f.to ≡ 256
  pub delays : length f.delays ≡ 256
  pub start : length f.start ≡ 64
  pub retiming : length f.retiming ≡ 64

-- a class of three bytes
pub record HeldClass (k : Class) : Type 0 where
  pub latency : k.latency < 256
  pub units : k.units < 256
  pub pipelined : k.pipelined < 256

-- a node with a byte for its class and a constant of 32 bits
pub record HeldNode (k : Node) : Type 0 where
  pub class : k.class < 256
  pub constant : constant_of k.operation < 4294967296

-- an edge of three bytes
pub record HeldEdge (k : Edge) : Type 0 where
  pub from : k.from < 256
  pub to : k.to < 256
  pub delays : k.delays < 256

-- a form as the code holds it
pub record Held (f : Form) : Type 0 where
  pub sized : Sized f
  pub classes : f.header.classes < 256
  pub nodes : f.header.nodes < 256
  pub edges : f.header.edges < 65536
  pub length : f.header.length < 65536
  pub class : (i : ℕ) → i < 4 → HeldClass (class_of f i)
  pub node : (v : ℕ) → v < 64 → HeldNode (node_of f v)
  pub edge : (e : ℕ) → e < 256 → HeldEdge (edge_of f e)
  pub start : (v : ℕ) → v < 64 → start_of f v < 65536
  pub retiming : (v : ℕ) → v < 64 → retiming_of f v < 256

-- the tables have places for their counts
pub record CountsFit (f : Form) : Type 0 where
  pub classes : f.header.classes ≤ 4
  pub nodes : f.header.nodes ≤ 64
  pub edges : f.header.edges ≤ 256
