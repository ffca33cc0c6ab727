-- A row of each table of a record: its fields in layout order, each with its width, its range and its kind.
-- Assumes nothing.
use Rattle.std.specs.Prelude.{List, ℕ, ◌+◌, ◌-◌, eqb, Result}
use Rattle.lists.specs.Pick.{pick}
use Rattle.form.specs.declared.Operation.{Operation}
use Rattle.form.specs.declared.Operation.TheVariants.{Add, Sub, Mul}
use Rattle.form.specs.declared.Class.{Class}
use Rattle.form.specs.declared.Node.{Node}
use Rattle.form.specs.declared.Edge.{Edge}
use Rattle.answer.specs.declared.Refusal.{Refusal}
use Rattle.field.specs.Outcome.{Cursor, Taken, Reads}
use Rattle.field.specs.declared.Kind.TheVariants as kind
use Rattle.field.specs.Taking.{taken, onward}
use Rattle.rows.specs.declared.Placed.{Placed}
use Rattle.rows.specs.Outcome.{ClassRow, NodeRow, EdgeRow, StartRow}

-- a class: latency 1 to 8, units 1 to 8, plain 0 or pipelined 1
module _ (s : List ℕ) (c : Cursor) where
  abbrev pub latency_in : Taken
  latency_in = taken s c 1 1 8 kind.Machine

  abbrev pub units_in : Taken
  units_in = taken s latency_in.next 1 1 8 kind.Machine

  abbrev pub pipelined_in : Taken
  pipelined_in = taken s units_in.next 1 0 1 kind.Machine

  unfoldable pub class_at : ClassRow
  class_at = record {
    class = record { latency = latency_in.value; units = units_in.value; pipelined = pipelined_in.value };
    next = pipelined_in.next;
  }

-- add 0, sub 1, mul 2, with the constant
unfoldable pub operation_of : ℕ → ℕ → Operation
operation_of code constant = pick (eqb code 0) (Add constant) (pick (eqb code 1) (Sub constant) (Mul constant))

-- a node: a class below the number of classes, an operation 0 to 2, a constant of 32 bits
module _ (s : List ℕ) (c : Cursor) (classes : ℕ) where
  abbrev pub class_in : Taken
  class_in = taken s c 1 0 (classes - 1) kind.Node

  abbrev pub code_in : Taken
  code_in = taken s class_in.next 1 0 2 kind.Node

  abbrev pub constant_in : Taken
  constant_in = taken s code_in.next 4 0 4294967295 kind.Node

  unfoldable pub node_at : NodeRow
  node_at = record {
    node = record { class = class_in.value; operation = operation_of code_in.value constant_in.value };
    next = constant_in.next;
  }

-- an edge: tail and head below the number of nodes, 0 to 15 delays
module _ (s : List ℕ) (c : Cursor) (nodes : ℕ) where
  abbrev pub from_in : Taken
  from_in = taken s c 1 0 (nodes - 1) kind.Edge

  abbrev pub to_in : Taken
  to_in = taken s from_in.next 1 0 (nodes - 1) kind.Edge

  abbrev pub delays_in : Taken
  delays_in = taken s to_in.next 1 0 15 kind.Edge

  unfoldable pub edge_at : EdgeRow
  edge_at = record {
    edge = record { from = from_in.value; to = to_in.value; delays = delays_in.value };
    next = delays_in.next;
  }

-- a node's start, from 1 to the last step from which it ends in the body, and its retiming 0 to 63
module _ (s : List ℕ) (c : Cursor) (length latency : ℕ) where
  abbrev pub start_in : Taken
  start_in = taken s c 2 1 (length + 1 - latency) kind.Start

  abbrev pub retiming_in : Taken
  retiming_in = taken s start_in.next 1 0 63 kind.Retiming

  unfoldable pub start_at : StartRow
  start_at = record { start = record { 0 = start_in.value }; retiming = retiming_in.value; next = retiming_in.next }

-- a row read at an offset: what it holds with the cursor past it, or what is refused of it
abbrev pub ClassRead : List ℕ → ℕ → Result Class Refusal → Type 0
ClassRead s at = Reads (λ k. record { class = k; next = onward (at + 3) }) (λ (row : ClassRow). row.next) (class_at s (onward at))

abbrev pub NodeRead : List ℕ → ℕ → ℕ → Result Node Refusal → Type 0
NodeRead s at classes = Reads (λ k. record { node = k; next = onward (at + 6) }) (λ (row : NodeRow). row.next) (node_at s (onward at) classes)

abbrev pub EdgeRead : List ℕ → ℕ → ℕ → Result Edge Refusal → Type 0
EdgeRead s at nodes = Reads (λ k. record { edge = k; next = onward (at + 3) }) (λ (row : EdgeRow). row.next) (edge_at s (onward at) nodes)

abbrev pub StartRead : List ℕ → ℕ → ℕ → ℕ → Result Placed Refusal → Type 0
StartRead s at length latency =
    Reads (λ k. record { start = k.start; retiming = k.retiming; next = onward (at + 3) }) (λ (row : StartRow). row.next) (start_at s (onward at) length latency)
