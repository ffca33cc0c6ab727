-- A loop on its board, and a schedule of it: what a form holds, read by number.
-- Assumes nothing.
use Rattle.std.specs.Prelude.{ℕ, get_or}
use Rattle.system.specs.Graph.{Graph}
use Rattle.form.specs.declared.Form.{Form}
use Rattle.form.specs.declared.Class.{Class}
use Rattle.form.specs.declared.Node.{Node}
use Rattle.form.specs.Places.{class_of, node_of, start_of, retiming_of}

-- the graph with the delays of its edges, the classes of the board, the nodes
pub record Loop : Type 0 where
  pub graph : Graph
  pub delay : ℕ → ℕ
  pub classes : ℕ
  pub class : ℕ → Class
  pub node : ℕ → Node

-- a schedule is plain, its operations ending in the body, or wrapped
pub data Kind : Type 0 where
  plain : Kind
  wrapped : Kind

-- how many steps of an operation of latency t must lie in the body: all of a plain pair's, the first of a wrapped one's
unfoldable pub within : Kind → ℕ → ℕ
within plain t = t
within wrapped t = 1

-- how many bodies an operation reaches into at most
unfoldable pub bodies : Kind → ℕ
bodies plain = 1
bodies wrapped = 8

-- starts, length and retimings
pub record Pair : Type 0 where
  pub kind : Kind
  pub start : ℕ → ℕ
  pub length : ℕ
  pub retiming : ℕ → ℕ

-- the class that node v runs on, and its latency
abbrev pub ran_on : Loop → ℕ → ℕ
ran_on g v = (g.node v).class

abbrev pub latency : Loop → ℕ → ℕ
latency g v = (g.class (ran_on g v)).latency

unfoldable pub graph_of : Form → Graph
graph_of f = record {
  nodes = f.header.nodes;
  edges = f.header.edges;
  tail = λ e. get_or f.from e 0;
  head = λ e. get_or f.to e 0;
}

unfoldable pub loop_of : Form → Loop
loop_of f = record {
  graph = graph_of f;
  delay = λ e. get_or f.delays e 0;
  classes = f.header.classes;
  class = class_of f;
  node = node_of f;
}

unfoldable pub pair_of : Form → Pair
pair_of f = record { kind = plain; start = start_of f; length = f.header.length; retiming = retiming_of f }
