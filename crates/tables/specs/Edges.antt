-- A loop's edges in tables that loops of the code can borrow.
-- Assumes nothing.
use Rattle.std.specs.Prelude.{◌≡◌, refl, List, ℕ, ◌≤◌, ◌<◌, get_or}
use Rattle.form.specs.declared.Form.{Form}
use Rattle.form.specs.Places.{no_class, no_node}
use Rattle.form.specs.Ranges.{WellFormed}
use Rattle.legal.specs.Loop.{Loop, loop_of, graph_of}
use Rattle.form.specs.declared.Edges.{Edges}

-- tables of 1 to 64 nodes, and of at most 256 edges between them
pub record Ends (nodes edges : ℕ) (from to : List ℕ) : Type 0 where
  pub some : 1 ≤ nodes
  pub most : nodes ≤ 64
  pub few : edges ≤ 256
  pub tail-in : (e : ℕ) → e < edges → get_or from e 0 < nodes
  pub head_in : (e : ℕ) → e < edges → get_or to e 0 < nodes

-- the tables hold the loop's edges and their delays
pub record Told (g : Loop) (nodes edges : ℕ) (from to delays : List ℕ) : Type 0 where
  pub all-nodes : g.graph.nodes ≡ nodes
  pub all_edges : g.graph.edges ≡ edges
  pub is_tail : (e : ℕ) → e < edges → g.graph.tail e ≡ get_or from e 0
  pub is_head : (e : ℕ) → e < edges → g.graph.head e ≡ get_or to e 0
  pub is_delay : (e : ℕ) → e < edges → g.delay e ≡ get_or delays e 0

-- the same of tables that are lent together
abbrev pub EndsIn : ℕ → Edges → Type 0
EndsIn nodes e = Ends nodes e.count e.from.now e.to.now

abbrev pub ToldBy : Loop → ℕ → Edges → Type 0
ToldBy g nodes e = Told g nodes e.count e.from.now e.to.now e.delays.now

-- a well-formed form's tables are such tables
pub ends-form : (f : Form) → WellFormed f → Ends f.header.nodes f.header.edges f.from f.to
ends-form f w = record {
  some = w.nodes.0;
  most = w.nodes.1;
  few = w.edges;
  tail-in = λ e l. (w.edge e l).from;
  head_in = λ e l. (w.edge e l).to;
}

-- and any form's tables hold its loop's edges
pub told-form : (f : Form) → Told (loop_of f) f.header.nodes f.header.edges f.from f.to f.delays
unfolding loop_of graph_of
told-form f = record {
  all-nodes = refl;
  all_edges = refl;
  is_tail = λ e l. refl;
  is_head = λ e l. refl;
  is_delay = λ e l. refl;
}

-- any tables are some loop's, so what is promised for each such loop is promised
pub told-some : (nodes edges : ℕ) (from to delays : List ℕ) → (g : Loop) × Told g nodes edges from to delays
told-some nodes edges from to delays = (
  record {
    graph = record { nodes = nodes; edges = edges; tail = λ e. get_or from e 0; head = λ e. get_or to e 0 };
    delay = λ e. get_or delays e 0;
    classes = 0;
    class = λ c. no_class;
    node = λ v. no_node;
  },
  record { all-nodes = refl; all_edges = refl; is_tail = λ e l. refl; is_head = λ e l. refl; is_delay = λ e l. refl },
)
