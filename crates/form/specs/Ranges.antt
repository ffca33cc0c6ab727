-- The ranges of a form's fields.
-- Assumes nothing.
use Rattle.std.specs.Prelude.{◌≡◌, ◌≢◌, ℕ, ◌+◌, ◌≤◌, ◌<◌}
use Rattle.form.specs.declared.Form.{Form}
use Rattle.form.specs.declared.Class.{Class}
use Rattle.form.specs.declared.Edge.{Edge}
use Rattle.form.specs.Places.{class_of, node_of, edge_of, latency_of, start_of, retiming_of}

abbrev pub Within : ℕ → ℕ → ℕ → Type 0
Within low high x = (low ≤ x) × (x ≤ high)

-- a class of the board: latency and units 1 to 8, plain or pipelined
pub record GoodClass (k : Class) : Type 0 where
  pub latency : Within 1 8 k.latency
  pub units : Within 1 8 k.units
  pub pipelined : k.pipelined ≤ 1

-- an edge between nodes of the loop, with up to 15 delays
pub record GoodEdge (n : ℕ) (k : Edge) : Type 0 where
  pub from : k.from < n
  pub to : k.to < n
  pub delays : k.delays ≤ 15

-- a node starts in the body and ends in it, and its retiming is at most 63
pub record GoodStart (f : Form) (v : ℕ) : Type 0 where
  pub begins : 1 ≤ start_of f v
  pub ends : start_of f v + latency_of f v ≤ f.header.length + 1
  pub retiming : retiming_of f v ≤ 63

-- a schedule: each node's start and retiming, the smallest retiming being 0
pub record GoodSchedule (f : Form) : Type 0 where
  pub starts : (v : ℕ) → v < f.header.nodes → GoodStart f v
  pub least : (v : ℕ) × (v < f.header.nodes) × (retiming_of f v ≡ 0)

pub record WellFormed (f : Form) : Type 0 where
  pub classes : Within 1 4 f.header.classes
  pub nodes : Within 1 64 f.header.nodes
  pub edges : f.header.edges ≤ 256
  pub length : f.header.length ≤ 512
  pub class : (i : ℕ) → i < f.header.classes → GoodClass (class_of f i)
  pub node : (v : ℕ) → v < f.header.nodes → (node_of f v).class < f.header.classes
  pub edge : (e : ℕ) → e < f.header.edges → GoodEdge f.header.nodes (edge_of f e)
  pub schedule : f.header.length ≢ 0 → GoodSchedule f
