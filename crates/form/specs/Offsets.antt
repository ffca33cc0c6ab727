-- Where each table of a record stands, and the record's size, by its header.
-- Assumes nothing.
use Rattle.std.specs.Prelude.{ℕ, ◌+◌, ◌*◌}
use Rattle.form.specs.declared.Header.{Header}
use Rattle.form.specs.Places.{scheduled_of}

-- mark, version, the counts and the length take 11 bytes
abbrev pub classes_at : ℕ
classes_at = 11

-- a class takes 3
abbrev pub nodes_at : Header → ℕ
nodes_at h = classes_at + 3 * h.classes

-- a node 6
abbrev pub edges_at : Header → ℕ
edges_at h = nodes_at h + 6 * h.nodes

-- an edge 3
abbrev pub starts_at : Header → ℕ
starts_at h = edges_at h + 3 * h.edges

-- a start and a retiming 3
abbrev pub size_of : Header → ℕ
size_of h = starts_at h + 3 * scheduled_of h.length h.nodes
