-- What adding a class, a node or an edge gives: the new place filled, that count raised and no schedule; past the limit Count and the form unchanged.
-- Assumes nothing.
use Rattle.std.specs.Prelude.{◌+◌, Bool, ltb, None, Some}
use Rattle.lists.specs.Pick.{pick}
use Rattle.answer.specs.declared.Refusal.TheVariants.{Count}
use Rattle.form.specs.declared.Form.{Form}
use Rattle.form.specs.Outcome.{Added}
use Rattle.form.specs.declared.Class.{Class}
use Rattle.form.specs.declared.Node.{Node}
use Rattle.form.specs.declared.Edge.{Edge}
use Rattle.form.specs.Places.{with_counts, with_class, with_node, with_edge}

-- taken where there is a place left
unfoldable pub added_to : Form → Bool → Form → Added
added_to f left g = pick left (record { form = g; refusal = None }) (record { form = f; refusal = Some (Count 0) })

unfoldable pub class_added : Form → Class → Added
class_added f k = added_to f (ltb f.header.classes 4) (with_class (with_counts f (f.header.classes + 1) f.header.nodes f.header.edges 0) f.header.classes k)

unfoldable pub node_added : Form → Node → Added
node_added f k = added_to f (ltb f.header.nodes 64) (with_node (with_counts f f.header.classes (f.header.nodes + 1) f.header.edges 0) f.header.nodes k)

unfoldable pub edge_added : Form → Edge → Added
edge_added f k = added_to f (ltb f.header.edges 256) (with_edge (with_counts f f.header.classes f.header.nodes (f.header.edges + 1) 0) f.header.edges k)
