-- The parts of a form, each given whole; its places, read and filled by their number; the empty form; a form with its unused places 0.
-- Assumes nothing.
use Rattle.std.specs.Prelude.{List, ◌++◌, ℕ, ◌-◌, eqb, length, get_or, set, take, replicate}
use Rattle.lists.specs.Pick.{pick}
use Rattle.form.specs.declared.Form.{Form}
use Rattle.form.specs.declared.Header.{Header}
use Rattle.form.specs.declared.Class.{Class}
use Rattle.form.specs.declared.Node.{Node}
use Rattle.form.specs.declared.Edge.{Edge}
use Rattle.form.specs.declared.BodyStep.{BodyStep}
use Rattle.form.specs.declared.Operation.TheVariants.{Add}

-- what an unused place holds
abbrev pub no_class : Class
no_class = record { latency = 0; units = 0; pipelined = 0 }

abbrev pub no_node : Node
no_node = record { class = 0; operation = Add 0 }

abbrev pub no_step : BodyStep
no_step = record { 0 = 0 }

abbrev pub no_header : Header
no_header = record { classes = 0; nodes = 0; edges = 0; length = 0 }

unfoldable pub empty_form : Form
empty_form = record {
  header = no_header;
  class = replicate 4 no_class;
  node = replicate 64 no_node;
  from = replicate 256 0;
  to = replicate 256 0;
  delays = replicate 256 0;
  start = replicate 64 no_step;
  retiming = replicate 64 0;
}

-- class i, node v, edge e and their parts
abbrev pub class_of : Form → ℕ → Class
class_of f i = get_or f.class i no_class

abbrev pub node_of : Form → ℕ → Node
node_of f v = get_or f.node v no_node

abbrev pub edge_of : Form → ℕ → Edge
edge_of f e = record { from = get_or f.from e 0; to = get_or f.to e 0; delays = get_or f.delays e 0 }

abbrev pub latency_of : Form → ℕ → ℕ
latency_of f v = (class_of f (node_of f v).class).latency

abbrev pub start_of : Form → ℕ → ℕ
start_of f v = (get_or f.start v no_step).0

abbrev pub retiming_of : Form → ℕ → ℕ
retiming_of f v = get_or f.retiming v 0

-- the form with one part given: the header or a whole table
abbrev pub with_header : Form → Header → Form
with_header f h = record {
  header = h;
  class = f.class;
  node = f.node;
  from = f.from;
  to = f.to;
  delays = f.delays;
  start = f.start;
  retiming = f.retiming;
}

abbrev pub with_classes : Form → List Class → Form
with_classes f ks = record {
  header = f.header;
  class = ks;
  node = f.node;
  from = f.from;
  to = f.to;
  delays = f.delays;
  start = f.start;
  retiming = f.retiming;
}

abbrev pub with_nodes : Form → List Node → Form
with_nodes f ns = record {
  header = f.header;
  class = f.class;
  node = ns;
  from = f.from;
  to = f.to;
  delays = f.delays;
  start = f.start;
  retiming = f.retiming;
}

abbrev pub with_edges : Form → List ℕ → List ℕ → List ℕ → Form
with_edges f ts hs ds = record {
  header = f.header;
  class = f.class;
  node = f.node;
  from = ts;
  to = hs;
  delays = ds;
  start = f.start;
  retiming = f.retiming;
}

abbrev pub with_starts : Form → List BodyStep → List ℕ → Form
with_starts f ss rs = record {
  header = f.header;
  class = f.class;
  node = f.node;
  from = f.from;
  to = f.to;
  delays = f.delays;
  start = ss;
  retiming = rs;
}

-- the form with the counts and the length given
abbrev pub with_counts : Form → ℕ → ℕ → ℕ → ℕ → Form
with_counts f c n e l = with_header f (record { classes = c; nodes = n; edges = e; length = l })

-- the form with one place filled
abbrev pub with_class : Form → ℕ → Class → Form
with_class f i k = with_classes f (set f.class i k)

abbrev pub with_node : Form → ℕ → Node → Form
with_node f v k = with_nodes f (set f.node v k)

abbrev pub with_edge : Form → ℕ → Edge → Form
with_edge f e k = with_edges f (set f.from e k.from) (set f.to e k.to) (set f.delays e k.delays)

abbrev pub with_start : Form → ℕ → BodyStep → ℕ → Form
with_start f v s r = with_starts f (set f.start v s) (set f.retiming v r)

-- the first n places as they are, the others as unused ones
unfoldable pub first_of {ℓ} : {A : Type ℓ} → ℕ → A → List A → List A
first_of n d xs = take n xs ++ replicate (length xs - n) d

-- how many starts and retimings are in use, of a length and so many nodes
unfoldable pub scheduled_of : ℕ → ℕ → ℕ
scheduled_of l n = pick (eqb l 0) 0 n

abbrev pub scheduled : Form → ℕ
scheduled f = scheduled_of f.header.length f.header.nodes

-- the used places as they are, the others 0
unfoldable pub used : Form → Form
used f = record {
  header = f.header;
  class = first_of f.header.classes no_class f.class;
  node = first_of f.header.nodes no_node f.node;
  from = first_of f.header.edges 0 f.from;
  to = first_of f.header.edges 0 f.to;
  delays = first_of f.header.edges 0 f.delays;
  start = first_of (scheduled f) no_step f.start;
  retiming = first_of (scheduled f) 0 f.retiming;
}
