-- A form's nodes and classes in tables that loops of the code can borrow.
-- Assumes nothing.
use Rattle.std.specs.Prelude.{◌≡◌, List, ℕ, ◌≤◌, ◌<◌, get_or}
use Rattle.form.specs.declared.Form.{Form}
use Rattle.form.specs.declared.Class.{Class}
use Rattle.form.specs.Places.{node_of, start_of, retiming_of, no_class}
use Rattle.form.specs.Ranges.{WellFormed}
use Rattle.tables.specs.declared.Timetable.{Timetable}
use Rattle.tables.specs.Times.{times_of}

-- the length, and tables that hold each node's class, start and retiming
pub record Noted (f : Form) (steps nodes : ℕ) (runs start retiming : List ℕ) : Type 0 where
  pub is_length : f.header.length ≡ steps
  pub all-nodes : f.header.nodes ≡ nodes
  pub runs_on : (v : ℕ) → v < nodes → (node_of f v).class ≡ get_or runs v 0
  pub starts : (v : ℕ) → v < nodes → start_of f v ≡ get_or start v 0
  pub retimed : (v : ℕ) → v < nodes → retiming_of f v ≡ get_or retiming v 0

-- the same of a timetable
abbrev pub NotedBy : Form → Timetable → Type 0
NotedBy f t = Noted f t.length t.nodes t.runs t.start t.retiming

-- at most 4 classes of at most 8 units
pub record Narrow (classes : ℕ) (class : List Class) : Type 0 where
  pub few : classes ≤ 4
  pub units : (c : ℕ) → c < classes → (get_or class c no_class).units ≤ 8

-- the timetable of a well-formed form
pub record TimesTabled (t : Timetable) : Type 0 where
  pub form : Form
  pub good : WellFormed form
  pub is : t ≡ times_of form
