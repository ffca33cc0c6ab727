-- A form that is lent with its own timetable, place by place.
-- Assumes nothing.
use Rattle.std.specs.Prelude.{◌≡◌, List, ℕ}
use Rattle.form.specs.declared.Form.{Form}
use Rattle.form.specs.Ranges.{WellFormed}
use Rattle.tables.specs.declared.Timetable.{Timetable}
use Rattle.tables.specs.Times.{times_of}
use Rattle.tables.specs.Lent.{Lent, lent-form}
use Rattle.form.specs.declared.Edges.{Edges}

-- the tables are those of a well-formed form, place by place
pub record Tabled (f : Form) (edges : ℕ) (from to delays : List ℕ) (t : Timetable) : Type 0 where
  pub lent : Lent f edges from to delays t
  pub is : t ≡ times_of f

-- the same of edges that are lent together
abbrev pub TabledBy : Form → Edges → Timetable → Type 0
TabledBy f e t = Tabled f e.count e.from.now e.to.now e.delays.now t

-- a form's own tables are
pub tabled-form : (f : Form) (t : Timetable) → WellFormed f → t ≡ times_of f → Tabled f f.header.edges f.from f.to f.delays t
tabled-form f t w is = record { lent = lent-form f t w is; is = is }

-- and so lent
pub tabled-edges : (f : Form) (e : Edges) (t : Timetable) → e.count ≡ f.header.edges → (e.from.now ≡ f.from) × (e.to.now ≡ f.to) × (e.delays.now ≡ f.delays)
    → WellFormed f → t ≡ times_of f → TabledBy f e t
tabled-edges f e t few tables w is = rw (few, tables.0, tables.1, tables.2) (tabled-form f t w is)
