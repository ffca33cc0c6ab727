-- What an answer tells, as the definitions speak of it.
-- Assumes nothing.
use Rattle.std.specs.Prelude.{ℕ}
use Rattle.form.specs.declared.Class.{Class}
use Rattle.form.specs.declared.Node.{Node}
use Rattle.form.specs.declared.Edge.{Edge}
use Rattle.form.specs.declared.BodyStep.{BodyStep}
use Rattle.field.specs.Outcome.{Cursor}

-- a row of each table, and the cursor past it
pub record ClassRow : Type 0 where
  pub class : Class
  pub next : Cursor

pub record NodeRow : Type 0 where
  pub node : Node
  pub next : Cursor

pub record EdgeRow : Type 0 where
  pub edge : Edge
  pub next : Cursor

pub record StartRow : Type 0 where
  pub start : BodyStep
  pub retiming : ℕ
  pub next : Cursor
