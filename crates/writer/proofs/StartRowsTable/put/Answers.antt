-- `writer::StartRowsTable::put` meets its contract.
-- Assumes nothing.
use mathlib.Core.Path.{refl}
use native.Mathlib.Numerals.{unary_clauses}
use Rattle.field.specs.Number.{bytes_of}
use Rattle.writer.specs.Layout.{start_bytes}
use borrow.Author.Rules.{rules}
use Rattle.writer.proofs.StartRowsTable.put.Goals as goal

pub returns : goal.returns
unfolding start_bytes bytes_of
returns c = (search rules, record { is = simp unary_clauses; ends = refl })
