-- `writer::put_header` meets its contract.
-- Assumes nothing.
use mathlib.Core.Path.{refl}
use Rattle.field.specs.Number.{bytes_of}
use Rattle.writer.specs.Layout.{count_bytes}
use borrow.Author.Rules.{rules}
use Rattle.writer.proofs.put_header.Goals as goal

pub returns : goal.returns
unfolding count_bytes bytes_of
returns c = (search rules, record { is = refl; ends = refl })
