-- `rsk_c::rewrite` meets its contract: the reader's refusal, else what becomes of the form read, which need not be read back.
-- Assumes nothing.
use Rattle.std.specs.Prelude.{Ok}
use mathlib.Core.Path.{◌≡◌, sym, ◌∙◌}
use native.Mathlib.Omega.{arith}
use Rattle.reader.specs.Outcome.{record_in}
use Rattle.reader.specs.Reading.{read_form}
use Rattle.record.specs.ReadFirst.{read-as}
use Rattle.rsk_c.proofs.Laws.{rewrite-refused, rewrite-passed, form-taken}
use Rattle.rsk_c.proofs.rewrite.Goals.{In-Ok}
use Rattle.rsk_c.proofs.rewrite.Goals as goal

-- the form that was read, in the arm that has it
held : (c : In-Ok) → record_in (Ok c.in-Ok.form) ≡ read_form c.args.«record».now
held c = read-as c.args.«record».now _ _ c.in-Ok.is c.read.ensures

pub returns-in-Err : goal.returns-in-Err
returns-in-Err c = rewrite-refused _ c.args.out.now _ (read-as _ _ _ c.in-Err.is c.read.ensures)

pub write_taken-requires : goal.write_taken-requires
write_taken-requires c = form-taken _ _ (held (goal.at.write_taken-requires c).In-Ok) (λ i. omega (arith, c.type_inv.«record» i))

pub returns-in-Ok : goal.returns-in-Ok
returns-in-Ok c =
    let passed = rewrite-passed c.args.«record».now c.args.out.now _ (held (goal.at.returns-in-Ok c).In-Ok) in
    (c.write_taken.ensures.0 ∙ sym passed.0, c.write_taken.ensures.1 ∙ sym passed.1)
