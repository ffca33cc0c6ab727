-- `reach::mark` meets its contract: an edge changes nothing where it is slack or its head is marked; else its head is new.
-- Assumes nothing.
use native.Mathlib.Omega.{arith}
use Rattle.reach.proofs.Marks.{room, met-new}
use Rattle.reach.proofs.mark.Goals as goal

pub bounds-queue-end : goal.bounds-queue-end
bounds-queue-end c =
    room c.args.marks.now c.args.queue.now c.args.end c.args.head c.args.tight c.requires.0 (omega arith) (λ h. omega arith)

pub overflow_add-result : goal.overflow_add-result
overflow_add-result c =
    omega (arith, room c.args.marks.now c.args.queue.now c.args.end c.args.head c.args.tight c.requires.0 (omega arith) (λ h. omega arith))

pub returns : goal.returns
returns c = met-new _ _ _ _ _ c.requires.0 (omega arith) (λ h. omega arith) (omega arith)
