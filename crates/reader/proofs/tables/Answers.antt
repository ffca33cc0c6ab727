-- `reader::tables` meets its contract: the header and the four tables, each from where the one before it ends.
-- Assumes nothing.
use Rattle.std.specs.Prelude.{Ok, Err}
use mathlib.Core.Path.{refl}
use native.Mathlib.Omega.{arith}
use Rattle.answer.specs.Outcome.{err-is}
use Rattle.reader.proofs.Laws.{classes-staged, nodes-staged, edges-staged, starts-staged, header-refused, classes-refused, nodes-refused, edges-refused, starts-refused}
use Rattle.reader.proofs.tables.Goals as goal

pub returns-in_err-header : goal.returns-in_err-header
returns-in_err-header c = rw (err-is _ _ c.from_residual.ensures.1) (header-refused _ _ c.in_err-header.ensures.is)

pub returns-in_err-classes : goal.returns-in_err-classes
returns-in_err-classes c =
    rw (err-is _ _ c.from_residual-in_err-classes.ensures.1) (classes-refused _ _ (classes-staged _ _ c.in_ok-header.ensures.is (Err _) c.in_err-classes.ensures))

pub returns-in_err-nodes : goal.returns-in_err-nodes
returns-in_err-nodes c =
    rw (err-is _ _ c.from_residual-in_err-nodes.ensures.1) (nodes-refused _ _ (nodes-staged _ _ c.in_ok-header.ensures.is _ c.in_ok-classes.ensures (Err _) c.in_err-nodes.ensures))

pub returns-in_err-edges : goal.returns-in_err-edges
returns-in_err-edges c =
    rw (err-is _ _ c.from_residual-in_err-edges.ensures.1)
    (edges-refused _ _ (edges-staged _ _ c.in_ok-header.ensures.is _ c.in_ok-classes.ensures _ c.in_ok-nodes.ensures (Err _) c.in_err-edges.ensures))

pub returns-in_err-starts : goal.returns-in_err-starts
returns-in_err-starts c =
    rw (err-is _ _ c.from_residual-in_err-starts.ensures.1)
    (starts-refused _ _ (starts-staged _ _ c.in_ok-header.ensures.is _ c.in_ok-classes.ensures _ c.in_ok-nodes.ensures _ c.in_ok-edges.ensures _ refl (Err _) c.in_err-starts.ensures))

pub returns : goal.returns
returns c =
    record {
      is =
          rw c.scheduled_nodes-scheduled.ensures.0
          (starts-staged _ _ c.in_ok-header.ensures.is _ c.in_ok-classes.ensures _ c.in_ok-nodes.ensures _ c.in_ok-edges.ensures _ refl (Ok _) c.in_ok-starts.ensures);
      few = c.in_ok-header.ensures.few;
      near = omega (arith, c.in_ok-header.ensures.few.classes, c.in_ok-header.ensures.few.nodes, c.in_ok-header.ensures.few.edges);
    }
