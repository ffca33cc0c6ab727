-- `writer::lay` meets its contract: the header, then each table's rows behind the last.
-- Assumes nothing.
use native.Mathlib.Omega.{arith}
use Rattle.writer.proofs.Laws.{whole}
use Rattle.writer.proofs.lay.Goals as goal

pub returns : goal.returns
returns c = (
  omega (arith, c.put_header-classes_at.ensures.0, c.put_rows-nodes_at.ensures.0, c.put_rows-edges_at.ensures.0, c.put_rows-starts_at.ensures.0, c.put_rows.ensures.0, c.min-classes.ensures, c.min-nodes.ensures, c.min-edges.ensures, c.min-scheduled.ensures),
  whole _ _ _ _ _ _ _ _ _ _ _ _ _ _ _ _ c.put_header-classes_at.ensures.1
      c.put_rows-nodes_at.ensures.1 c.min-classes.ensures
      c.put_rows-edges_at.ensures.1 c.min-nodes.ensures
      c.put_rows-starts_at.ensures.1 c.min-edges.ensures
      c.put_rows.ensures.1 (rw (← c.scheduled_of.ensures) c.min-scheduled.ensures),
)
