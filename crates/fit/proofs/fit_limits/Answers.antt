-- `fit::fit_limits` meets its contract: the tables are the limits of a loop's starts, solved and turned over.
-- Assumes nothing.
use mathlib.Core.Path.{refl}
use Rattle.fit.proofs.Starts.{under_top, tables-joined, tables-bounds, tables-top, tables-fit, tables-unfit}
use Rattle.fit.proofs.fit_limits.Goals as goal

pub solve-requires : goal.solve-requires
solve-requires c =
    record { le_nodes = tables-bounds _ _ _ _ _ _ _ _ c.requires.1.1; joined = tables-joined _ _ _ _ _ _ _ _ c.requires.1.1 }

pub returns-in-Err : goal.returns-in-Err
returns-in-Err c g p d = tables-unfit g p _ _ _ _ _ _ d _ c.in-Err.ensures refl

pub turned-requires : goal.turned-requires
turned-requires c =
    record {
      nodes_bound = (
        (tables-bounds _ _ _ _ _ _ _ _ c.requires.1.1).1,
        tables-top _ _ _ _ _ _ _ _ c.requires.1.1 _ c.in-Ok.ensures refl _ c.top_of-highest.ensures,
      );
      by_index = under_top _ _ _ c.top_of-highest.ensures;
    }

pub returns : goal.returns
returns c g p d = tables-fit g p _ _ _ _ _ _ d _ c.in-Ok.ensures refl _ c.top_of-highest.ensures _ c.turned.ensures
