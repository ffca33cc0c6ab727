-- `fit::fit_starts` meets its contract: the filled tables are the limits of the starts.
-- Assumes nothing.
use Rattle.legal.specs.Loop.{loop_of, pair_of}
use Rattle.legal.specs.Shape.{sound-form, within-form}
use Rattle.rules.specs.Busy.{seated-form}
use Rattle.rules.specs.Lowest.{starts-in}
use Rattle.tables.specs.Times.{some-length}
use Rattle.tables.specs.Lent.{lent-ends}
use Rattle.fit.specs.Tables.{described}
use Rattle.fit.proofs.fit_starts.Goals as goal

pub limits_of-limits-requires : goal.limits_of-limits-requires
limits_of-limits-requires c =
    (lent-ends c.requires.lent.0 _ _ _ _ _ c.requires.lent.1, starts-in _ _ _ c.requires.lent.1.timed (seated-form c.requires.lent.0 c.requires.lent.1.good (some-length c.requires.lent.0 _ c.requires.lent.1.timed c.requires.length_nonzero)))

pub fit_limits-requires : goal.fit_limits-requires
fit_limits-requires c =
    let some = some-length c.requires.lent.0 _ c.requires.lent.1.timed c.requires.length_nonzero in (
      loop_of c.requires.lent.0,
      (
        pair_of c.requires.lent.0,
        described _ _ _ _ _ _ _ _ _ (sound-form c.requires.lent.0 c.requires.lent.1.good) (within-form c.requires.lent.0 c.requires.lent.1.good some) c.requires.lent.1.told (c.limits_of-limits.ensures _ _ c.requires.lent.1.told c.requires.lent.1.timed),
      ),
    )

pub returns : goal.returns
returns c f lent =
    let some = some-length f _ lent.timed c.requires.length_nonzero in
    c.fit_limits.ensures _ _ (described _ _ _ _ _ _ _ _ _ (sound-form f lent.good) (within-form f lent.good some) lent.told (c.limits_of-limits.ensures _ _ lent.told lent.timed))
