-- `turning::with_pair` meets its contract.
-- Assumes nothing.
use mathlib.Core.Path.{refl}
use Rattle.plans.specs.Pairs.{times_with}
use Rattle.turning.proofs.with_pair.Goals as goal

pub returns : goal.returns
unfolding times_with
returns c = refl
