-- `list_rule::order_of` meets its contract: ascending keys are falling weights.
-- Assumes nothing.
use mathlib.Core.Path.{◌∙◌}
use Rattle.list_rule.specs.Tables.{weight_of}
use Rattle.list_rule.proofs.Weighed.{keys-weights}
use Rattle.list_rule.proofs.order_of.Goals as goal

pub returns : goal.returns
returns c =
    (c.sorted.ensures.0, c.sorted.ensures.1 ∙ keys-weights c.keys_of-keys.result (weight_of c.args.weight.now) c.args.nodes 255 c.keys_of-keys.ensures)
