-- `reader::none_is_zero` meets its contract.
-- Assumes nothing.
use mathlib.Core.Path.{sym, ◌∙◌}
use Rattle.lists.specs.Pick.{pick_true, pick-false}
use Rattle.reader.proofs.none_is_zero.Goals as goal

pub returns-then-is_normalized : goal.returns-then-is_normalized
returns-then-is_normalized c = sym (pick_true _ _ _ (sym c.is_normalized.ensures ∙ c.if-is_normalized.true))

pub returns : goal.returns
returns c =
    sym (pick-false _ _ _ (sym c.is_normalized.ensures ∙ c.if-is_normalized.false))
