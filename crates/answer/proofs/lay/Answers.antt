-- `answer::lay` meets its contract.
-- Assumes nothing.
use mathlib.Core.Path.{◌≡◌, refl, ap, ◌∙◌}
use lib.ListN.{replicate}
use Rattle.std.specs.Prelude.{unwrap_or}
use Rattle.answer.specs.Outcome.{outcome_list, told_list, cycle_or}
use Rattle.answer.proofs.Laws.{answer-whole, handed_or}
use Rattle.answer.proofs.lay.Goals as goal

pub returns : goal.returns
unfolding outcome_list
returns c r e =
    let handed : c.unwrap_or-handed.result ≡ cycle_or c.args.cycle =
    c.unwrap_or-handed.ensures ∙ ap (unwrap_or c.args.cycle) c.none.ensures ∙ handed_or c.args.cycle in
    answer-whole (replicate 69 0) _ _ r c.args.told _ refl (rw e) c.fill_cycle.ensures ∙ ap (told_list r c.args.told) handed
