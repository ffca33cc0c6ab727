-- `list_rule::blocked` meets its contract.
-- Assumes nothing.
use Rattle.lists.specs.Pick.{pick}
use Rattle.list_rule.specs.Tables.{blocks_at}
use Rattle.list_rule.proofs.Laws.{tests}
use Rattle.list_rule.proofs.blocked.Goals as goal

pub returns-then-delays-tail : goal.returns-then-delays-tail
unfolding blocks_at pick
returns-then-delays-tail c = search tests

pub returns-then-begins-eq0 : goal.returns-then-begins-eq0
unfolding blocks_at pick
returns-then-begins-eq0 c = search tests

pub returns-then-step-begins : goal.returns-then-step-begins
unfolding blocks_at pick
returns-then-step-begins c = search tests

pub returns : goal.returns
unfolding blocks_at pick
returns c = search tests
