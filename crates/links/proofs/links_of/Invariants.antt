-- `links::links_of` meets its contract: the edges from e on are linked.
-- Assumes nothing.
use lib.ListN.{get_or}
use Rattle.links.proofs.Laws.{LinkedFrom}
use Rattle.links.proofs.links_of.Given as goal

abbrev pub invariant-loop-e : goal.invariant-loop-e
invariant-loop-e l = LinkedFrom (λ d. get_or l.keys d 0) l.edges l.e l.first l.next
