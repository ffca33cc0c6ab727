-- `list_rule::idle` meets its contract.
-- Assumes nothing.
use Prim.Native.Nat.{ℕ}
use lib.ListN.{length-replicate}
use Rattle.lists.specs.Place.{zeros-at}
use Rattle.list_rule.proofs.idle.Goals as goal

pub returns : goal.returns
returns c = (length-replicate {A = ℕ} 4128 0, zeros-at 4128)
