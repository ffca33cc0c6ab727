-- `list_rule::unplaced` meets its contract: the nodes passed are counted.
-- Assumes nothing.
use mathlib.Core.Path.{◌≡◌}
use mathlib.Core.List.{List}
use Prim.Native.Nat.{ℕ, ◌≤◌}
use lib.Dec.{eqb}
use Rattle.lists.specs.Span.{span}
use Rattle.lists.specs.Fold.{count}
use Rattle.list_rule.specs.Rule.{start_number}
use Rattle.list_rule.proofs.unplaced.Given as goal

-- how many of the first v nodes are not placed
abbrev pub unplaced_of : List ℕ → ℕ → ℕ
unplaced_of s v = count (λ u. eqb (start_number s u) 0) (span 0 v)

abbrev pub invariant-loop-v : goal.invariant-loop-v
invariant-loop-v l = (l.v ≤ l.nodes) × (l.left ≤ l.v) × (l.left ≡ unplaced_of l.start l.v)
