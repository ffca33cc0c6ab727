-- The plain loop as it goes: in each iteration each node, in an order, its value stored at its place.
-- Assumes nothing.
use Rattle.std.specs.Prelude.{List, ℕ, set}
use Rattle.lists.specs.Span.{span}
use Rattle.lists.specs.Fold.{fold}
use Rattle.legal.specs.Loop.{Loop}
use Rattle.machine.specs.Values.{place_of, computed}

module _ (g : Loop) (starts : List ℕ) where
  -- node v of iteration i
  unfoldable pub stored : ℕ → List ℕ → ℕ → List ℕ
  stored i values v = set values (place_of g starts i v) (computed g starts values i v)

  -- iteration i
  unfoldable pub iterated : List ℕ → List ℕ → ℕ → List ℕ
  iterated order values i = fold (stored i) values order

  -- the first k iterations
  unfoldable pub looped : List ℕ → ℕ → List ℕ → List ℕ
  looped order k values = fold (iterated order) values (span 0 k)
