-- The nodes in the order in which the list rule tries them: heaviest first, then lowest number.
-- Assumes nothing.
use Rattle.std.specs.Prelude.{Bool, List, ℕ, ltb}
use Rattle.sorted.specs.Order.{order_by}
-- for those who compute the order
unfoldable pub use Rattle.sorted.specs.Order.{insert}

module _ (weight : ℕ → ℕ) where
  -- v goes before u where u weighs less
  abbrev pub heavier : ℕ → ℕ → Bool
  heavier v u = ltb (weight u) (weight v)

  -- nodes 0 to n - 1, heaviest first, then lowest number
  unfoldable pub order_of : ℕ → List ℕ
  unfolding order_by
  order_of n = order_by heavier n
