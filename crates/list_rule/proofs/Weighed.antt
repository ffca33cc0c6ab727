-- The order by weights: by keys that make up one number with them, by weights that are the same, and in a table.
-- Assumes nothing.
use mathlib.Core.Path.{◌≡◌, sym, ap, ◌∙◌}
use mathlib.Core.List.{List}
use Prim.Native.Nat.{ℕ, ◌+◌, ◌<◌}
use native.Mathlib.Omega.{arith}
use native.Mathlib.Decide.{dec_lt}
use native.Mathlib.Nat.{ne_of_lt}
use lib.Dec.{ltb}
use lib.ListN.{length, get_or, set, take}
use lib.Seq.{get_or-set_same, get_or-set_other}
use borrow.Author.Count.{below_more}
use borrow.Author.Tests.{le-ltb, lt-ltb}
use Rattle.sorted.specs.Order.{lower, ascending}
use Rattle.sorted.specs.Ordered.{order_same, table_below}
use Rattle.list_rule.specs.Order.{heavier, order_of}

-- of two pairs of one sum the first number of one is lower where its second is higher
lower-higher : (a b x y : ℕ) → a + x ≡ b + y → ltb a b ≡ ltb y x
lower-higher a b x y e = go (dec_lt a b)
  where
    go : Dec (a < b) → ltb a b ≡ ltb y x
    go (yes l) = lt-ltb a b l ∙ sym (lt-ltb y x (omega arith))
    go (no l) = le-ltb a b (omega arith) ∙ sym (le-ltb y x (omega arith))

-- a key more that makes up so much with its weight
pub keys-more : (keys weights : List ℕ) (v a all : ℕ) → v < length keys → a + get_or weights v 0 ≡ all → ((u : ℕ) → u < v → get_or keys u 0 + get_or weights u 0 ≡ all)
    → (u : ℕ) → u < v + 1 → get_or (set keys v a) u 0 + get_or weights u 0 ≡ all
keys-more keys weights v a all h e so_far =
    below_more (λ u. get_or (set keys v a) u 0 + get_or weights u 0 ≡ all) v
    (λ u l. omega (arith, get_or-set_other keys v u a 0 (ne_of_lt l), so_far u l))
    (omega (arith, get_or-set_same keys v a 0 h))

-- ascending by what the weights lack of a number is heaviest first
pub keys-weights : (keys : List ℕ) (w : ℕ → ℕ) (n all : ℕ) → ((v : ℕ) → v < n → get_or keys v 0 + w v ≡ all) → ascending keys n ≡ order_of w n
unfolding order_of
keys-weights keys w n all e =
    order_same (lower keys) (heavier w) n (λ v u l m. lower-higher (get_or keys v 0) (get_or keys u 0) (w v) (w u) (omega (arith, e v l, e u m)))

-- the order depends on the weights of its nodes alone
pub weights-same : (w x : ℕ → ℕ) (n : ℕ) → ((v : ℕ) → v < n → w v ≡ x v) → order_of w n ≡ order_of x n
unfolding order_of
weights-same w x n e = order_same (heavier w) (heavier x) n (λ v u l m. ap (λ (a : ℕ). ltb a (w v)) (e u m) ∙ ap (ltb (x u)) (e v l))

-- what stands in a table that holds the order
pub weighed-below : (w : ℕ → ℕ) (n : ℕ) (order : List ℕ) → take n order ≡ order_of w n → (i : ℕ) → i < n → get_or order i 0 < n
unfolding order_of
weighed-below w n order = table_below (heavier w) n order
