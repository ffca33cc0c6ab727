-- What a node computes is settled by its operands.
-- Assumes nothing.
use Rattle.std.specs.Prelude.{◌≡◌, Bool, get_or}
use Rattle.std.proofs.Math.Path.{refl, ap}
use Rattle.std.proofs.Math.Bool.{true, false}
use mathlib.Core.List.{List, ◌∷◌, map}
use Prim.Native.Nat.{ℕ, zero, suc, ◌+◌, ◌-◌, ◌≤◌, ◌<◌}
use Rattle.std.proofs.Common.{arith, eqb-true, ltb-false}
use Rattle.std.proofs.Math.Dec.{eqb}
use Rattle.lists.specs.Pick.{pick}
use Rattle.legal.specs.Loop.{Loop}
use Rattle.machine.specs.Values.{Reader, applied, edges_into, place_of, from_start, operand_by, computed_by, buffer, computed}

pick-right : (b : Bool) (x y z : ℕ) → (b ≡ false → y ≡ z) → pick b x y ≡ pick b x z
unfolding pick
pick-right true x y z h = refl
pick-right false x y z h = h refl

module _ (g : Loop) (starts : List ℕ) (i v : ℕ) (r q : Reader) where
  -- the two readers say the same of what edge e hands to iteration i
  abbrev pub SameFor : ℕ → Type 0
  SameFor e = g.delay e ≤ i → r (i - g.delay e) (g.graph.tail e) ≡ q (i - g.delay e) (g.graph.tail e)

  operand_same : (e : ℕ) → SameFor e → operand_by g starts r i e ≡ operand_by g starts q i e
  unfolding operand_by
  operand_same e h = pick-right (from_start g starts i e) _ _ _ (λ f. h (ltb-false _ _ f))

  operands_same : (left e : ℕ) → ((d : ℕ) → e ≤ d → d < e + left → g.graph.head d ≡ v → SameFor d)
      → map (operand_by g starts r i) (edges_into g v left e) ≡ map (operand_by g starts q i) (edges_into g v left e)
  unfolding edges_into pick
  operands_same zero e h = refl
  operands_same (suc left) e h = go (eqb (g.graph.head e) v) refl (operands_same left (e + 1) (λ d a b. h d (omega arith) (omega arith)))
    where
      go : (b : Bool) → eqb (g.graph.head e) v ≡ b
          → map (operand_by g starts r i) (edges_into g v left (e + 1)) ≡ map (operand_by g starts q i) (edges_into g v left (e + 1))
          → map (operand_by g starts r i) (pick b (e ∷ edges_into g v left (e + 1)) (edges_into g v left (e + 1)))
          ≡ map (operand_by g starts q i) (pick b (e ∷ edges_into g v left (e + 1)) (edges_into g v left (e + 1)))
      go true x more = cc (operand_same e (h e (omega arith) (omega arith) (eqb-true _ _ x)), more)
      go false x more = more

  -- readers that agree on its operands have the node compute the same
  pub computed-by-same : ((e : ℕ) → e < g.graph.edges → g.graph.head e ≡ v → SameFor e) → computed_by g starts r i v ≡ computed_by g starts q i v
  unfolding computed_by
  computed-by-same h = ap (applied (g.node v).operation) (operands_same g.graph.edges 0 (λ d a b. h d (omega arith)))

module _ (g : Loop) (starts : List ℕ) (i v : ℕ) where
  -- two tables hold the same of what edge e hands to iteration i
  abbrev pub SameAt : List ℕ → List ℕ → ℕ → Type 0
  SameAt xs ys e =
      g.delay e ≤ i
      → get_or xs (place_of g starts (i - g.delay e) (g.graph.tail e)) 0 ≡ get_or ys (place_of g starts (i - g.delay e) (g.graph.tail e)) 0

  -- over tables that agree on its operands a node computes the same
  pub computed_same : (xs ys : List ℕ) → ((e : ℕ) → e < g.graph.edges → g.graph.head e ≡ v → SameAt xs ys e) → computed g starts xs i v ≡ computed g starts ys i v
  computed_same xs ys = computed-by-same g starts i v (buffer g starts xs) (buffer g starts ys)
