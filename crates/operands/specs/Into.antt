-- The edges into a node, from the first of them on: a walk over the links by head meets exactly those.
-- Assumes nothing.
use Rattle.std.specs.Prelude.{◌≡◌, Bool, ◌∷◌}
use Rattle.std.proofs.Math.Path.{refl}
use Rattle.std.proofs.Math.Bool.{true, false}
use Prim.Native.Nat.{ℕ, zero, suc, ◌+◌, ◌-◌, ◌<◌}
use native.Mathlib.Omega.{arith}
use Rattle.std.proofs.Math.Dec.{eqb}
use Rattle.lists.specs.Pick.{pick}
use Rattle.lists.specs.First.{first_from}
use Rattle.links.specs.Chains.{first_with}
use Rattle.legal.specs.Loop.{Loop}
use Rattle.machine.specs.Values.{edges_into}

module _ (g : Loop) (v : ℕ) where
  -- the edges into v from e on are those from the first of them on
  pub into-first : (left e end : ℕ) → e + left ≡ end
      → edges_into g v left e ≡ edges_into g v (end - first_with g.graph.head v left e) (first_with g.graph.head v left e)
  unfolding first_from edges_into pick
  into-first zero e end h = let none : end - e ≡ 0 = omega arith in rw none
  into-first (suc left) e end h = go (eqb (g.graph.head e) v) refl (into-first left (e + 1) end (omega arith))
    where
      go : (b : Bool) → eqb (g.graph.head e) v ≡ b
          → edges_into g v left (e + 1) ≡ edges_into g v (end - first_with g.graph.head v left (e + 1)) (first_with g.graph.head v left (e + 1))
          → pick b (e ∷ edges_into g v left (e + 1)) (edges_into g v left (e + 1))
          ≡ edges_into g v (end - pick b e (first_with g.graph.head v left (e + 1))) (pick b e (first_with g.graph.head v left (e + 1)))
      go true q more = let all : end - e ≡ suc left = omega arith in rw (all, q)
      go false q more = more

  -- an edge into v is the first of those from it on
  pub into-here : (edges e : ℕ) → e < edges → eqb (g.graph.head e) v ≡ true
      → edges_into g v (edges - e) e ≡ e ∷ edges_into g v (edges - (e + 1)) (e + 1)
  unfolding edges_into pick
  into-here edges e l q = let left : edges - e ≡ suc (edges - (e + 1)) = omega arith in rw (left, q)
