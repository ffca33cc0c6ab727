-- A solution given as a difference, y = a - b, which no bound on b has to keep from falling below 0.
-- Assumes nothing.
use Rattle.std.specs.Prelude.{◌≡◌, refl, Bool, true, false, ℕ, ◌+◌, ◌≤◌, ◌<◌}
use Rattle.std.proofs.Math.Path.{ap}
use mathlib.Core.List.{List, [], ◌∷◌}
use Rattle.std.proofs.Common.{arith}
use Rattle.lists.specs.Fold.{sum_of}
use Rattle.system.specs.Graph.{Joined, Walk}
use Rattle.system.specs.System.{System, gains, costs, LosingWalk}
use Rattle.system.specs.Rounds.{settled_of}
use Rattle.system.specs.Laws.{unsettled-loses}

-- a - b meets every constraint
abbrev pub Balances : System → (ℕ → ℕ) → (ℕ → ℕ) → Type 0
Balances s a b =
    (e : ℕ) → e < s.graph.edges → a (s.graph.tail e) + b (s.graph.head e) + s.cost e ≤ a (s.graph.head e) + b (s.graph.tail e) + s.gain e

module _ (s : System) (a b : ℕ → ℕ) (h : Balances s a b) where
  balanced-along : (u : ℕ) (es : List ℕ) (v : ℕ) → Walk s.graph u es v → a u + b v + costs s es ≤ a v + b u + gains s es
  unfolding gains costs sum_of
  balanced-along u [] v w = omega (arith, ap a w, ap b w)
  balanced-along u (e ∷ es) v w =
      omega (arith, h e w.0, ap a w.1, ap b w.1, balanced-along (s.graph.head e) es v w.2)

  -- such a system has no losing closed walk
  pub balanced-sound : (es : List ℕ) → LosingWalk s es → ⊥
  balanced-sound es w = omega (arith, balanced-along w.from es w.from w.closed, w.loss)

  -- and settles
  pub balanced-settles : Joined s.graph → 1 ≤ s.graph.nodes → s.graph.nodes ≤ 64 → (settled_of s).settled ≡ true
  balanced-settles j one n = go (settled_of s).settled refl
    where
      go : (t : Bool) → (settled_of s).settled ≡ t → (settled_of s).settled ≡ true
      go true q = q
      go false q = let t = unsettled-loses s j one n q in absurd (balanced-sound t.0 t.1)
