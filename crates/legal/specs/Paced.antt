-- A loop whose pair keeps the edge rule is paced by its length: no cycle has more latency than length times delays, so it has no knot.
-- Assumes nothing.
use Rattle.std.specs.Prelude.{◌≡◌, true, List, [], ◌∷◌, ℕ, ◌*◌, ◌≤◌, ◌<◌, length}
use Rattle.std.proofs.Common.{arith, mul-zero}
use Rattle.std.proofs.Math.Decide.{dec_le}
use Rattle.std.proofs.Math.Nat.{mul-add}
use Rattle.lists.specs.Fold.{sum_of, sum-times}
use Rattle.system.specs.Graph.{Walk, stop}
use Rattle.system.specs.System.{gains, costs, LosingWalk}
use Rattle.system.specs.Rounds.{settled_of}
use Rattle.legal.specs.Loop.{Loop, Pair, latency}
use Rattle.legal.specs.Legal.{Legal}
use Rattle.legal.specs.Systems.{paces}
use Rattle.legal.specs.Shape.{Sound}
use Rattle.legal.specs.Limits.{EdgeRules}
use Rattle.legal.specs.Knots.{Free}
use Rattle.legal.specs.Balanced.{Balances, balanced-sound, balanced-settles}

-- the latencies of the nodes that a walk's edges leave
abbrev pub latencies : Loop → List ℕ → ℕ
latencies g es = sum_of (λ e. latency g (g.graph.tail e)) es

-- where latencies are at least 1, so many edges have at least as much latency
walk-works : (g : Loop) → Sound g → (u : ℕ) (es : List ℕ) (v : ℕ) → Walk g.graph u es v → length es ≤ latencies g es
unfolding sum_of
walk-works g s u [] v w = omega arith
walk-works g s u (e ∷ es) v w =
    omega (arith, s.works (g.graph.tail e) (s.joined.tails e w.0), walk-works g s (g.graph.head e) es v w.2)

module _ (g : Loop) (l : ℕ) where
  paces-gains : (es : List ℕ) → gains (paces g l) es ≡ l * sum_of g.delay es
  unfolding paces gains
  paces-gains es = sum-times l g.delay es

  -- a closed walk that length l is too short for loses
  pub short-loses : (u : ℕ) (es : List ℕ) → Walk g.graph u es u → l * sum_of g.delay es < latencies g es → LosingWalk (paces g l) es
  unfolding paces gains costs
  short-loses u es w h = record { from = u; closed = w; loss = omega (arith, paces-gains es) }

module _ (g : Loop) (p : Pair) (h : EdgeRules g p) where
  -- the starts less a body for each retiming solve the system of the length
  edges-balance : Balances (paces g p.length) p.start (λ v. p.length * p.retiming v)
  unfolding paces
  edges-balance e l = omega (arith, h e l, mul-add p.length (g.delay e) (p.retiming (g.graph.tail e)))

  -- no closed walk loses at the pair's length
  pub none-loses : (es : List ℕ) → LosingWalk (paces g p.length) es → ⊥
  none-loses es w = balanced-sound (paces g p.length) p.start (λ v. p.length * p.retiming v) edges-balance es w

  -- no closed walk has latency sum above length times delay sum
  pub walk-paced : (u : ℕ) (es : List ℕ) → Walk g.graph u es u → latencies g es ≤ p.length * sum_of g.delay es
  walk-paced u es w =
      elim (dec_le (latencies g es) (p.length * sum_of g.delay es)) [
        | yes q ↦ q
        | no q ↦ absurd (none-loses es (short-loses g p.length u es w (omega arith)))
      ]

  -- the system of the pair's length settles
  pub paces-settle : Sound g → (settled_of (paces g p.length)).settled ≡ true
  unfolding paces
  paces-settle s =
      balanced-settles (paces g p.length) p.start (λ v. p.length * p.retiming v) edges-balance s.joined s.some s.few

  -- where all edges keep the edge rule there is no knot
  pub edges-free : Sound g → Free g
  edges-free s es k =
      let at = stop g.graph es 0 in
      omega (
        arith,
        k.cycle.some,
        walk-works g s at es at k.cycle.closed,
        rw (k.still, mul-zero) at (walk-paced at es k.cycle.closed),
      )

-- the loop of a legal pair has no knot
pub legal-free : (g : Loop) (p : Pair) → Sound g → Legal g p → Free g
legal-free g p s legal = edges-free g p legal.edges s
