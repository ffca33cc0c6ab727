-- Knots: found exactly where the system of knots does not settle, and impossible for any starts in the body.
-- Assumes nothing.
use Rattle.std.specs.Prelude.{◌≡◌, refl, Bool, true, false, List, ℕ, ◌*◌, ◌≤◌, length}
use Rattle.std.proofs.Common.{sym, ◌∙◌, true≢false, eq-zero-or-pos}
use Rattle.std.proofs.Math.Path.{ap}
use Rattle.std.proofs.Math.Bool.{not}
use Rattle.std.proofs.Math.Logic.{⊎_elim}
use native.Mathlib.Omega.{arith}
use Rattle.std.proofs.Math.Nat.{mul-zero}
use Rattle.std.proofs.lemmas.Bool.{not-true}
use Rattle.lists.specs.Fold.{sum_of, sum-times, sum_ones}
use Rattle.system.specs.Graph.{Joined, stop}
use Rattle.system.specs.System.{System, Solves, gains, costs, Losing, LosingWalk}
use Rattle.system.specs.Walks.{along}
use Rattle.system.specs.Laws.{unsettled-loses, loses-unsettled}
use Rattle.legal.specs.Loop.{Loop, Pair}
use Rattle.legal.specs.Legal.{Knot}
use Rattle.legal.specs.Systems.{knots, knotted, lateness, Impossible}
use Rattle.legal.specs.Shape.{Sound, WithinBodies}
use Rattle.legal.specs.Limits.{late-covers}
use Rattle.legal.specs.Splits.{losing-cycle, cycle-few}

-- the loop has no knot
abbrev pub Free : Loop → Type 0
Free g = (es : List ℕ) → Knot g es → ⊥

module _ (g : Loop) where
  knots-gains : (es : List ℕ) → gains (knots g) es ≡ 64 * sum_of g.delay es
  unfolding knots gains
  knots-gains es = sum-times 64 g.delay es

  knots-costs : (es : List ℕ) → costs (knots g) es ≡ length es
  unfolding knots costs
  knots-costs es = sum_ones es

  -- a losing cycle of the system of knots is a knot: it has at most 64 edges, and a delay gains as much
  pub losing-knot : Joined g.graph → g.graph.nodes ≤ 64 → (es : List ℕ) → Losing (knots g) es → Knot g es
  unfolding knots
  losing-knot j few es c =
      record { cycle = c.cycle; still = omega (arith, c.loss, knots-gains es, knots-costs es, cycle-few g.graph j es c.cycle, few) }

  knot-loses : (es : List ℕ) → Knot g es → LosingWalk (knots g) es
  unfolding knots
  knot-loses es k = record {
    from = stop g.graph es 0;
    closed = k.cycle.closed;
    loss = omega (arith, knots-gains es, knots-costs es, k.still, k.cycle.some);
  }

  -- a loop is knotted where it has a knot
  pub knot-knotted : (es : List ℕ) → Knot g es → knotted g ≡ true
  unfolding knotted
  knot-knotted es k = ap not (loses-unsettled (knots g) es (knot-loses es k))

  -- a knotted loop has a knot
  pub knotted-knot : Sound g → knotted g ≡ true → (es : List ℕ) × Knot g es
  unfolding knotted knots
  knotted-knot s q =
      let w = unsettled-loses (knots g) s.joined s.some s.few (not-true _ q) in
      let c = losing-cycle (knots g) w.0 w.1 in
      (c.0, losing-knot s.joined s.few c.0 c.1)

  -- a loop without a knot is not knotted
  pub free-unknotted : Sound g → Free g → knotted g ≡ false
  free-unknotted s free = go (knotted g) refl
    where
      go : (b : Bool) → knotted g ≡ b → knotted g ≡ false
      go true q = let k = knotted-knot s q in absurd (free k.0 k.1)
      go false q = q

  -- a loop that is not knotted has no knot
  pub unknotted-free : knotted g ≡ false → Free g
  unknotted-free q es k = true≢false (sym (knot-knotted es k) ∙ q)

  -- starts rise along an edge that is not late, and fall by less than a body along one that is
  climbs : Pair → System
  climbs p = record { graph = g.graph; gain = λ e. p.length * lateness g p e; cost = λ e. 1 }

  starts-climb : (p : Pair) → Sound g → (n : ℕ) → WithinBodies g p n → Solves (climbs p) p.start
  unfolding climbs
  starts-climb p s n b e l = omega (arith, s.works _ (s.joined.tails e l), late-covers g p s n b e l)

  -- every knot has a negative limit sum, whatever the starts in the body
  pub knot-impossible : (p : Pair) → Sound g → (n : ℕ) → WithinBodies g p n → (es : List ℕ) → Knot g es → Impossible g p es
  unfolding climbs gains costs
  knot-impossible p s n b es k =
      let c = along (climbs p) p.start (starts-climb p s n b) (stop g.graph es 0) es (stop g.graph es 0) k.cycle.closed in
      record {
        cycle = k.cycle;
        negative = ⊎_elim
            (λ z. absurd (omega (
              arith,
              c,
              k.cycle.some,
              sum_ones es,
              sum-times p.length (lateness g p) es ∙ ap (λ (k : ℕ). p.length * k) z ∙ mul-zero p.length,
            )))
            (λ z. omega (arith, k.still))
            (eq-zero-or-pos (sum_of (lateness g p) es));
      }
