-- (c) is the least length, from 1, at which no cycle has a latency sum above length times delay sum.
-- Assumes nothing.
use Rattle.std.specs.Prelude.{◌≡◌, refl, Bool, true, false, List, ℕ, ◌*◌, ◌≤◌, ◌<◌}
use Rattle.std.proofs.Common.{⊎_elim, eq-zero-or-pos}
use native.Mathlib.Omega.{arith}
use Rattle.std.proofs.Math.Decide.{dec_le}
use Rattle.std.proofs.Math.Nat.{mul-le-mul_right}
use Rattle.lists.specs.Pick.{both_ways}
use Rattle.lists.specs.Fold.{sum_of, sum-times}
use Rattle.lists.specs.First.{First, first-is, first-only}
use Rattle.system.specs.Graph.{Cycle, stop}
use Rattle.system.specs.System.{gains, costs, Losing}
use Rattle.system.specs.Rounds.{settled_of}
use Rattle.system.specs.Walks.{costs-le}
use Rattle.system.specs.Laws.{settled_at, settled-solves, solved-settles, unsettled-loses, loses-unsettled}
use Rattle.legal.specs.Loop.{Loop}
use Rattle.legal.specs.Systems.{paces}
use Rattle.legal.specs.Shape.{Sound}
use Rattle.legal.specs.Splits.{losing-cycle, cycle-few}
use Rattle.legal.specs.Knots.{Free}
use Rattle.legal.specs.Paced.{latencies, short-loses}
use Rattle.floor.specs.Parts.{cycle_part}

module _ (g : Loop) where
  -- whether length l is enough for every cycle
  unfoldable pub enough : ℕ → Bool
  enough l = (settled_of (paces g l)).settled

  -- a losing cycle of length l has a latency sum above l times its delay sum
  pub losing-above : (l : ℕ) (es : List ℕ) → Losing (paces g l) es → Cycle g.graph es × (l * sum_of g.delay es < latencies g es)
  unfolding paces gains costs
  losing-above l es c = (c.cycle, omega (arith, c.loss, sum-times l g.delay es))

  -- and a cycle whose latency sum is above keeps l from being enough
  pub above-short : (l : ℕ) (es : List ℕ) → Cycle g.graph es → l * sum_of g.delay es < latencies g es → enough l ≡ false
  unfolding enough
  above-short l es c h = loses-unsettled (paces g l) es (short-loses g l (stop g.graph es 0) es c.closed h)

  module _ (s : Sound g) where
    -- where a length is not enough some cycle loses
    pub short-losing : (l : ℕ) → enough l ≡ false → (es : List ℕ) × Losing (paces g l) es
    unfolding enough paces
    short-losing l q =
        let w = unsettled-loses (paces g l) s.joined s.some s.few q in
        losing-cycle (paces g l) w.0 w.1

    -- what is enough stays enough
    pub enough-more : (l m : ℕ) → l ≤ m → enough l ≡ true → enough m ≡ true
    unfolding enough paces
    enough-more l m h q =
        solved-settles (paces g m) s.joined s.some s.few (settled_at (paces g l))
        (λ e b. omega (arith, settled-solves (paces g l) q e b, mul-le-mul_right (g.delay e) h))

    -- and what is not enough was not before
    pub short-less : (l m : ℕ) → l ≤ m → enough m ≡ false → enough l ≡ false
    short-less l m h q = go (enough l) refl
      where
        go : (b : Bool) → enough l ≡ b → enough l ≡ false
        go true t = both_ways (enough-more l m h t) q
        go false t = t

    -- a cycle has at most 64 edges of latency at most 8
    cycle-latency : (es : List ℕ) → Cycle g.graph es → latencies g es ≤ 512
    unfolding paces costs
    cycle-latency es c =
        omega (
          arith,
          costs-le (paces g 0) 8 (λ e l. s.short _ (s.joined.tails e l)) (stop g.graph es 0) es (stop g.graph es 0) c.closed,
          cycle-few g.graph s.joined es c,
          s.few,
        )

    -- so that one delay is enough for it at length 512
    pub enough-512 : Free g → enough 512 ≡ true
    enough-512 free = go (enough 512) refl
      where
        go : (b : Bool) → enough 512 ≡ b → enough 512 ≡ true
        go true q = q
        go false q =
            let c = short-losing 512 q in
            let a = losing-above 512 c.0 c.1 in
            ⊎_elim
            (λ z. absurd (free c.0 (record { cycle = a.0; still = z })))
            (λ one. absurd (omega (arith, a.1, cycle-latency c.0 a.0)))
            (eq-zero-or-pos (sum_of g.delay c.0))

  first : First enough 512 1 (cycle_part g)
  unfolding cycle_part enough
  first = first-is (λ l. (settled_of (paces g l)).settled) 512 1

  pub cycle-one : 1 ≤ cycle_part g
  cycle-one = first.from

  -- no length below it is enough
  pub cycle-below : (l : ℕ) → 1 ≤ l → l < cycle_part g → enough l ≡ false
  cycle-below l one h = first.before l one h

  -- any length that is enough is no shorter
  pub enough-over : (l : ℕ) → 1 ≤ l → enough l ≡ true → cycle_part g ≤ l
  enough-over l one q = elim (dec_le (cycle_part g) l) [ yes h ↦ h | no h ↦ both_ways q (cycle-below l one (omega arith)) ]

  -- nothing else meets these
  pub least-cycle : (l : ℕ) → 1 ≤ l → l ≤ 512 → enough l ≡ true → ((k : ℕ) → 1 ≤ k → k < l → enough k ≡ false) → cycle_part g ≡ l
  unfolding cycle_part enough
  least-cycle l one few q before = first-only (λ k. (settled_of (paces g k)).settled) 512 1 l one (omega arith) q before

  module _ (s : Sound g) (free : Free g) where
    -- 512 is enough for every loop without a knot
    pub cycle-512 : cycle_part g ≤ 512
    cycle-512 = enough-over 512 (omega arith) (enough-512 s free)

    -- it is enough itself
    pub cycle-enough : enough (cycle_part g) ≡ true
    cycle-enough = first.passes (omega (arith, cycle-512))

    -- no cycle has a latency sum above it times the delay sum
    pub cycle-paced : (es : List ℕ) → Cycle g.graph es → latencies g es ≤ cycle_part g * sum_of g.delay es
    cycle-paced es c =
        elim (dec_le (latencies g es) (cycle_part g * sum_of g.delay es)) [
          | yes h ↦ h
          | no h ↦ both_ways cycle-enough (above-short (cycle_part g) es c (omega arith))
        ]

    -- it is above any length that is not
    pub over-short : (l : ℕ) → 1 ≤ l → enough l ≡ false → l < cycle_part g
    over-short l one q = elim (dec_le (cycle_part g) l) [ yes h ↦ both_ways (enough-more s (cycle_part g) l h cycle-enough) q | no h ↦ omega arith ]

  module _ (s : Sound g) where
    -- and it is the least such length
    pub cycle-least : (l : ℕ) → 1 ≤ l → ((es : List ℕ) → Cycle g.graph es → latencies g es ≤ l * sum_of g.delay es) → cycle_part g ≤ l
    cycle-least l one h = go (enough l) refl
      where
        go : (b : Bool) → enough l ≡ b → cycle_part g ≤ l
        go true q = enough-over l one q
        go false q =
            let c = short-losing s l q in
            let a = losing-above l c.0 c.1 in
            absurd (omega (arith, a.1, h c.0 a.0))

    -- 1 where there is no cycle
    pub acyclic-one : ((es : List ℕ) → Cycle g.graph es → ⊥) → cycle_part g ≡ 1
    acyclic-one none = omega (arith, cycle-one, cycle-least 1 (omega arith) (λ es c. absurd (none es c)))
