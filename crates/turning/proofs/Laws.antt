-- What the proofs of rotation share: the last step of the first nodes, and starts that are lowered.
-- Assumes nothing.
use mathlib.Core.Path.{◌≡◌, ap}
use mathlib.Core.List.{List, map}
use Prim.Native.Nat.{ℕ, ◌+◌, ◌-◌, ◌≤◌, max}
use native.Mathlib.Numerals.{add-one}
use native.Mathlib.Omega.{arith}
use native.Mathlib.Decide.{dec_lt}
use lib.ListN.{length, length-map}
use lib.Seq.{ext_get_or}
use Rattle.lists.specs.Span.{span}
use Rattle.lists.specs.Fold.{top}
use Rattle.lists.specs.Filled.{filled, filled_at, filled-past, filled-length}
use Rattle.lists.specs.Sums.{top-none, top-last}
use Rattle.legal.specs.Loop.{Loop, latency}
use Rattle.list_rule.specs.Rule.{start_number, length_of}
use Rattle.turning.specs.Turned.{dropped_by, dropped-at}
use Rattle.plans.specs.Pairs.{StartTable}

-- ---- the length

module _ (g : Loop) (s : List ℕ) where
  -- the last step in which one of the first v nodes is at work
  unfoldable pub last_of : ℕ → ℕ
  last_of v = top (map (λ u. start_number s u + latency g u - 1) (span 0 v))

  pub last_none : last_of 0 ≡ 0
  unfolding last_of
  last_none = top-none (λ u. start_number s u + latency g u - 1) 0

  pub last_more : (v : ℕ) → last_of (v + 1) ≡ max (last_of v) (start_number s v + latency g v - 1)
  unfolding last_of
  last_more v = rw add-one (top-last (λ u. start_number s u + latency g u - 1) v)

  pub last-all : (v : ℕ) → v ≡ g.graph.nodes → last_of v ≡ length_of g s
  unfolding last_of length_of
  last-all v e = ap (λ (n : ℕ). top (map (λ u. start_number s u + latency g u - 1) (span 0 n))) e

-- ---- the starts

-- the starts of the first n nodes, each less z, where the table holds no others
pub lowered-all : (n : ℕ) (s : List ℕ) (z : ℕ) → n ≤ 64 → StartTable n s → filled 64 (λ v. start_number s v - z) n ≡ dropped_by z s
unfolding dropped_by
lowered-all n s z few table =
    let low : ℕ → ℕ = λ v. start_number s v - z in
    let same : length (filled 64 low n) ≡ length (dropped_by z s) = omega (arith, filled-length 64 low n few, table.long, length-map s (λ a. a - z)) in
    ext_get_or 0 (filled 64 low n) (dropped_by z s) same (λ v _.
    elim (dec_lt v n) [
      | yes l ↦ omega (arith, filled_at 64 low n v l, dropped-at z s v)
      | no l ↦ omega (arith, filled-past 64 low n v (omega arith), dropped-at z s v, table.past v (omega arith))
    ])
