-- Where the starts given end, the length of the body, and the latencies of the nodes that are left to place.
-- Assumes nothing.
use Rattle.std.specs.Prelude.{◌≡◌, List, ℕ, ◌+◌, ◌-◌, ◌*◌, ◌≤◌, ◌<◌, eqb, length, set}
use native.Mathlib.Omega.{arith}
use Rattle.std.proofs.Common.{eq-eqb, ne_eqb, get_or-set_other}
use Rattle.std.proofs.Math.Seq.{get_or-set_same}
use Rattle.lists.specs.Pick.{pick, pick_ind, pick_true, pick-false}
use Rattle.lists.specs.Span.{span}
use Rattle.lists.specs.Fold.{sum_of}
use Rattle.lists.specs.Counted.{sum_one, sum-at, sum_bound}
use Rattle.lists.specs.Sums.{top-run-over, top-run-le}
use Rattle.legal.specs.Loop.{Loop, latency}
use Rattle.list_rule.specs.Rule.{start_number, length_of}

module _ (g : Loop) where
  -- every placed node ends by step m
  abbrev pub EndsBy : List ℕ → ℕ → Type 0
  EndsBy s m = (v : ℕ) → v < g.graph.nodes → 0 < start_number s v → start_number s v + latency g v ≤ m + 1

  -- ---- the length

  -- every node ends within it
  pub length-ends : (s : List ℕ) (v : ℕ) → v < g.graph.nodes → start_number s v + latency g v ≤ length_of g s + 1
  unfolding length_of
  length-ends s v l =
      omega (arith, top-run-over (λ v. start_number s v + latency g v - 1) 0 g.graph.nodes v (omega arith) (omega arith))

  -- and it is the least such
  pub length-least : (s : List ℕ) (m : ℕ) → ((v : ℕ) → v < g.graph.nodes → start_number s v + latency g v ≤ m + 1) → length_of g s ≤ m
  unfolding length_of
  length-least s m h =
      top-run-le (λ v. start_number s v + latency g v - 1) 0 g.graph.nodes m (λ v a l. omega (arith, h v (omega arith)))

  -- ---- what is left to place

  -- the latency of node v if it is not placed
  unfoldable pub left_of : List ℕ → ℕ → ℕ
  left_of s v = pick (eqb (start_number s v) 0) (latency g v) 0

  -- of all nodes
  unfoldable pub work : List ℕ → ℕ
  work s = sum_of (left_of s) (span 0 g.graph.nodes)

  left-unset : (s : List ℕ) (v : ℕ) → start_number s v ≡ 0 → left_of s v ≡ latency g v
  unfolding left_of
  left-unset s v z = pick_true (eqb (start_number s v) 0) (latency g v) 0 (eq-eqb _ _ z)

  left-set : (s : List ℕ) (v : ℕ) → 0 < start_number s v → left_of s v ≡ 0
  unfolding left_of
  left-set s v h = pick-false (eqb (start_number s v) 0) (latency g v) 0 (ne_eqb (start_number s v) 0 (λ z. omega arith))

  -- a node that is placed has its latency taken from it
  pub work-set : (s : List ℕ) (v p : ℕ) → v < g.graph.nodes → v < length s → start_number s v ≡ 0 → 1 ≤ p
      → work (set s v p) + latency g v ≡ work s
  unfolding work left_of
  work-set s v p l m z one =
      let here : start_number (set s v p) v ≡ p = get_or-set_same s v p 0 m in
      omega (
        arith,
        sum_one (left_of (set s v p)) (left_of s) v (λ w ne. rw (get_or-set_other s v w p 0 ne)) 0 g.graph.nodes (omega arith) (omega arith),
        left-set (set s v p) v (omega arith),
        left-unset s v z,
      )

  -- a node that is not placed is in it
  pub work-has : (s : List ℕ) (v : ℕ) → v < g.graph.nodes → start_number s v ≡ 0 → latency g v ≤ work s
  unfolding work
  work-has s v l z =
      omega (arith, sum-at (left_of s) v 0 g.graph.nodes (omega arith) (omega arith), left-unset s v z)

  pub work-bound : (s : List ℕ) (k : ℕ) → ((v : ℕ) → v < g.graph.nodes → latency g v ≤ k) → work s ≤ k * g.graph.nodes
  unfolding work left_of
  work-bound s k h =
      sum_bound (left_of s) k 0 g.graph.nodes (λ v a l.
      pick_ind (λ x. x ≤ k) (eqb (start_number s v) 0) (latency g v) 0 (λ e. h v (omega arith)) (λ e. omega arith))
