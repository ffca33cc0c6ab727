-- The settled values turned over: x = top - y, which fall where y rises, so that x(head) + cost ≤ x(tail) + gain for every edge.
-- Assumes nothing.
use Rattle.std.specs.Prelude.{◌≡◌, true, ℕ, ◌+◌, ◌-◌, ◌≤◌, ◌<◌, take}
use native.Mathlib.Omega.{arith}
use Rattle.std.proofs.Math.ListN.{length}
use Rattle.std.proofs.Math.Seq.{get_or-take, length-take-le}
use Rattle.lists.specs.Fold.{top, top-over, top-attained}
use Rattle.system.specs.Graph.{Joined}
use Rattle.system.specs.System.{System, Solves}
use Rattle.system.specs.Rounds.{settled_of}
use Rattle.system.specs.Walks.{along}
use Rattle.system.specs.Laws.{settled_at, settled-solves, settled-least, settled-length, Attained, values-reached}

-- x meets every constraint, read the other way up
abbrev pub SolvesTurned : System → (ℕ → ℕ) → Type 0
SolvesTurned s x = (e : ℕ) → e < s.graph.edges → x (s.graph.head e) + s.cost e ≤ x (s.graph.tail e) + s.gain e

-- the largest value of a node
unfoldable pub top_of : System → ℕ
top_of s = top (take s.graph.nodes (settled_of s).values)

unfoldable pub turned_at : System → ℕ → ℕ
turned_at s v = top_of s - settled_at s v

pub settled-le-top : (s : System) (v : ℕ) → v < s.graph.nodes → settled_at s v ≤ top_of s
unfolding top_of
settled-le-top s v l =
    omega (arith, top-over (take s.graph.nodes (settled_of s).values) v, get_or-take s.graph.nodes (settled_of s).values v 0 l)

pub turned_le : (s : System) (v : ℕ) → turned_at s v ≤ top_of s
unfolding turned_at
turned_le s v = omega arith

module _ (s : System) (n : s.graph.nodes ≤ 64) where
  -- some node has the largest value
  top-at : 1 ≤ s.graph.nodes → (v : ℕ) × (v < s.graph.nodes) × (settled_at s v ≡ top_of s)
  unfolding top_of
  top-at one =
      let size : length (take s.graph.nodes (settled_of s).values) ≡ s.graph.nodes = length-take-le s.graph.nodes (settled_of s).values (omega (arith, settled-length s)) in
      let t = top-attained (take s.graph.nodes (settled_of s).values) (omega arith) in
      (t.0, omega arith, omega (arith, t.2, get_or-take s.graph.nodes (settled_of s).values t.0 0 (omega arith)))

  -- some node is at 0
  pub turned_zero : 1 ≤ s.graph.nodes → (v : ℕ) × (v < s.graph.nodes) × ◌≡◌ {A = ℕ} (turned_at s v) 0
  unfolding turned_at
  turned_zero one = let t = top-at one in (t.0, t.1, omega (arith, t.2))

  module _ (j : Joined s.graph) where
    pub turned-turns : (settled_of s).settled ≡ true → SolvesTurned s (turned_at s)
    unfolding turned_at
    turned-turns q e l =
        omega (arith, settled-solves s q e l, settled-le-top s (s.graph.head e) (j.heads e l), settled-le-top s (s.graph.tail e) (j.tails e l))

    -- some node is at the top: where a walk that accounts for a value begins
    pub turned-top : 1 ≤ s.graph.nodes → (settled_of s).settled ≡ true → (v : ℕ) × (v < s.graph.nodes) × (turned_at s v ≡ top_of s)
    unfolding turned_at
    turned-top one q =
        let t : Attained s 0 = values-reached s j q 0 one in
        (t.start, t.start-in, omega (arith, t.value, along s (settled_at s) (settled-solves s q) t.start t.path 0 t.walk))

    module _ (x : ℕ → ℕ) (d : ℕ) (turns : SolvesTurned s x) (under : (v : ℕ) → v < s.graph.nodes → x v ≤ d) where
      back : Solves s (λ v. d - x v)
      back e l = omega (arith, turns e l, under (s.graph.head e) (j.heads e l), under (s.graph.tail e) (j.tails e l))

      room : (v : ℕ) → v < s.graph.nodes → settled_at s v + x v ≤ d
      room v l = omega (arith, settled-least s (λ u. d - x u) back v, under v l)

      -- nothing that turns is less deep
      pub least-depth : 1 ≤ s.graph.nodes → top_of s ≤ d
      least-depth one = let t = top-at one in omega (arith, t.2, room t.0 t.1)

      -- and of what is as deep nothing is larger at any node
      pub largest : d ≡ top_of s → (v : ℕ) → v < s.graph.nodes → x v ≤ turned_at s v
      unfolding turned_at
      largest q v l = omega (arith, room v l)
