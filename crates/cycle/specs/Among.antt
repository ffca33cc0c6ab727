-- Tables of edges among m nodes, read as a system of n nodes: its walks are the same.
-- So rows of 64 places serve every number of nodes up to 64.
-- Assumes nothing.
use Rattle.std.specs.Prelude.{refl, ℕ, ◌+◌, ◌≤◌, ◌<◌, length, take}
use mathlib.Core.List.{List, [], ◌∷◌}
use Rattle.std.proofs.Math.ListN.{length-take}
use native.Mathlib.Omega.{arith}
use Rattle.std.proofs.Math.Decide.{dec_le}
use Rattle.answer.specs.declared.Cycle.{Cycle}
use Rattle.system.specs.Graph.{Walk, Joined}
use Rattle.system.specs.System.{System, system_of, gains, costs, LosingWalk}
use Rattle.cycle.specs.Fewest.{losing-from, losing-within, fewest-is-cycle}
use Rattle.answer.specs.Outcome.{no_cycle}
use Rattle.answer.specs.Tally.{none-tallies}
use Rattle.cycle.specs.Found.{Tables, NoneAmong, ClosedWalk, FoundCycle}

module _ (e : ℕ) (ts hs gs cs : List ℕ) where
  abbrev among : ℕ → System
  among n = system_of n e ts hs gs cs

  pub tables : (n : ℕ) → n ≤ 64 → e ≤ 256 → Joined (among n).graph → Tables e ts hs gs cs
  unfolding system_of
  tables n l few j = record {
    few = few;
    joined = record { tails = λ i q. omega (arith, j.tails i q); heads = λ i q. omega (arith, j.heads i q) };
  }

  walk-among : (m n u : ℕ) (es : List ℕ) (v : ℕ) → Walk (among m).graph u es v → Walk (among n).graph u es v
  unfolding system_of
  walk-among m n u [] v w = w
  walk-among m n u (i ∷ es) v w = (w.0, w.1, walk-among m n ((among m).graph.head i) es v w.2)

  losing-among : (m n : ℕ) (es : List ℕ) → LosingWalk (among m) es → LosingWalk (among n) es
  unfolding system_of gains costs
  losing-among m n es w = record { from = w.from; closed = walk-among m n w.from es w.from w.closed; loss = w.loss }

  module _ (m n : ℕ) (j : Joined (among n).graph) where
    -- what no closed walk among m nodes that begins at the first n does, none among the n nodes does
    no-fewer : (count : ℕ) → NoneAmong (among m) n count → (fs : List ℕ) → LosingWalk (among n) fs → count ≤ length fs
    unfolding system_of gains costs
    no-fewer count none fs w =
        elim (dec_le count (length fs)) [
          | yes h ↦ h
          | no h ↦
              absurd
              (omega (
                arith,
                w.loss,
                none w.from (losing-from (among n) j fs w) fs (walk-among n m w.from fs w.from w.closed) (omega arith),
              ))
        ]

    -- the first n nodes hold every edge
    pub none_found : NoneAmong (among m) n (n + 1) → FoundCycle (among n) no_cycle
    unfolding system_of
    none_found none = record {
      none = λ q es w. let t = losing-within (among n) j es w in omega (arith, t.few, no-fewer (n + 1) none t.walk t.losing);
      some = λ q. absurd (omega arith);
      few = omega arith;
      tallies = none-tallies no_cycle refl;
    }

    pub cycle-found : (count : ℕ) → NoneAmong (among m) n count → 0 < count → count ≤ n → (r : Cycle) → ClosedWalk (among m) count r → FoundCycle (among n) r
    unfolding system_of
    cycle-found count none some within r c = record {
      none = λ z. absurd (omega (arith, some, c.size));
      some = λ q.
          rw c.size
          (fewest-is-cycle (among n) (take count r.edges) (losing-among m n (take count r.edges) c.losing) (λ fs w. omega (arith, no-fewer count none fs w, length-take count r.edges)));
      few = omega (arith, c.size);
      tallies = c.tallies;
    }
