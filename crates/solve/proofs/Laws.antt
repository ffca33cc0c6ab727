-- The two answers of a system: settled, or a losing cycle.
-- Assumes nothing.
use mathlib.Core.Path.{◌≡◌, refl, sym, ap, ◌∙◌}
use Rattle.std.specs.Prelude.{Option, Some, None, IsSome}
use mathlib.Core.Bool.{true, false, true≢false}
use Prim.Native.Nat.{◌≤◌, ◌<◌}
use native.Mathlib.Omega.{arith}
use Rattle.answer.specs.declared.Cycle.{Cycle}
use Rattle.system.specs.Outcome.{Settled}
use Rattle.system.specs.Graph.{Joined}
use Rattle.system.specs.System.{System}
use Rattle.system.specs.Rounds.{settled_of}
use Rattle.system.specs.Laws.{unsettled-loses}
use Rattle.cycle.specs.Found.{FoundCycle}
use Rattle.answer.specs.Outcome.{no_cycle, cycle_or}
use Rattle.answer.specs.Tally.{none-tallies}
use Rattle.solve.specs.Solved.{Solved}

module _ (s : System) (t : Settled) (e : t ≡ settled_of s) where
  same : t.settled ≡ (settled_of s).settled
  same = ap (λ (x : Settled). x.settled) e

  pub when-settled : t.settled ≡ true → Solved s (record { settled = true; values = t.values; cycle = no_cycle })
  when-settled b = record {
    settled = sym b ∙ same;
    values = ap (λ (x : Settled). x.values) e;
    none = λ q. refl;
    shortest = λ q. absurd (true≢false q);
    some = λ q. absurd (true≢false q);
    few = omega arith;
    tallies = none-tallies no_cycle refl;
  }

  -- what does not settle loses on a closed walk, so a cycle is found
  pub cycle-found : t.settled ≡ false → Joined s.graph → 1 ≤ s.graph.nodes → s.graph.nodes ≤ 64 → (r : Option Cycle) → FoundCycle s (cycle_or r) → IsSome r
  cycle-found b j n m (Some c) f = refl
  cycle-found b j n m None f =
      let w = unsettled-loses s j n m (sym same ∙ b) in
      absurd (f.none refl w.0 w.1)

  pub when-unsettled : t.settled ≡ false → (c : Cycle) → FoundCycle s c → 0 < c.count → Solved s (record { settled = false; values = t.values; cycle = c })
  when-unsettled b c f some = record {
    settled = sym b ∙ same;
    values = ap (λ (x : Settled). x.values) e;
    none = λ q. absurd (true≢false (sym q));
    shortest = λ q. f.some some;
    some = λ q. some;
    few = f.few;
    tallies = f.tallies;
  }
