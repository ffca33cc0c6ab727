-- What looking for a knot gives: no cycle where there is none and then ranks for the nodes, else a knot.
-- Assumes nothing.
use Rattle.std.specs.Prelude.{◌≡◌, true, false, ℕ, ◌<◌, get_or, Result, Ok, Err}
use Rattle.answer.specs.Outcome.{no_cycle, edges_of, cycle_or}
use Rattle.answer.specs.Tally.{Tallies}
use Rattle.answer.specs.declared.Cycle.{Cycle}
use Rattle.system.specs.Rounds.{settled_of}
use Rattle.legal.specs.Loop.{Loop}
use Rattle.legal.specs.Legal.{Knot}
use Rattle.legal.specs.Systems.{knots, knotted}
use Rattle.answer.specs.declared.Refusal.TheVariants as refusal
use Rattle.answer.specs.declared.Refused.{Refused}
use Rattle.knots.specs.Outcome.{Ranking}

pub record KnotFound (g : Loop) (c : Cycle) : Type 0 where
  pub free : c.count ≡ 0 → knotted g ≡ false
  pub none : c.count ≡ 0 → c ≡ no_cycle
  pub tied : 0 < c.count → knotted g ≡ true
  pub knot : 0 < c.count → Knot g (edges_of c)
  pub tallies : Tallies c

-- a knot or none, and the values of the system of knots as ranks: without a knot they rise along every edge of delay 0
pub record RanksFound (g : Loop) (r : Ranking) : Type 0 where
  pub found : KnotFound g r.cycle
  pub ranks : r.rank ≡ (settled_of (knots g)).values
  pub rises : r.cycle.count ≡ 0 → (e : ℕ) → e < g.graph.edges → g.delay e ≡ 0
      → get_or r.rank (g.graph.tail e) 0 < get_or r.rank (g.graph.head e) 0

-- refused with Knot and one of the loop's knots exactly where it has one
abbrev pub Untied : Loop → Result Unit Refused → Type 0
Untied g (Ok done) = KnotFound g no_cycle
Untied g (Err e) = (e.refusal ≡ refusal.Knot) × KnotFound g (cycle_or e.cycle) × (0 < (cycle_or e.cycle).count)
