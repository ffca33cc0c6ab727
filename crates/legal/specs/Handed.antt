-- The cycle that is handed over beside a refusal: a knot with Knot, a cycle with negative limit sum with NoRetiming, else none.
-- Assumes nothing.
use Rattle.std.specs.Prelude.{◌≡◌, refl, ◌≢◌, ℕ, Some}
use Rattle.std.proofs.Common.{ap, arith}
use Rattle.answer.specs.Refused.{Verdict, number_of}
use Rattle.answer.specs.Outcome.{no_cycle, edges_of}
use Rattle.answer.specs.Tally.{Tallies, none-tallies}
use Rattle.answer.specs.declared.Cycle.{Cycle}
use Rattle.answer.specs.declared.Refusal.TheVariants as refusal
use Rattle.legal.specs.Loop.{Loop, Pair}
use Rattle.legal.specs.Legal.{Knot}
use Rattle.legal.specs.Systems.{Impossible}

pub record Handed (g : Loop) (p : Pair) (r : Verdict) (c : Cycle) : Type 0 where
  pub knot : r ≡ Some refusal.Knot → Knot g (edges_of c)
  pub impossible : r ≡ Some refusal.NoRetiming → Impossible g p (edges_of c)
  pub none : r ≢ Some refusal.Knot → r ≢ Some refusal.NoRetiming → c ≡ no_cycle
  pub tallies : Tallies c

-- beside a refusal that no cycle proves none is handed over
pub handed-none : (g : Loop) (p : Pair) (r : Verdict) (c : Cycle) → number_of r ≢ 12 → number_of r ≢ 14 → c ≡ no_cycle → Handed g p r c
handed-none g p r c unknotted fitting e = record {
  knot = λ k. absurd (unknotted (ap number_of k));
  impossible = λ k. absurd (fitting (ap number_of k));
  none = λ k n. e;
  tallies = none-tallies c e;
}

-- a knot beside Knot
pub handed-knot : (g : Loop) (p : Pair) (c : Cycle) → Knot g (edges_of c) → Tallies c → Handed g p (Some refusal.Knot) c
handed-knot g p c k t = record {
  knot = λ q. k;
  impossible = λ q. let z : ◌≡◌ {A = ℕ} 12 14 = ap number_of q in absurd (omega arith);
  none = λ q n. absurd (q refl);
  tallies = t;
}
