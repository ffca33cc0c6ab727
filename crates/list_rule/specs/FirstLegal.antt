-- The first schedule, by the list rule with all retimings 0, is legal where the loop has no knot, and its length is 1 to 512.
-- Assumes nothing.
use Rattle.std.specs.Prelude.{◌≡◌, Bool, List, ℕ, ◌+◌, ◌≤◌, ◌<◌, replicate}
use Rattle.std.proofs.Math.Path.{refl}
use Rattle.std.proofs.Math.Bool.{true, false}
use native.Mathlib.Omega.{arith}
use Rattle.std.proofs.Math.Nat.{mul-le-mul_left}
use borrow.Author.Tests.{not-false, eqb-true, eqb-false}
use Rattle.system.specs.Laws.{settled_at, settled-solves}
use Rattle.legal.specs.Loop.{plain, within, bodies, Loop, Pair}
use Rattle.legal.specs.Legal.{Legal, EdgeRule}
use Rattle.legal.specs.Systems.{knots, knotted}
use Rattle.legal.specs.Shape.{Sound, Bodied}
use Rattle.reach.specs.Weight.{tight}
use Rattle.list_rule.specs.Rule.{start_number, list_rule_of, length_of}
use Rattle.list_rule.specs.Units.{zeros-units, in-use-busy}
use Rattle.list_rule.specs.Edges.{zeros-in-time}
use Rattle.list_rule.specs.Ends.{length-ends}
use Rattle.list_rule.specs.Filling.{Staffed, Ranked, Filled, filled-length}
use Rattle.list_rule.specs.Placed.{zeros-places}

-- no retiming
abbrev pub unretimed : ℕ → ℕ
unretimed v = 0

-- the first starts, and the pair that they make
unfoldable pub first_starts : Loop → List ℕ
first_starts g = list_rule_of g unretimed (replicate 64 0)

unfoldable pub first_pair : Loop → Pair
first_pair g = record { kind = plain; start = start_number (first_starts g); length = length_of g (first_starts g); retiming = unretimed }

-- without a knot, edges of delay 0 go up in the values that the system of knots settles at
pub unknotted-ranked : (g : Loop) → knotted g ≡ false → Ranked g unretimed
unfolding knotted knots tight
unknotted-ranked g k = record {
  rank = settled_at (knots g);
  rises = λ e l t. omega (arith, settled-solves (knots g) (not-false _ k) e l, eqb-true (g.delay e + 0) 0 t);
}

module _ (g : Loop) (sound : Sound g) (staffed : Staffed g) (free : knotted g ≡ false) where
  pub first-filled : Filled g (first_starts g) 512
  unfolding first_starts
  first-filled = zeros-places g unretimed sound staffed (unknotted-ranked g free)

  pub first-length : (1 ≤ length_of g (first_starts g)) × (length_of g (first_starts g) ≤ 512)
  first-length = filled-length g (first_starts g) 512 sound first-filled

  first_edge : (e : ℕ) → e < g.graph.edges → EdgeRule g (first_pair g) e
  unfolding first_pair first_starts tight
  first_edge e l = go (tight g unretimed e) refl
    where
      go : (b : Bool) → tight g unretimed e ≡ b → EdgeRule g (first_pair g) e
      go true t =
          let f = zeros-in-time g unretimed 64 e l t (first-filled.placed _ (sound.joined.heads e l)) in
          omega (arith, f.by)
      go false t =
          let n : g.delay e ≡ 0 → ⊥ = λ z. eqb-false (g.delay e + 0) 0 t (omega arith) in
          let some : 1 ≤ g.delay e = omega arith in
          omega (
            arith,
            mul-le-mul_left {m = 1} {n = g.delay e} (length_of g (first_starts g)) some,
            length-ends g (first_starts g) (g.graph.tail e) (sound.joined.tails e l),
            first-filled.placed (g.graph.head e) (sound.joined.heads e l),
          )

  first-bodied : Bodied g (first_pair g)
  unfolding first_pair first_starts within
  first-bodied v l = record { begins = first-filled.placed v l; ends = length-ends g (first_starts g) v l }

  -- the first schedule is legal
  pub first-legal : Legal g (first_pair g)
  unfolding first_pair first_starts within bodies
  first-legal = record {
    steps = first-length;
    body = first-bodied;
    retimings = λ v l. omega arith;
    least = (0, sound.some, refl);
    edges = first_edge;
    units = λ q c a b d. omega (arith, in-use-busy g (first_starts g) (first_pair g) sound refl first-bodied first-filled.placed (λ v l. refl) c q, zeros-units g unretimed 64 c q);
  }
