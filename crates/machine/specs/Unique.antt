-- Where the loop has no knot, at most one table of values is the plain loop's.
-- Assumes nothing.
use Rattle.std.specs.Prelude.{◌≡◌, List, ℕ, zero, suc, ◌-◌, ◌≤◌, ◌<◌, get_or}
use Rattle.std.proofs.Common.{sym, ◌∙◌, arith}
use Rattle.std.proofs.Math.Decide.{dec_lt}
use Rattle.std.proofs.lemmas.Bool.{not-false}
use Rattle.system.specs.System.{Solves}
use Rattle.system.specs.Laws.{settles-solved}
use Rattle.legal.specs.Loop.{Loop}
use Rattle.legal.specs.Systems.{knots, knotted}
use Rattle.legal.specs.Shape.{Sound}
use Rattle.legal.specs.Knots.{Free, free-unknotted}
use Rattle.machine.specs.Values.{place_of}
use Rattle.machine.specs.Plain.{PlainLoop}
use Rattle.machine.specs.Reads.{computed_same}

-- a rank that rises along every edge of delay 0
abbrev pub Ranks : Loop → (ℕ → ℕ) → Type 0
Ranks g y = (e : ℕ) → e < g.graph.edges → g.delay e ≡ 0 → y (g.graph.tail e) < y (g.graph.head e)

solved-ranks : (g : Loop) (y : ℕ → ℕ) → Solves (knots g) y → Ranks g y
unfolding knots
solved-ranks g y h e l z = omega (arith, h e l)

-- a loop without a knot has one
pub free-ranks : (g : Loop) → Sound g → Free g → (y : ℕ → ℕ) × Ranks g y
unfolding knotted
free-ranks g s free =
    let t = settles-solved (knots g) (not-false _ (free-unknotted g s free)) in
    (t.0, solved-ranks g t.0 t.1)

module _ (g : Loop) (s : Sound g) (starts : List ℕ) (k : ℕ) (xs ys : List ℕ) (px : PlainLoop g starts k xs) (py : PlainLoop g starts k ys) where
  -- the tables agree on node v of iteration i
  abbrev Agree : ℕ → ℕ → Type 0
  Agree i v = get_or xs (place_of g starts i v) 0 ≡ get_or ys (place_of g starts i v) 0

  module _ (y : ℕ → ℕ) (ranks : Ranks g y) where
    agree-rank : (i : ℕ) → i < k → ((j v : ℕ) → j < i → v < g.graph.nodes → Agree j v)
        → (bound v : ℕ) → y v < bound → v < g.graph.nodes → Agree i v
    agree-rank i l before zero v h m = absurd (omega arith)
    agree-rank i l before (suc bound) v h m =
        px i v l m
        ∙ computed_same g starts i v xs ys (λ e a q d. hand e a q d (agree-rank i l before bound (g.graph.tail e)))
        ∙ sym (py i v l m)
      where
        hand : (e : ℕ) → e < g.graph.edges → g.graph.head e ≡ v → g.delay e ≤ i
            → (y (g.graph.tail e) < bound → g.graph.tail e < g.graph.nodes → Agree i (g.graph.tail e))
            → Agree (i - g.delay e) (g.graph.tail e)
        hand e a q d now =
            elim (dec_lt 0 (g.delay e)) [
              | yes z ↦ before (i - g.delay e) (g.graph.tail e) (omega arith) (s.joined.tails e a)
              | no z ↦ let same : i - g.delay e ≡ i = omega arith in
                  rw same (now (omega (arith, rw q at (ranks e a (omega arith)))) (s.joined.tails e a))
            ]

    agree-all : (n i v : ℕ) → i < n → i < k → v < g.graph.nodes → Agree i v
    agree-all zero i v a l m = absurd (omega arith)
    agree-all (suc n) i v a l m = agree-rank i l (λ j w b c. agree-all n j w (omega arith) (omega arith) c) (suc (y v)) v (omega arith) m

  -- two tables that are both the plain loop's agree on its k iterations
  pub unique : Free g → (i v : ℕ) → i < k → v < g.graph.nodes → get_or xs (place_of g starts i v) 0 ≡ get_or ys (place_of g starts i v) 0
  unique free i v l m = let r = free-ranks g s free in agree-all r.0 r.1 (suc i) i v (omega arith) l m
