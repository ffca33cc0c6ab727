-- A run of as many iterations as the depth and the bodies that an operation reaches into that is never refused has a legal pair: what breaks a rule is refused.
-- Assumes nothing.
use Rattle.std.specs.Prelude.{◌≡◌, ◌≢◌, List, ℕ, ◌+◌, ◌*◌, ◌≤◌, ◌<◌, length, None}
use Rattle.std.proofs.Common.{arith}
use Rattle.legal.specs.Loop.{Loop, Pair, bodies}
use Rattle.legal.specs.Legal.{Legal, EdgeRule, Knot, busy}
use Rattle.legal.specs.Shape.{Sound, Placed, WithinBodies, bodied-within}
use Rattle.legal.specs.Paced.{legal-free}
use Rattle.machine.specs.Run.{depth, run_of}
use Rattle.machine.specs.NotStuck.{run-issued}
use Rattle.machine.specs.Meets.{ready-edges, roomy-units}

module _ (g : Loop) (p : Pair) (s : Sound g) (b : Placed g p) (starts : List ℕ) (k : ℕ) (values finish : List ℕ)
    (room : k * g.graph.nodes ≤ length values) (room' : k * g.graph.nodes ≤ length finish) (deep : depth g p + bodies p.kind ≤ k)
    (goes_on : (run_of g p starts k values finish).refusal ≡ None) where
  in-bodies : WithinBodies g p (bodies p.kind)
  in-bodies = bodied-within g p s b.body

  -- no step of the body holds more of any class than its units
  pub unrefused-units : (q c : ℕ) → 1 ≤ q → q ≤ p.length → busy g p c q ≤ (g.class c).units
  unrefused-units =
      roomy-units g p s _ in-bodies starts k deep (λ i v one l. (run-issued g p s in-bodies.starts starts k values finish room room' goes_on i v one l).roomy)

  -- so the pair is legal
  pub unrefused-legal : Legal g p
  unrefused-legal = record {
    steps = b.steps;
    body = b.body;
    retimings = b.retimings;
    least = b.least;
    edges = ready-edges g p s _ in-bodies starts k deep (λ i v one l. (run-issued g p s in-bodies.starts starts k values finish room room' goes_on i v one l).ready);
    units = λ q c one l m. unrefused-units q c one l;
  }

module _ (g : Loop) (p : Pair) (s : Sound g) (b : Placed g p) (starts : List ℕ) (k : ℕ) (values finish : List ℕ)
    (room : k * g.graph.nodes ≤ length values) (room' : k * g.graph.nodes ≤ length finish) (deep : depth g p + bodies p.kind ≤ k) where
  -- a pair that is not legal is refused
  pub refused : (Legal g p → ⊥) → (run_of g p starts k values finish).refusal ≢ None
  refused h goes_on = h (unrefused-legal g p s b starts k values finish room room' deep goes_on)

  -- an edge that breaks the edge rule is
  pub edge-refused : (e : ℕ) → e < g.graph.edges → (EdgeRule g p e → ⊥) → (run_of g p starts k values finish).refusal ≢ None
  edge-refused e l broken = refused (λ h. broken (h.edges e l))

  -- a step of the body that holds more of a class than its units is, whatever the class's number
  pub units-refused : (q c : ℕ) → 1 ≤ q → q ≤ p.length → (g.class c).units < busy g p c q → (run_of g p starts k values finish).refusal ≢ None
  units-refused q c one l over goes_on = omega (arith, unrefused-units g p s b starts k values finish room room' deep goes_on q c one l)

  -- a loop with a knot is
  pub knot-refused : (es : List ℕ) → Knot g es → (run_of g p starts k values finish).refusal ≢ None
  knot-refused es knot = refused (λ h. legal-free g p s h es knot)
