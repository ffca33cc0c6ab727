-- The plain loop, by its equations: each value is its operation applied to its operands, from the table or from the start table.
-- Assumes nothing.
use Rattle.std.specs.Prelude.{◌≡◌, List, ℕ, ◌<◌, get_or}
use Rattle.legal.specs.Loop.{Loop}
use Rattle.machine.specs.Values.{place_of, computed}

-- the values of the first k iterations are the plain loop's
abbrev pub PlainLoop : Loop → List ℕ → ℕ → List ℕ → Type 0
PlainLoop g starts k values =
    (i v : ℕ) → i < k → v < g.graph.nodes → get_or values (place_of g starts i v) 0 ≡ computed g starts values i v
