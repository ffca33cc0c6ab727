-- What an edge hands over, told by the tests of the code.
-- Assumes nothing.
use mathlib.Core.Path.{◌≡◌}
use mathlib.Core.List.{List}
use mathlib.Core.Bool.{true, false}
use mathlib.Core.Logic.{◌≢◌}
use Prim.Native.Nat.{ℕ, ◌+◌, ◌-◌, ◌*◌, ◌≤◌, ◌<◌}
use borrow.Author.Tests.{eq-eqb, ne_eqb, le-ltb, lt-ltb}
use lib.Dec.{ltb}
use lib.ListN.{get_or}
use Rattle.issue.specs.Late.{missing}

module _ (nodes : ℕ) (finish : List ℕ) (i t u d : ℕ) where
  pub missing-before : i < d → false ≡ missing nodes finish i t u d
  unfolding missing
  missing-before l = rw (lt-ltb i d l)

  pub missing-none : d ≤ i → get_or finish ((i - d) * nodes + u) 0 ≡ 0 → true ≡ missing nodes finish i t u d
  unfolding missing
  missing-none l e = rw (le-ltb i d l, eq-eqb (get_or finish ((i - d) * nodes + u) 0) 0 e)

  pub missing-some : d ≤ i → get_or finish ((i - d) * nodes + u) 0 ≢ 0 → ltb t (get_or finish ((i - d) * nodes + u) 0) ≡ missing nodes finish i t u d
  unfolding missing
  missing-some l e = rw (le-ltb i d l, ne_eqb (get_or finish ((i - d) * nodes + u) 0) 0 e)
