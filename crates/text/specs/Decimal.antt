-- Numbers below 1000 in decimal, without leading zeros, and the end of a line.
-- Assumes nothing.
use Rattle.std.specs.Prelude.{List, [], ◌∷◌, ℕ, ◌+◌, ◌/◌, ◌%◌, ltb}
use Rattle.lists.specs.Pick.{pick}

-- the digit of a number below 10
abbrev pub digit : ℕ → ℕ
digit n = 48 + n

unfoldable pub decimal : ℕ → List ℕ
decimal n =
    pick (ltb n 10) (digit n ∷ [])
    (pick (ltb n 100) (digit (n / 10) ∷ digit (n % 10) ∷ [])
    (digit (n / 100) ∷ digit (n / 10 % 10) ∷ digit (n % 10) ∷ []))

abbrev pub newline : List ℕ
newline = 10 ∷ []
