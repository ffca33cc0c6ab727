-- Decimal numbers below 2^32 as text.
-- Assumes nothing.
use Rattle.std.specs.Prelude.{List, [], ◌∷◌, ◌++◌, ℕ, ◌+◌, ◌/◌, ◌%◌, ltb}
use Rattle.lists.specs.Pick.{pick}

-- the digit at a place, which is a power of 10; none before the first digit that counts
unfoldable pub place_text : ℕ → ℕ → List ℕ
place_text n place = pick (ltb n place) [] ((48 + n / place % 10) ∷ [])

-- the places from 100,000 up, and those below
unfoldable pub high_text : ℕ → List ℕ
high_text n = place_text n 1000000000 ++ (place_text n 100000000 ++ (place_text n 10000000 ++ (place_text n 1000000 ++ place_text n 100000)))

unfoldable pub low_text : ℕ → List ℕ
low_text n = place_text n 10000 ++ (place_text n 1000 ++ (place_text n 100 ++ (place_text n 10 ++ ((48 + n % 10) ∷ []))))

-- a number below 2^32 in decimal, without leading zeros
unfoldable pub numeral : ℕ → List ℕ
numeral n = high_text n ++ low_text n
