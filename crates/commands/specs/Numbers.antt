-- Decimal numbers up to 65535 from text.
-- Assumes nothing.
use Rattle.std.specs.Prelude.{List, [], ◌∷◌, ℕ, ◌+◌, ◌-◌, ◌*◌, ltb, Option, None, Some}
use Rattle.std.specs.Option.{option_and_then}
use Rattle.lists.specs.Pick.{pick}

-- a number with one digit more; none where the byte is no digit or the number would be above 65535
unfoldable pub longer_by : ℕ → ℕ → Option ℕ
longer_by value byte =
    pick (ltb byte 48) None (pick (ltb 57 byte) None (pick (ltb 65535 (value * 10 + (byte - 48))) None (Some (value * 10 + (byte - 48)))))

-- what the digits that are left make of the number so far
unfoldable pub number_from : ℕ → List ℕ → Option ℕ
number_from value [] = Some value
number_from value (byte ∷ bytes) = option_and_then (λ next. number_from next bytes) (longer_by value byte)

-- the number of 0 to 65535 that a word is in decimal; the empty word is none
unfoldable pub number_in : List ℕ → Option ℕ
number_in [] = None
number_in (byte ∷ bytes) = number_from 0 (byte ∷ bytes)
