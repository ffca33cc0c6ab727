-- What the listing writes and others write too: the word before a refusal's number, and a retiming.
-- Assumes nothing.
use Rattle.std.specs.Prelude.{List, [], ◌∷◌, ℕ, eqb}
use Rattle.lists.specs.Pick.{pick}
use Rattle.text.specs.Decimal.{decimal}

-- "refused "
unfoldable pub refused_word : List ℕ
refused_word = 114 ∷ 101 ∷ 102 ∷ 117 ∷ 115 ∷ 101 ∷ 100 ∷ 32 ∷ []

-- "+r", nothing where r is 0
unfoldable pub retiming_text : ℕ → List ℕ
retiming_text r = pick (eqb r 0) [] (43 ∷ decimal r)
