-- Two tests joined: what both tell, and what passes both.
-- Assumes nothing.
use Rattle.std.specs.Prelude.{◌≡◌, refl, Bool, true, false, ◌&&◌, ◌||◌}
use Rattle.std.proofs.lemmas.Bool.{false≢true}

pub and_both : (a b : Bool) → a && b ≡ true → (a ≡ true) × (b ≡ true)
and_both true b e = (refl, e)
and_both false b e = absurd (false≢true e)

pub both-and : (a b : Bool) → a ≡ true → b ≡ true → a && b ≡ true
both-and a b p q = rw (p, q)

-- where the two do not both pass, the second fails if the first passes
pub and-fails : (a b : Bool) → a && b ≡ false → a ≡ true → b ≡ false
and-fails true b e p = e
and-fails false b e p = absurd (false≢true p)

pub or-fails : (a b : Bool) → a || b ≡ false → (a ≡ false) × (b ≡ false)
or-fails true b e = absurd (false≢true (rw e refl))
or-fails false b e = (refl, e)

pub fails-or : (a b : Bool) → a ≡ false → b ≡ false → a || b ≡ false
fails-or a b p q = rw (p, q)
