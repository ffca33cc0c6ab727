-- One of two values, by a test.
-- Assumes nothing.
use Rattle.std.specs.Prelude.{Bool, true, false, ◌≡◌, refl, ℕ}
use Rattle.std.proofs.Common.{arith}

-- x where the test passes, else y
unfoldable pub pick {ℓ} : {A : Type ℓ} → Bool → A → A → A
pick true x y = x
pick false x y = y

pub pick_true {ℓ} : {A : Type ℓ} (b : Bool) (x y : A) → b ≡ true → pick b x y ≡ x
unfolding pick
pick_true b x y e = rw e

pub pick-false {ℓ} : {A : Type ℓ} (b : Bool) (x y : A) → b ≡ false → pick b x y ≡ y
unfolding pick
pick-false b x y e = rw e

-- what holds of each branch, under its test, holds of the choice
pub pick_ind {ℓ κ} : {A : Type ℓ} (P : A → Type κ) (b : Bool) (x y : A) → (b ≡ true → P x) → (b ≡ false → P y) → P (pick b x y)
unfolding pick
pick_ind P true x y f g = f refl
pick_ind P false x y f g = g refl

-- a test does not go both ways
pub both_ways {ℓ} : {A : Type ℓ} {b : Bool} → b ≡ true → b ≡ false → A
both_ways t f = let z : ◌≡◌ {A = ℕ} 0 1 = cc in absurd (omega arith)
