-- A place among the values of a run.
-- Assumes nothing.
use Prim.Native.Nat.{ℕ, ◌*◌, ◌≤◌}
use native.Mathlib.Nat.{mul-le-mul}
use native.Mathlib.Omega.{arith}
use mir.Syntax.{w64}
use mir.Val.{Fits}

-- iterations times nodes
pub product : (a b : ℕ) → a ≤ 65535 → b ≤ 255 → a * b ≤ 16711425
product a b h k = mul-le-mul h k

pub product-fits : (a b : ℕ) → a ≤ 65535 → b ≤ 255 → Fits w64 (a * b)
product-fits a b h k = omega (arith, product a b h k)
