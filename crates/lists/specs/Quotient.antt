-- A number as so many times another and a rest: the quotient and the rest, and places in a table of rows.
-- Assumes nothing.
use Rattle.std.specs.Prelude.{◌≡◌, ℕ, suc, ◌+◌, ◌*◌, ◌/◌, ◌%◌, ◌≤◌, ◌<◌}
use Rattle.std.proofs.Common.{arith, suc-mul, mul-le-mul_right, div-add-mod', mod-lt, div-lt_iff_lt-mul, add-one}
use Rattle.std.proofs.Math.Nat.{div-eq_of_lt-le}

-- what q times n and a rest below n is divided by n
pub divided : (q n x t : ℕ) → x < n → t ≡ q * n + x → (t / n ≡ q) × (t % n ≡ x)
divided q n x t h e =
    let more : suc q * n ≡ q * n + n = suc-mul q n in
    let d : t / n ≡ q = div-eq_of_lt-le {k = q} n {m = t} (omega arith) (rw add-one (omega arith)) in
    (d, omega (arith, rw d at (div-add-mod' t n)))

-- fewer rows hold less
pub rows-below : (q r n : ℕ) → q < r → q * n + n ≤ r * n
rows-below q r n h = omega (arith, suc-mul q n, mul-le-mul_right {m = suc q} {n = r} n h)

-- a place tells its row and its column
pub rows_apart : (i j n v w : ℕ) → v < n → w < n → i * n + v ≡ j * n + w → (i ≡ j) × (v ≡ w)
rows_apart i j n v w a b e =
    let x = divided i n v (i * n + v) a (omega arith) in
    let y = divided j n w (i * n + v) b e in
    (omega arith, omega arith)

-- a place of k rows has a row and a column
pub row_of : (at k n : ℕ) → at < k * n → 0 < n → (at / n < k) × (at % n < n) × (at / n * n + at % n ≡ at)
row_of at k n h pos = ((div-lt_iff_lt-mul {k = n} {x = at} {y = k} pos).1 h, mod-lt at pos, div-add-mod' at n)
