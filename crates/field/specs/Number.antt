-- Numbers of several bytes, the lowest first.
-- Assumes nothing.
use Rattle.std.specs.Prelude.{◌≡◌, refl, List, [], ◌∷◌, ◌++◌, ℕ, zero, suc, ◌+◌, ◌-◌, ◌*◌, ◌/◌, ◌%◌, ◌^◌, ◌≤◌, ◌<◌, length, get_or, take, drop}
use Rattle.std.proofs.Common.{ap, sym, ◌∙◌, add-suc, add-zero, arith, get_or-take, get_or-drop, drop-cons}
use Rattle.std.proofs.Math.Nat.{pow-succ', pow-le-pow_right}
use Rattle.std.proofs.Math.Seq.{drop-append_seam}

-- the number in `width` bytes from a place on
unfoldable pub number_at : ℕ → List ℕ → ℕ → ℕ
number_at zero s at = 0
number_at (suc width) s at = get_or s at 0 + 256 * number_at width s (suc at)

-- the `width` bytes of a number
unfoldable pub bytes_of : ℕ → ℕ → List ℕ
bytes_of zero x = []
bytes_of (suc width) x = x % 256 ∷ bytes_of width (x / 256)

-- every element is a byte
abbrev pub Bytes : List ℕ → Type 0
Bytes s = (i : ℕ) → get_or s i 0 < 256

pub number_lt : (s : List ℕ) → Bytes s → (width at : ℕ) → number_at width s at < 256 ^ width
unfolding number_at
number_lt s b zero at = omega arith
number_lt s b (suc width) at = omega (arith, b at, number_lt s b width (suc at), pow-succ' 256 width)

pub number_small : (s : List ℕ) → Bytes s → (width most at : ℕ) → width ≤ most → number_at width s at < 256 ^ most
number_small s b width most at h = omega (arith, number_lt s b width at, pow-le-pow_right {n = 256} (omega arith) h)

-- one byte more in front of those from `left` on
pub number_more : (s : List ℕ) (width left at value byte : ℕ) → 0 < left → left ≤ width → value ≡ number_at (width - left) s (at + left)
    → byte ≡ get_or s (at + (left - 1)) 0 → value * 256 + byte ≡ number_at (width - (left - 1)) s (at + (left - 1))
unfolding number_at
number_more s width left at value byte p h e b =
    let n : width - (left - 1) ≡ suc (width - left) = omega arith in
    let a : suc (at + (left - 1)) ≡ at + left = omega arith in
    rw (n, number_at, a, ← e) (omega (arith, b))

pub bytes-length : (width x : ℕ) → length (bytes_of width x) ≡ width
unfolding bytes_of
bytes-length zero x = refl
bytes-length (suc width) x = ap suc (bytes-length width (x / 256))

-- a number after so many bytes, by its place among all of them
pub number-drop : (width : ℕ) (s : List ℕ) (at k : ℕ) → number_at width (drop at s) k ≡ number_at width s (at + k)
unfolding number_at
number-drop zero s at k = refl
number-drop (suc width) s at k = rw (get_or-drop, number-drop width s at (suc k), add-suc)

-- a number among the first bytes
pub number-take : (width n : ℕ) (s : List ℕ) (k : ℕ) → k + width ≤ n → number_at width (take n s) k ≡ number_at width s k
unfolding number_at
number-take zero n s k h = refl
number-take (suc width) n s k h =
    let l : k < n = omega arith in
    rw (get_or-take n s k 0 l, number-take width n s (suc k) (omega arith))

-- the number of the bytes in front
pub number-front : (width x : ℕ) (post : List ℕ) → x < 256 ^ width → number_at width (bytes_of width x ++ post) 0 ≡ x
unfolding number_at bytes_of
number-front zero x post h = omega arith
number-front (suc width) x post h =
    let t : List ℕ = bytes_of width (x / 256) ++ post in
    omega (arith, number-drop width (x % 256 ∷ t) 1 0, number-front width (x / 256) post (omega (arith, pow-succ' 256 width)))

-- a number is that of its own bytes, wherever they stand
pub number-bytes : (width x : ℕ) (pre post : List ℕ) → x < 256 ^ width → number_at width (pre ++ (bytes_of width x ++ post)) (length pre) ≡ x
number-bytes width x pre post h =
    let r : List ℕ = bytes_of width x ++ post in
    let e : number_at width (drop (length pre) (pre ++ r)) 0 ≡ number_at width (pre ++ r) (length pre) = rw add-zero at (number-drop width (pre ++ r) (length pre) 0) in
    sym e ∙ rw drop-append_seam (number-front width x post h)

-- bytes are those of their own number
pub bytes-number : (s : List ℕ) → Bytes s → (width at : ℕ) → at + width ≤ length s → bytes_of width (number_at width s at) ≡ take width (drop at s)
unfolding number_at bytes_of
bytes-number s b zero at h = refl
bytes-number s b (suc width) at h =
    let g : ℕ = get_or s at 0 in
    let m : ℕ = number_at width s (suc at) in
    let l : g < 256 = b at in
    let low : (g + 256 * m) % 256 ≡ g = omega arith in
    let rest : (g + 256 * m) / 256 ≡ m = omega arith in
    let i : at < length s = omega arith in
    rw (low, rest, drop-cons s at 0 i, bytes-number s b width (suc at) (omega arith))
