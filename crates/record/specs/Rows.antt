-- Rows one after the other: their length, their bytes, and each as a slice of the whole.
-- Assumes nothing.
use Rattle.std.specs.Prelude.{◌≡◌, length, drop}
use Rattle.std.proofs.Math.Path.{sym}
use Rattle.std.proofs.Common.{ap, ⊎_elim, not-suc-le-zero, eq-or-lt_of_le, le_of_suc-le-suc, arith, length-append, length-take, length-drop, take_at, drop_at}
use mathlib.Core.List.{List, [], ◌∷◌, ◌++◌, append_assoc}
use Prim.Native.Nat.{ℕ, zero, suc, ◌+◌, ◌*◌, ◌/◌, ◌≤◌, ◌<◌}
use Rattle.std.proofs.Math.Nat.{mul-suc, mul-zero}
use Rattle.std.proofs.Math.ListN.{take}
use Rattle.std.proofs.Math.Seq.{take-add, drop-drop}
use Rattle.std.proofs.lemmas.List.{take-append-le, drop-append-le}
use Rattle.laid.specs.Rows.{rows}
use Rattle.field.specs.Number.{Bytes, bytes_of}

-- no element is no byte
pub bytes-nil : Bytes []
bytes-nil i = omega arith

-- a byte in front of bytes
pub bytes-cons : (x : ℕ) (s : List ℕ) → x < 256 → Bytes s → Bytes (x ∷ s)
bytes-cons x s l b zero = l
bytes-cons x s l b (suc i) = b i

-- three bytes
pub bytes-three : (x y z : ℕ) → x < 256 → y < 256 → z < 256 → Bytes (x ∷ y ∷ z ∷ [])
bytes-three x y z p q r = bytes-cons x (y ∷ z ∷ []) p (bytes-cons y (z ∷ []) q (bytes-cons z [] r bytes-nil))

-- bytes after bytes
pub bytes-append : (s t : List ℕ) → Bytes s → Bytes t → Bytes (s ++ t)
bytes-append [] t b d i = d i
bytes-append (x ∷ s) t b d zero = b 0
bytes-append (x ∷ s) t b d (suc i) = bytes-append s t (λ j. b (suc j)) d i

-- a number's bytes are bytes
pub bytes-of : (width x : ℕ) → Bytes (bytes_of width x)
unfolding bytes_of
bytes-of zero x i = omega arith
bytes-of (suc width) x zero = omega arith
bytes-of (suc width) x (suc i) = bytes-of width (x / 256) i

-- what stands between a beginning and an end is a slice of the whole
pub slice_at : (pre part post : List ℕ) (at width : ℕ) → length pre ≡ at → length part ≡ width → take width (drop at (pre ++ (part ++ post))) ≡ part
slice_at pre part post at width a w = rw (drop_at pre (part ++ post) at a) (take_at part post width w)

-- a slice of its whole size has room in the record
pub slice-room : (s part : List ℕ) (at size : ℕ) → take size (drop at s) ≡ part → length part ≡ size → 0 < size → at + size ≤ length s
slice-room s part at size e n z = omega (arith, simp (length-take, length-drop) at (ap length e))

-- a slice stays where it is, whatever is put behind the whole
pub slice_front : (s rest part : List ℕ) (at size : ℕ) → take size (drop at s) ≡ part → length part ≡ size → 0 < size → take size (drop at (s ++ rest)) ≡ part
slice_front s rest part at size e n z =
    let room : at + size ≤ length s = slice-room s part at size e n z in
    rw (drop-append-le at s rest (omega arith), take-append-le size (drop at s) rest (rw length-drop (omega arith))) e

module _ (row : ℕ → List ℕ) where
  -- rows of bytes are bytes
  pub rows-bytes : (n : ℕ) → ((i : ℕ) → i < n → Bytes (row i)) → Bytes (rows row n)
  unfolding rows
  rows-bytes zero b = bytes-nil
  rows-bytes (suc n) b = bytes-append (rows row n) (row n) (rows-bytes n (λ i l. b i (omega arith))) (b n (omega arith))

  module _ (width : ℕ) where
    -- rows that are the slices of a whole make up one slice of it
    pub rows_cut : (s : List ℕ) (at n : ℕ) → ((i : ℕ) → i < n → row i ≡ take width (drop (at + width * i) s)) → rows row n ≡ take (width * n) (drop at s)
    unfolding rows
    rows_cut s at zero e = rw mul-zero
    rows_cut s at (suc n) e =
        rw (mul-suc, take-add (width * n) width (drop at s), drop-drop (width * n) at s, rows_cut s at n (λ i l. e i (omega arith)), e n (omega arith))

    module _ (even : (i : ℕ) → length (row i) ≡ width) where
      -- rows of one width take it times their number
      pub rows-length : (n : ℕ) → length (rows row n) ≡ width * n
      unfolding rows
      rows-length zero = sym (mul-zero width)
      rows-length (suc n) = rw (length-append, mul-suc, rows-length n, even n)

      -- each row is a slice of the whole
      pub rows-slice : (pre post : List ℕ) (at n i : ℕ) → length pre ≡ at → i < n → take width (drop (at + width * i) (pre ++ (rows row n ++ post))) ≡ row i
      unfolding rows
      rows-slice pre post at zero i a l = absurd (not-suc-le-zero l)
      rows-slice pre post at (suc n) i a l =
          let last : i ≡ n → take width (drop (at + width * i) (pre ++ (rows row n ++ (row n ++ post)))) ≡ row i =
          λ e. rw (e, ← append_assoc pre (rows row n) (row n ++ post))
          (slice_at (pre ++ rows row n) (row n) post (at + width * n) width (rw (length-append, a, rows-length n)) (even n)) in
          rw append_assoc (⊎_elim last (λ m. rows-slice pre (row n ++ post) at n i a m) (eq-or-lt_of_le (le_of_suc-le-suc l)))
