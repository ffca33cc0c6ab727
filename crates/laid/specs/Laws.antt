-- Runs of bytes laid one after the other.
-- Assumes nothing.
use Rattle.std.specs.Prelude.{◌≡◌, refl, List, [], ◌++◌, ℕ, zero, suc, ◌+◌, ◌<◌, length}
use Rattle.std.proofs.Common.{sym, ◌∙◌, add-zero, arith, length-append}
use Rattle.std.proofs.Math.Numerals.{add-one}
use Rattle.std.proofs.Math.Seq.{length-sets}
use Rattle.lists.specs.Stored.{sets-append}
use Rattle.laid.specs.Laid.{Laid}
use Rattle.laid.specs.Rows.{rows}

module _ (l : List ℕ) (at : ℕ) where
  pub nothing : Laid l at [] l at
  nothing = record { is = refl; ends = sym (add-zero at) }

  -- one run, then another
  pub both : (vs ws m n : List ℕ) (e f : ℕ) → Laid l at vs m e → Laid m e ws n f → Laid l at (vs ++ ws) n f
  both vs ws m n e f x y = record {
    is = y.is ∙ rw (x.is, x.ends) (sym (sets-append vs ws l at));
    ends = omega (arith, x.ends, y.ends, length-append vs ws);
  }

  -- one row more
  pub row_more : (row : ℕ → List ℕ) (i : ℕ) (m n : List ℕ) (e f : ℕ) → Laid l at (rows row i) m e → Laid m e (row i) n f → Laid l at (rows row (i + 1)) n f
  unfolding rows
  row_more row i m n e f x y = rw add-one (both (rows row i) (row i) m n e f x y)

-- rows up to the last
pub rows_whole : (l : List ℕ) (at : ℕ) (row : ℕ → List ℕ) (m : List ℕ) (n i e : ℕ) → Laid l at (rows row i) m e → i ≡ n → Laid l at (rows row n) m e
rows_whole l at row m n i e x h = rw h at x

-- rows that are equal one by one
pub rows_same : (r s : ℕ → List ℕ) (n : ℕ) → ((v : ℕ) → v < n → r v ≡ s v) → rows r n ≡ rows s n
unfolding rows
rows_same r s zero h = refl
rows_same r s (suc n) h = rw (rows_same r s n (λ v l. h v (omega arith)), h n (omega arith))

-- laying keeps a buffer's length
pub same-long : (l vs m : List ℕ) (at n : ℕ) → Laid l at vs m n → length m ≡ length l
same-long l vs m at n x = rw x.is (length-sets l at vs)
