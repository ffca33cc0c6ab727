-- The rows of a table that are read so far: each is laid out in the record and in range, and the places past them are unused.
-- Assumes nothing.
use Rattle.std.specs.Prelude.{◌≡◌, List, ◌≢◌, ℕ, suc, ◌+◌, ◌*◌, ◌≤◌, ◌<◌, length, get_or, set, take, drop}
use Rattle.std.proofs.Common.{sym, subst, ◌∙◌, ⊎_elim, not-suc-le-zero, eq-or-lt_of_le, le_of_suc-le-suc, arith, length-set, get_or-set_same, get_or-set_other}

below : (P : ℕ → Type 0) (n : ℕ) → P n → ((i : ℕ) → i < n → P i) → (i : ℕ) → i < suc n → P i
below P n last before i l = ⊎_elim (λ e. subst P (sym e) last) (before i) (eq-or-lt_of_le (le_of_suc-le-suc l))

module _ {A : Type 0} (s : List ℕ) (at width : ℕ) (bytes : A → List ℕ) (Good : ℕ → A → Type 0) (none : A) where
  -- the table has its places; the first n rows are laid out at theirs and in range, and the others unused
  pub record Cells (Room : Type 0) (n : ℕ) (cell : ℕ → A) : Type 0 where
    pub sized : Room
    pub laid : (i : ℕ) → i < n → bytes (cell i) ≡ take width (drop (at + width * i) s)
    pub good : (i : ℕ) → i < n → Good i (cell i)
    pub rest : (i : ℕ) → n ≤ i → cell i ≡ none

  -- no row is read of an unused table
  pub cells-none : {Room : Type 0} → Room → (cell : ℕ → A) → ((i : ℕ) → cell i ≡ none) → Cells Room 0 cell
  cells-none z cell e = record { sized = z; laid = λ i l. absurd (not-suc-le-zero l); good = λ i l. absurd (not-suc-le-zero l); rest = λ i l. e i }

  -- one row more
  pub cells-put : {Room More : Type 0} {n : ℕ} {cell : ℕ → A} → Cells Room n cell → More → (more : ℕ → A) (a : A) → more n ≡ a → ((i : ℕ) → i ≢ n → more i ≡ cell i)
      → bytes a ≡ take width (drop (at + width * n) s) → Good n a → Cells More (suc n) more
  cells-put {Room} {More} {n} {cell} c z more a same other laid good =
      let turn : (i : ℕ) → i < n → more i ≡ cell i = λ i l. other i (λ e. omega arith) in
      record {
        sized = z;
        laid = below (λ i. bytes (more i) ≡ take width (drop (at + width * i) s)) n (rw same laid) (λ i m. rw (turn i m) (c.laid i m));
        good = below (λ i. Good i (more i)) n (rw same good) (λ i m. rw (turn i m) (c.good i m));
        rest = λ i l. other i (λ e. omega arith) ∙ c.rest i (omega arith);
      }

  -- one row more in a table that is one list
  pub list_put : (size n : ℕ) (xs : List A) → Cells (length xs ≡ size) n (λ i. get_or xs i none) → n < size → (a : A)
      → bytes a ≡ take width (drop (at + width * n) s) → Good n a → Cells (length (set xs n a) ≡ size) (suc n) (λ i. get_or (set xs n a) i none)
  list_put size n xs c l a laid good =
      cells-put c (length-set xs n a ∙ c.sized) (λ i. get_or (set xs n a) i none) a (get_or-set_same xs n a none (omega (arith, c.sized))) (λ j ne. get_or-set_other xs n j a none ne) laid good
