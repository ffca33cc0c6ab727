-- Reading on or refused: one law for a table of a record, row after row.
-- Assumes nothing.
use Rattle.std.specs.Prelude.{◌≡◌, refl, Bool, true, false, ℕ, zero, suc, ◌+◌, ◌<◌}
use Rattle.std.proofs.Common.{subst, arith}
use Rattle.lists.specs.Pick.{pick, both_ways}
use Rattle.answer.specs.Refused.{Verdict, fine}
use Rattle.reader.specs.Outcome.{Reading}
use Rattle.reader.specs.Tables.{table}

-- P holds where nothing is refused, else Q of the refusal
pub record Runs (P : Reading → Type 0) (Q : Verdict → Type 0) (x : Reading) : Type 0 where
  pub on : fine x.next.refusal ≡ true → P x
  pub off : fine x.next.refusal ≡ false → Q x.next.refusal

-- after a refusal a table reads nothing
pub table-refused : (step : ℕ → Reading → Reading) (n i : ℕ) (x : Reading) → fine x.next.refusal ≡ false → table step n i x ≡ x
unfolding table pick
table-refused step zero i x e = refl
table-refused step (suc n) i x e = rw e

-- a table after what went before it
pub runs_on : {P R : Reading → Type 0} {Q : Verdict → Type 0} (step : ℕ → Reading → Reading) (n i : ℕ) (x : Reading) → Runs P Q x
    → (fine x.next.refusal ≡ true → P x → Runs R Q (table step n i x)) → Runs R Q (table step n i x)
runs_on {P} {R} {Q} step n i x r k = go (fine x.next.refusal) refl
  where
    go : (b : Bool) → fine x.next.refusal ≡ b → Runs R Q (table step n i x)
    go true e = k e (r.on e)
    go false e = rw (table-refused step n i x e) (record { on = λ t. both_ways t e; off = r.off })

-- what holds before a table's rows and is kept by each row that is not refused holds after them, and a refused row is the table's refusal
pub table_runs : (step : ℕ → Reading → Reading) (P : ℕ → Reading → Type 0) (Q : Verdict → Type 0) (top : ℕ)
    → ((i : ℕ) (x : Reading) → i < top → P i x → Runs (P (suc i)) Q (step i x))
    → (left i : ℕ) (x : Reading) → i + left ≡ top → fine x.next.refusal ≡ true → P i x → Runs (P top) Q (table step left i x)
unfolding table pick
table_runs step P Q top turn zero i x n f p = record { on = λ _. subst (λ (k : ℕ). P k x) (omega arith) p; off = λ e. both_ways f e }
table_runs step P Q top turn (suc left) i x n f p =
    rw f
    (runs_on step left (i + 1) (step i x) (turn i x (omega arith) p)
    (λ g q. table_runs step P Q top turn left (i + 1) (step i x) (omega arith) g (subst (λ (k : ℕ). P k (step i x)) (omega arith) q)))
