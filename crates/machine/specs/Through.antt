-- A run over run steps and nodes, whatever a visit does: what each visit keeps holds through all of them.
-- Assumes nothing.
use Rattle.std.specs.Prelude.{◌≡◌}
use Rattle.std.proofs.Common.{sym, zero-add, add-suc}
use Rattle.std.proofs.Math.Path.{subst}
use Prim.Native.Nat.{ℕ, zero, suc, ◌+◌, ◌*◌, ◌≤◌, ◌<◌}
use native.Mathlib.Omega.{arith}
use Rattle.std.proofs.Math.Nat.{add-zero, suc-mul, one-mul}
use Rattle.lists.specs.Span.{span}
use Rattle.lists.specs.Fold.{fold, fold-snoc}

module _ {M : Type 0} (nodes : ℕ) (call : ℕ → M → ℕ → M) where
  -- the nodes of a run step in ascending order
  unfoldable pub step_by : M → ℕ → M
  step_by m t = fold (call t) m (span 0 nodes)

  -- so many run steps
  unfoldable pub ran_by : ℕ → M → M
  ran_by n m = fold step_by m (span 1 n)

  module _ (Holds : ℕ → M → Type 0)
      (keep : (t v : ℕ) (m : M) → 1 ≤ t → v < nodes → Holds (t * nodes + v) m → Holds (suc (t * nodes + v)) (call t m v)) where
    through-nodes : (t j : ℕ) (m : M) → 1 ≤ t → j ≤ nodes → Holds (t * nodes) m → Holds (t * nodes + j) (fold (call t) m (span 0 j))
    unfolding fold span
    through-nodes t zero m one l h = rw add-zero h
    through-nodes t (suc j) m one l h =
        subst (λ (r : M). Holds (t * nodes + suc j) r) (sym (fold-snoc (call t) m 0 j))
        (rw (zero-add, add-suc) (keep t j _ one (omega arith) (through-nodes t j m one (omega arith) h)))

    pub through : (n : ℕ) (m : M) → Holds nodes m → Holds (suc n * nodes) (ran_by n m)
    unfolding ran_by fold span step_by
    through zero m h = rw one-mul h
    through (suc n) m h =
        let one : 1 + n ≡ suc n = omega arith in
        subst (λ (r : M). Holds (suc (suc n) * nodes) r) (sym (fold-snoc step_by m 1 n))
        (rw (one, suc-mul (suc n) nodes) (through-nodes (suc n) nodes _ (omega arith) (omega arith) (through n m h)))
