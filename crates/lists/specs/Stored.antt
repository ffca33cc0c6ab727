-- Runs of stores into a list, one after the other.
-- Assumes nothing.
use Rattle.std.specs.Prelude.{◌≡◌, List, [], ◌∷◌, ◌++◌, ℕ, suc, ◌+◌, ◌≤◌, length, take}
use Rattle.std.proofs.Common.{add-zero, add-suc, suc-add, zero-add}
use Rattle.std.proofs.lemmas.List.Edits.{sets, sets-eq}
use Rattle.std.proofs.Math.Seq.{take-append_seam}

pub sets-append : (vs ws l : List ℕ) (i : ℕ) → sets l i (vs ++ ws) ≡ sets (sets l i vs) (i + length vs) ws
sets-append [] ws l i = rw add-zero
sets-append (v ∷ vs) ws l i = rw (add-suc, ← suc-add) (sets-append vs ws _ (suc i))

-- the front of a list is what was stored there
pub sets-front : (l vs : List ℕ) → length vs ≤ length l → take (length vs) (sets l 0 vs) ≡ vs
sets-front l vs h = rw (sets-eq vs l 0 (rw zero-add h)) (take-append_seam vs _)
