-- What stands at a place of a list: after a store, in a list of zeros, and in a table that is filled place by place.
-- Assumes nothing.
use Rattle.std.specs.Prelude.{◌≡◌, refl, ◌⊎◌, List, [], ◌∷◌, ℕ, zero, suc, ◌+◌, ◌<◌, length, get_or, set, replicate}
use Rattle.std.proofs.Common.{ap, ◌∙◌, inl, inr, ⊎_elim, ne_of_lt, get_or-set_same, get_or-set_other, below_more}

-- what stands at v after a store at i, which does nothing past the end
pub set_view : (xs : List ℕ) (i a v : ℕ) → ((v ≡ i) × (get_or (set xs i a) v 0 ≡ a)) ⊎ (get_or (set xs i a) v 0 ≡ get_or xs v 0)
set_view [] i a v = inr refl
set_view (x ∷ xs) zero a zero = inl (refl, refl)
set_view (x ∷ xs) zero a (suc v) = inr refl
set_view (x ∷ xs) (suc i) a zero = inr refl
set_view (x ∷ xs) (suc i) a (suc v) = ⊎_elim (λ w. inl (ap suc w.0, w.1)) inr (set_view xs i a v)

pub zeros-at : (n v : ℕ) → ◌≡◌ {A = ℕ} (get_or (replicate n 0) v 0) 0
zeros-at zero v = refl
zeros-at (suc n) zero = refl
zeros-at (suc n) (suc v) = zeros-at n v

-- a place more of a table is filled
pub filled_more : (want : ℕ → ℕ) (xs : List ℕ) (v a : ℕ) → v < length xs → a ≡ want v → ((u : ℕ) → u < v → get_or xs u 0 ≡ want u)
    → (u : ℕ) → u < v + 1 → get_or (set xs v a) u 0 ≡ want u
filled_more want xs v a h e all =
    below_more (λ u. get_or (set xs v a) u 0 ≡ want u) v (λ u l. get_or-set_other xs v u a 0 (ne_of_lt l) ∙ all u l) (get_or-set_same xs v a 0 h ∙ e)
