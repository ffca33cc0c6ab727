-- A table that is filled up to a place, and 0 from there on.
-- Assumes nothing.
use Rattle.std.specs.Prelude.{◌≡◌, set, replicate}
use Rattle.std.proofs.Math.Path.{ap}
use Rattle.std.proofs.Common.{◌∙◌}
use mathlib.Core.List.{List, ◌++◌, map, append_assoc}
use Prim.Native.Nat.{ℕ, suc, ◌+◌, ◌-◌, ◌≤◌, ◌<◌}
use Rattle.std.proofs.Math.Nat.{zero-add, sub-zero}
use Rattle.std.proofs.Math.Numerals.{add-one}
use native.Mathlib.Omega.{arith}
use Rattle.std.proofs.Math.ListN.{length, get_or, length-append, length-replicate, get_or-append}
use Rattle.std.proofs.lemmas.List.{length-map}
use Rattle.std.proofs.Math.Seq.{set_at, get_or-append-add}
use Rattle.lists.specs.Span.{span, span-length}
use Rattle.lists.specs.Mapped.{map_snoc, mapped_at}
use Rattle.lists.specs.Place.{zeros-at}

-- of `size` places the first v hold what f says
unfoldable pub filled : ℕ → (ℕ → ℕ) → ℕ → List ℕ
filled size f v = map f (span 0 v) ++ replicate (size - v) 0

run_length : (f : ℕ → ℕ) (v : ℕ) → length (map f (span 0 v)) ≡ v
run_length f v = length-map (span 0 v) f ∙ span-length 0 v

module _ (size : ℕ) (f : ℕ → ℕ) where
  pub fill_none : replicate size 0 ≡ filled size f 0
  unfolding filled span
  fill_none = rw (sub-zero size)

  pub fill_more : (v a : ℕ) (xs : List ℕ) → v < size → a ≡ f v → xs ≡ filled size f v → set xs v a ≡ filled size f (v + 1)
  unfolding filled
  fill_more v a xs l is-a is-xs =
      let more : size - v ≡ suc (size - suc v) = omega arith in
      rw (is-xs, more, set_at (map f (span 0 v)) 0 (replicate (size - suc v) 0) a v (run_length f v), add-one v, map_snoc, zero-add, append_assoc, is-a)

  -- what stands at a place that is filled
  pub filled_at : (v u : ℕ) → u < v → get_or (filled size f v) u 0 ≡ f u
  unfolding filled
  filled_at v u l =
      let here : u < length (map f (span 0 v)) = omega (arith, run_length f v) in
      get_or-append (map f (span 0 v)) (replicate (size - v) 0) 0 u here ∙ mapped_at f 0 v u l ∙ ap f (zero-add u)

  pub filled-length : (v : ℕ) → v ≤ size → length (filled size f v) ≡ size
  unfolding filled
  filled-length v l = omega (arith, length-append (map f (span 0 v)) (replicate (size - v) 0), run_length f v, length-replicate {A = ℕ} (size - v) 0)

  -- and past those
  pub filled-past : (v u : ℕ) → v ≤ u → ◌≡◌ {A = ℕ} (get_or (filled size f v) u 0) 0
  unfolding filled
  filled-past v u l =
      let front : List ℕ = map f (span 0 v) in
      let e : u ≡ length front + (u - v) = omega (arith, run_length f v) in
      ap (λ (k : ℕ). get_or (filled size f v) k 0) e ∙ get_or-append-add front (replicate (size - v) 0) (u - v) 0 ∙ zeros-at (size - v) (u - v)
