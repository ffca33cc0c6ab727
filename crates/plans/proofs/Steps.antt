-- Numbers as steps, place by place, and a form with the pair of a timetable.
-- Assumes nothing.
use mathlib.Core.Path.{◌≡◌, refl, ap, ◌∙◌}
use mathlib.Core.List.{List, [], ◌∷◌, map}
use Prim.Native.Nat.{ℕ, zero, suc, ◌+◌, ◌<◌}
use native.Mathlib.Omega.{arith}
use lib.ListN.{length, get_or, set, replicate}
use lib.Seq.{ext_get_or}
use Rattle.lists.specs.Filled.{filled, fill_none, fill_more, filled_at, filled-length}
use Rattle.form.specs.declared.Form.{Form}
use Rattle.form.specs.declared.BodyStep.{BodyStep}
use Rattle.tables.specs.declared.Timetable.{Timetable}
use Rattle.plans.specs.Pairs.{as_body_step, with_steps, with_pair, with_times}

step_set : (xs : List ℕ) (v a : ℕ) → set (map as_body_step xs) v (as_body_step a) ≡ map as_body_step (set xs v a)
step_set [] v a = refl
step_set (x ∷ xs) zero a = refl
step_set (x ∷ xs) (suc v) a = ap (λ (l : List BodyStep). as_body_step x ∷ l) (step_set xs v a)

module _ (s : List ℕ) where
  -- the first v numbers as steps, 0 past them
  unfoldable pub stepped : ℕ → List BodyStep
  stepped v = map as_body_step (filled 64 (λ u. get_or s u 0) v)

  pub stepped-none : (steps : List BodyStep) → steps ≡ map as_body_step (replicate 64 0) → steps ≡ stepped 0
  unfolding stepped
  stepped-none steps e = e ∙ ap (map as_body_step) (fill_none 64 (λ u. get_or s u 0))

  pub stepped-more : (v : ℕ) (steps : List BodyStep) → v < 64 → steps ≡ stepped v → set steps v (as_body_step (get_or s v 0)) ≡ stepped (v + 1)
  unfolding stepped
  stepped-more v steps l e =
      ap (λ (xs : List BodyStep). set xs v (as_body_step (get_or s v 0))) e
      ∙ step_set (filled 64 (λ u. get_or s u 0) v) v (get_or s v 0)
      ∙ ap (map as_body_step) (fill_more 64 (λ u. get_or s u 0) v (get_or s v 0) _ l refl refl)

  pub stepped-all : (v : ℕ) → v ≡ 64 → length s ≡ 64 → stepped v ≡ map as_body_step s
  unfolding stepped
  stepped-all v e long =
      let whole = filled-length 64 (λ u. get_or s u 0) 64 (omega arith) in
      ap (λ (n : ℕ). map as_body_step (filled 64 (λ u. get_or s u 0) n)) e
      ∙ ap (map as_body_step) (ext_get_or 0 (filled 64 (λ u. get_or s u 0) 64) s (omega (arith, whole, long)) (λ u l. filled_at 64 (λ u. get_or s u 0) 64 u (omega (arith, whole))))

-- the fields of a form set to a timetable's
pub stored : (f : Form) (t : Timetable) (steps : List BodyStep) → steps ≡ map as_body_step t.start → with_steps f steps t.length t.retiming ≡ with_times f t
unfolding with_times with_pair
stored f t steps e = ap (λ (s : List BodyStep). with_steps f s t.length t.retiming) e
