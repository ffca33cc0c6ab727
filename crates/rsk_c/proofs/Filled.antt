-- An answer filled in: one law for every exported function.
-- Assumes nothing.
use mathlib.Core.Path.{◌≡◌}
use mathlib.Core.List.{List}
use Prim.Native.Nat.{ℕ}
use Rattle.answer.specs.Refused.{Verdict, number_of}
use Rattle.answer.specs.Outcome.{told_list}
use Rattle.answer.specs.declared.Details.{Details}
use Rattle.answer.specs.declared.Cycle.{Cycle}
use Rattle.rsk_c.specs.Answered.{Answered}

module _ (A : Type 0) (meets : A → Type 0) (refused : A → Verdict) (told : A → Details) (cycle : A → Cycle) where
  pub filled : (a : A) (number : ℕ) (list : List ℕ) → meets a → number ≡ number_of (refused a) → list ≡ told_list (refused a) (told a) (cycle a)
      → Answered A meets refused told cycle number list
  filled a number list m n l = record { given = a; met = m; number_is = n; list_is = l }
