-- A run that has come to a repetition: the repetitions from there on give what all of them give.
-- Assumes nothing.
use Rattle.std.specs.Prelude.{None}
use mathlib.Core.Path.{◌≡◌, refl, sym, ◌∙◌, ap, subst}
use mathlib.Core.Bool.{true, false}
use mathlib.Core.List.{List}
use Prim.Native.Nat.{ℕ, suc, ◌+◌, ◌-◌, ◌<◌}
use native.Mathlib.Omega.{arith}
use native.Mathlib.Numerals.{add-one}
use native.Mathlib.Nat.{sub-zero}
use lib.ListN.{length}
use Rattle.lists.specs.Span.{span}
use Rattle.lists.specs.Fold.{fold}
use Rattle.answer.specs.Refused.{Verdict, fine}
use Rattle.form.specs.declared.Form.{Form}
use Rattle.legal.specs.Loop.{loop_of, pair_of}
use Rattle.machine.specs.Run.{Machine}
use Rattle.run.specs.Repeat.{repeated, repetitions-stay}
use Rattle.issue.specs.Issue.{machine_of}
use Rattle.run.specs.Going.{Before, Repetitions}
use Rattle.run.proofs.Midway.{Went}

module _ (f : Form) (k deep : ℕ) (starts values₀ finish₀ : List ℕ) where
  -- what so many repetitions from j on make of the buffers
  abbrev rounds_from : ℕ → List ℕ → List ℕ → Verdict → Machine
  rounds_from j values finish why = fold (repeated (loop_of f) (pair_of f) starts k) (machine_of values finish why) (span j (k + deep - j))

  pub record Rounds (j : ℕ) (values finish free : List ℕ) : Type 0 where
    pub before : Before f k starts j values finish free
    pub values_long : length values ≡ length values₀
    pub finish_long : length finish ≡ length finish₀
    pub rest : rounds_from j values finish None ≡ fold (repeated (loop_of f) (pair_of f) starts k) (machine_of values₀ finish₀ None) (span 0 (k + deep))

  pub rounds-begin : (free : List ℕ) → Before f k starts 0 values₀ finish₀ free → Rounds 0 values₀ finish₀ free
  rounds-begin free b = record { before = b; values_long = refl; finish_long = refl; rest = rw sub-zero }

  module _ (j : ℕ) (values finish free : List ℕ) (r : Rounds j values finish free) where
    module _ (l : j < k + deep) (values' finish' free' : List ℕ) (why : Verdict) (w : Went f k starts j values finish values' finish' free' why) where
      next : rounds_from (j + 1) values' finish' why ≡ fold (repeated (loop_of f) (pair_of f) starts k) (machine_of values₀ finish₀ None) (span 0 (k + deep))
      unfolding fold span
      next =
          let more : k + deep - j ≡ suc (k + deep - suc j) = omega arith in
          rw (add-one j)
          (ap (λ (m : Machine). fold (repeated (loop_of f) (pair_of f) starts k) m (span (suc j) (k + deep - suc j))) w.is_repeated
          ∙ ap (λ (n : ℕ). fold (repeated (loop_of f) (pair_of f) starts k) (machine_of values finish None) (span j n)) (sym more)
          ∙ r.rest)

      -- a repetition that goes on
      pub rounds-more : fine why ≡ true → Rounds (j + 1) values' finish' free'
      rounds-more e = record {
        before = (w.next e).1;
        values_long = w.sized.values_long ∙ r.values_long;
        finish_long = w.sized.finish_long ∙ r.finish_long;
        rest = subst (λ (x : Verdict). rounds_from (j + 1) values' finish' x ≡ fold (repeated (loop_of f) (pair_of f) starts k) (machine_of values₀ finish₀ None) (span 0 (k + deep))) (w.next e).0 next;
      }

      -- one that is refused, and so is the run
      pub rounds-stop : fine why ≡ false → Repetitions f k deep starts values₀ finish₀ values' finish' why
      rounds-stop e = record {
        values_long = w.sized.values_long ∙ r.values_long;
        finish_long = w.sized.finish_long ∙ r.finish_long;
        are_repeated = sym (repetitions-stay (loop_of f) (pair_of f) starts k (machine_of values' finish' why) (span (j + 1) (k + deep - (j + 1))) e) ∙ next;
      }

    -- none is left
    pub rounds-end : j ≡ k + deep → Repetitions f k deep starts values₀ finish₀ values finish None
    unfolding fold span
    rounds-end e =
        let none : k + deep - j ≡ 0 = omega arith in
        record { values_long = r.values_long; finish_long = r.finish_long; are_repeated = rw none at r.rest }
