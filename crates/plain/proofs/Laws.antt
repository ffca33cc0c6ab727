-- Values stored so far: whole iterations, and those of the one that has come to a place of the order.
-- Assumes nothing.
use mathlib.Core.Path.{◌≡◌, refl, sym, ◌∙◌, ap}
use mathlib.Core.List.{List}
use Prim.Native.Nat.{ℕ, ◌+◌, ◌<◌}
use native.Mathlib.Numerals.{add-one}
use native.Mathlib.Nat.{zero-add}
use lib.ListN.{length, get_or, set, take}
use lib.Seq.{take-suc}
use Rattle.lists.specs.Span.{span}
use Rattle.lists.specs.Fold.{fold, fold-snoc}
use Rattle.legal.specs.Loop.{Loop}
use Rattle.machine.specs.Values.{place_of, computed}
use Rattle.plain.specs.Looping.{stored, iterated, looped}
use Rattle.plain.specs.Settled.{fold-last}

module _ (g : Loop) (starts order : List ℕ) where
  -- one node more of iteration i
  pub stored_more : (i k : ℕ) (before values : List ℕ) → k < length order → values ≡ iterated g starts (take k order) before i → (x : ℕ) → x ≡ computed g starts values i (get_or order k 0)
      → set values (place_of g starts i (get_or order k 0)) x ≡ iterated g starts (take (k + 1) order) before i
  unfolding stored iterated
  stored_more i k before values l so_far x is =
      rw (is, add-one, take-suc order k 0 l) (
      ap (λ vs. stored g starts i vs (get_or order k 0)) so_far
      ∙ sym (fold-last (stored g starts i) before (take k order) (get_or order k 0)))

  -- no node of iteration i
  pub stored-none : (i : ℕ) (before : List ℕ) → iterated g starts (take 0 order) before i ≡ before
  unfolding iterated fold
  stored-none i before = refl

  -- no iteration
  pub looped-none : (before : List ℕ) → looped g starts order 0 before ≡ before
  unfolding looped fold span
  looped-none before = refl

  -- one iteration more
  pub looped-more : (i : ℕ) (before values values' : List ℕ) → values ≡ looped g starts order i before → values' ≡ iterated g starts order values i → values' ≡ looped g starts order (i + 1) before
  unfolding looped
  looped-more i before values values' so_far more =
      more
      ∙ ap (λ vs. iterated g starts order vs i) so_far
      ∙ sym (rw add-one (fold-snoc (iterated g starts order) before 0 i ∙ ap (iterated g starts order (looped g starts order i before)) (zero-add i)))
