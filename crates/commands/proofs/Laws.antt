-- Words compared, and numbers read digit by digit.
-- Assumes nothing.
use Rattle.std.specs.Prelude.{None, Some, ◌&&◌}
use Rattle.std.specs.Option.{option_and_then}
use Rattle.std.specs.Str.{bytes_eq}
use mathlib.Core.Path.{◌≡◌, refl, sym, ◌∙◌}
use mathlib.Core.Logic.{◌≢◌}
use mathlib.Core.List.{List, [], ◌∷◌}
use Prim.Native.Nat.{ℕ, suc, ◌+◌, ◌≤◌, ◌<◌}
use native.Mathlib.Numerals.{add-one}
use native.Mathlib.Omega.{arith}
use lib.Dec.{eqb}
use lib.ListN.{length, get_or, drop, drop_of_length-le}
use lib.Seq.{drop-cons}
use borrow.Author.Tests.{eq-eqb}
use Rattle.commands.specs.Numbers.{longer_by, number_from, number_in}

-- ---- words compared

module _ (a b : List ℕ) (i : ℕ) (l : length a ≡ length b) (h : i < length a) where
  one_byte : bytes_eq (drop i a) (drop i b) ≡ (eqb (get_or a i 0) (get_or b i 0) && bytes_eq (drop (suc i) a) (drop (suc i) b))
  one_byte = rw (drop-cons a i 0 h, drop-cons b i 0 (omega arith))

  -- one byte more is the same
  pub same_more : bytes_eq (drop i a) (drop i b) ≡ bytes_eq a b → get_or a i 0 ≡ get_or b i 0 → bytes_eq (drop (i + 1) a) (drop (i + 1) b) ≡ bytes_eq a b
  same_more x e = rw add-one (sym (one_byte ∙ rw (eq-eqb _ _ e)) ∙ x)

-- ---- numbers from text

pub no-digits : (s : List ℕ) → length s ≡ 0 → None ≡ number_in s
unfolding number_in
no-digits [] h = refl
no-digits (x ∷ xs) h = absurd (omega arith)

pub some-digits : (s : List ℕ) → length s ≢ 0 → number_from 0 (drop 0 s) ≡ number_in s
unfolding number_in
some-digits [] h = absurd (h refl)
some-digits (x ∷ xs) h = refl

module _ (s : List ℕ) (value i : ℕ) (x : number_from value (drop i s) ≡ number_in s) where
  module _ (h : i < length s) where
    one-step : number_from value (drop i s) ≡ option_and_then (λ n. number_from n (drop (suc i) s)) (longer_by value (get_or s i 0))
    unfolding number_from
    one-step = rw (drop-cons s i 0 h)

    pub number-none : None ≡ longer_by value (get_or s i 0) → None ≡ number_in s
    number-none e = rw (← e) at (sym one-step ∙ x)

    pub number_more : (n : ℕ) → Some n ≡ longer_by value (get_or s i 0) → number_from n (drop (i + 1) s) ≡ number_in s
    number_more n e = rw add-one (rw (← e) at (sym one-step ∙ x))

  pub number-whole : length s ≤ i → Some value ≡ number_in s
  unfolding number_from
  number-whole h = rw (drop_of_length-le s h) at x
