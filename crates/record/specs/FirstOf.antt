-- A table with its places past the used ones unused, place by place.
-- Assumes nothing.
use Rattle.std.specs.Prelude.{◌≡◌, refl, List, ℕ, zero, suc, ◌+◌, ◌-◌, ◌≤◌, ◌<◌, take, replicate}
use Rattle.std.proofs.Common.{sym, ◌∙◌, arith, length-append, ext_get_or}
use Rattle.std.proofs.Math.Path.{ap}
use Rattle.std.proofs.Math.Decide.{dec_lt}
use Rattle.std.proofs.Math.ListN.{length, get_or, length-take, get_or-append}
use Rattle.std.proofs.lemmas.List.{length-replicate}
use Rattle.std.proofs.Math.Seq.{get_or-take, get_or-append-add}
use Rattle.form.specs.Places.{first_of}

-- every place of an unused table is unused
pub unused {ℓ} : {A : Type ℓ} (n i : ℕ) (d : A) → get_or (replicate n d) i d ≡ d
unused zero i d = refl
unused (suc n) zero d = refl
unused (suc n) (suc i) d = unused n i d

module _ {ℓ} {A : Type ℓ} (n : ℕ) (d : A) (xs : List A) where
  -- the table keeps its length
  pub first-length : length (first_of n d xs) ≡ length xs
  unfolding first_of
  first-length = rw (length-append, length-take, length-replicate) (omega arith)

  -- a used place is as it is
  pub first-at : (i : ℕ) → i < n → i < length xs → get_or (first_of n d xs) i d ≡ get_or xs i d
  unfolding first_of
  first-at i l m = get_or-append (take n xs) _ d i (rw length-take (omega arith)) ∙ get_or-take n xs i d l

  -- a place past the used ones is unused
  pub first_past : (i : ℕ) → n ≤ i → i < length xs → get_or (first_of n d xs) i d ≡ d
  unfolding first_of
  first_past i l m =
      let e : i ≡ length (take n xs) + (i - n) = rw length-take (omega arith) in
      ap (λ (k : ℕ). get_or (first_of n d xs) k d) e ∙ get_or-append-add (take n xs) _ (i - n) d ∙ unused (length xs - n) (i - n) d

  -- a table as long, with the used places and no more
  pub first-is : (ys : List A) → length ys ≡ length xs → ((i : ℕ) → i < n → get_or ys i d ≡ get_or xs i d) → ((i : ℕ) → n ≤ i → get_or ys i d ≡ d)
      → ys ≡ first_of n d xs
  first-is ys e same past =
      ext_get_or d ys (first_of n d xs) (e ∙ sym first-length)
      (λ i l.
      let m : i < length xs = omega arith in
      elim (dec_lt i n) [ yes h ↦ same i h ∙ sym (first-at i h m) | no h ↦ past i (omega arith) ∙ sym (first_past i (omega arith) m) ])

  -- a table that is unused past the used places is as it is
  pub first-self : ((i : ℕ) → n ≤ i → get_or xs i d ≡ d) → first_of n d xs ≡ xs
  first-self past = sym (first-is xs refl (λ i l. refl) past)
