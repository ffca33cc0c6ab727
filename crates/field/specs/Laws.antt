-- Each way a field goes, and what a field that was taken tells.
-- Assumes nothing.
use Rattle.std.specs.Prelude.{◌≡◌, List, ◌⊎◌, ltb, length, Some, Ok, Err}
use Rattle.std.proofs.Math.Path.{refl}
use Rattle.std.proofs.Math.Bool.{true, false}
use Rattle.std.proofs.Math.Logic.{inl, inr}
use Prim.Native.Nat.{ℕ, ◌+◌, ◌≤◌, ◌<◌}
use native.Mathlib.Omega.{arith}
use borrow.Author.Tests.{lt-ltb, le-ltb, ltb-true, ltb-false}
use Rattle.lists.specs.Pick.{pick, pick_ind, both_ways}
use Rattle.answer.specs.Refused.{fine, refused_fine}
use Rattle.answer.specs.declared.Refusal.{Refusal}
use Rattle.answer.specs.declared.Refusal.TheVariants as refusal
use Rattle.field.specs.declared.Kind.{Kind}
use Rattle.field.specs.declared.Kind.TheVariants.{Mark, Version, Count, Machine, Node, Edge, Start, Retiming}
use Rattle.field.specs.Outcome.{Cursor, Taken}
use Rattle.field.specs.Number.{number_at}
use Rattle.field.specs.Taking.{wrong_at, onward, stopped_at, taken, Took}

-- after a refusal nothing is taken
pub taken-refused : (s : List ℕ) (c : Cursor) (width low high : ℕ) (kind : Kind) → fine c.refusal ≡ false → taken s c width low high kind ≡ record { value = 0; next = c }
unfolding taken pick
taken-refused s c width low high kind f = rw f

pub taken_stopped : (s : List ℕ) (at : ℕ) (e : Refusal) (width low high : ℕ) (kind : Kind) → taken s (record { at = at; refusal = Some e }) width low high kind ≡ stopped_at at (Some e)
taken_stopped s at e width low high kind = taken-refused s (record { at = at; refusal = Some e }) width low high kind (refused_fine e)

-- each way a field goes at an offset
module _ (s : List ℕ) (at width low high : ℕ) (kind : Kind) where
  -- whatever stops the field stops it at its offset
  stays : (e : Refusal) → stopped_at at (Some e) ≡ taken s (onward at) width low high kind → Took s at width low high kind (Err e)
  stays e is = record { is = is; small = tt }

  pub took-short : length s < at + width → Took s at width low high kind (Err (refusal.Short at))
  unfolding taken pick fine
  took-short h = stays (refusal.Short at) (rw (lt-ltb _ _ h) refl)

  module _ (long : at + width ≤ length s) (v : ℕ) (v-is : v ≡ number_at width s at) where
    pub took-low : (e : Refusal) → v < low → Some e ≡ wrong_at kind at → Took s at width low high kind (Err e)
    unfolding taken pick fine
    took-low e h w = stays e (rw (w, le-ltb _ _ long, ← v-is, lt-ltb _ _ h) refl)

    pub took-high : (e : Refusal) → low ≤ v → high < v → Some e ≡ wrong_at kind at → Took s at width low high kind (Err e)
    unfolding taken pick fine
    took-high e l h w = stays e (rw (w, le-ltb _ _ long, ← v-is, le-ltb _ _ l, lt-ltb _ _ h) refl)

    pub took-good : low ≤ v → v ≤ high → Took s at width low high kind (Ok v)
    unfolding taken pick fine
    took-good l h = record { is = rw (le-ltb _ _ long, ← v-is, le-ltb _ _ l, le-ltb _ _ h) refl; small = h }

-- a field whose number is out of range, at a cursor that was fine
pub record Outside (s : List ℕ) (c : Cursor) (width low high : ℕ) (kind : Kind) (next : Cursor) : Type 0 where
  pub begun : fine c.refusal ≡ true
  pub wrong : next.refusal ≡ wrong_at kind c.at
  pub never : (low ≤ number_at width s c.at) × (number_at width s c.at ≤ high) → ⊥

-- what is known of a field once the cursor past it is fine
pub record GoodField (s : List ℕ) (c : Cursor) (width low high : ℕ) (t : Taken) : Type 0 where
  pub begun : fine c.refusal ≡ true
  pub room : c.at + width ≤ length s
  pub at_least : low ≤ t.value
  pub at_most : t.value ≤ high
  pub number : t.value ≡ number_at width s c.at
  pub next : t.next ≡ onward (c.at + width)

-- a field out of range is refused
pub wrong-refused : (kind : Kind) (at : ℕ) → fine (wrong_at kind at) ≡ false
unfolding fine
wrong-refused Mark at = refl
wrong-refused Version at = refl
wrong-refused Count at = refl
wrong-refused Machine at = refl
wrong-refused Node at = refl
wrong-refused Edge at = refl
wrong-refused Start at = refl
wrong-refused Retiming at = refl

module _ (s : List ℕ) (c : Cursor) (width low high : ℕ) (kind : Kind) where
  -- a field past which the cursor is fine was taken, and its number is in range
  pub good : fine (taken s c width low high kind).next.refusal ≡ true → GoodField s c width low high (taken s c width low high kind)
  unfolding taken fine
  good =
      let P : Taken → Type 0 = λ t. fine t.next.refusal ≡ true → GoodField s c width low high t in
      pick_ind P (fine c.refusal) _ _
      (λ f. pick_ind P (ltb (length s) (c.at + width)) _ _ (λ h e. both_ways e refl)
      (λ h. pick_ind P (ltb (number_at width s c.at) low) _ _ (λ l e. both_ways e (wrong-refused kind c.at))
      (λ l. pick_ind P (ltb high (number_at width s c.at)) _ _ (λ m e. both_ways e (wrong-refused kind c.at))
      (λ m e. record {
        begun = f;
        room = ltb-false _ _ h;
        at_least = ltb-false _ _ l;
        at_most = ltb-false _ _ m;
        number = refl;
        next = refl;
      }))))
      (λ f e. both_ways e f)

  -- a complete field past which the cursor is not fine was out of range, or the cursor was refused before
  pub bad : (fine c.refusal ≡ true → c.at + width ≤ length s) → fine (taken s c width low high kind).next.refusal ≡ false
      → ((fine c.refusal ≡ false) × ((taken s c width low high kind).next ≡ c)) ⊎ Outside s c width low high kind (taken s c width low high kind).next
  unfolding taken fine
  bad long =
      let P : Taken → Type 0 = λ t. fine t.next.refusal ≡ false → ((fine c.refusal ≡ false) × (t.next ≡ c)) ⊎ Outside s c width low high kind t.next in
      let n : ℕ = number_at width s c.at in
      pick_ind P (fine c.refusal) _ _
      (λ f. pick_ind P (ltb (length s) (c.at + width)) _ _ (λ h e. absurd (omega (arith, long f, ltb-true (length s) (c.at + width) h)))
      (λ h. pick_ind P (ltb n low) _ _ (λ l e. inr (record { begun = f; wrong = refl; never = λ w. omega (arith, ltb-true n low l) }))
      (λ l. pick_ind P (ltb high n) _ _ (λ m e. inr (record { begun = f; wrong = refl; never = λ w. omega (arith, ltb-true high n m) }))
      (λ m e. both_ways refl e))))
      (λ f e. inl (f, refl))
