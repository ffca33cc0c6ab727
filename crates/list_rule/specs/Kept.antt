-- What the list rule keeps and what it does: starts once given stay, and each new start is a step run at which the node was ready and found a unit free.
-- Assumes nothing.
use Rattle.std.specs.Prelude.{◌≡◌, Bool, true, ◌&&◌, ◌⊎◌, eqb, length}
use Rattle.std.proofs.Math.Path.{refl}
use Rattle.std.proofs.Common.{◌∙◌, ap, arith, eq-zero-or-pos, eqb-true, eq-eqb, length-set}
use Rattle.std.proofs.Math.Logic.{inl, inr, ⊎_elim}
use mathlib.Core.List.{List, [], ◌∷◌}
use Prim.Native.Nat.{ℕ, zero, suc, ◌+◌, ◌≤◌, ◌<◌}
use Rattle.std.proofs.Math.ListN.{set}
use Rattle.lists.specs.Pick.{pick_ind, both_ways}
use Rattle.lists.specs.Both.{and_both, both-and}
use Rattle.lists.specs.Fold.{fold}
use Rattle.lists.specs.Place.{set_view}
use Rattle.legal.specs.Loop.{Loop}
use Rattle.list_rule.specs.Rule.{start_number, free, ready, place, fill_step, are_all_placed, fill_from}

-- every start that s gives stays in t
abbrev pub Keeps : List ℕ → List ℕ → Type 0
Keeps s t = (v : ℕ) → 0 < start_number s v → start_number t v ≡ start_number s v

pub keeps_on : (s t u : List ℕ) → Keeps s t → Keeps t u → Keeps s u
keeps_on s t u a b v h = b v (omega (arith, a v h)) ∙ a v h

module _ (g : Loop) (r : ℕ → ℕ) where
  -- node v is placed at p in s, in a step that began with the starts `before`
  pub record Goes (before : List ℕ) (p : ℕ) (s : List ℕ) (v : ℕ) : Type 0 where
    pub unset : start_number s v ≡ 0
    pub is-ready : ready g r before p v ≡ true
    pub is_free : free g s p v ≡ true

  -- the test by which it is
  abbrev goes : List ℕ → ℕ → List ℕ → ℕ → Bool
  goes before p s v = eqb (start_number s v) 0 && (ready g r before p v && free g s p v)

  goes-told : (before : List ℕ) (p : ℕ) (s : List ℕ) (v : ℕ) → goes before p s v ≡ true → Goes before p s v
  goes-told before p s v e =
      let a = and_both _ _ e in
      let b = and_both _ _ a.1 in
      record { unset = eqb-true _ _ a.0; is-ready = b.0; is_free = b.1 }

  told-goes : (before : List ℕ) (p : ℕ) (s : List ℕ) (v : ℕ) → Goes before p s v → goes before p s v ≡ true
  told-goes before p s v h = both-and _ _ (eq-eqb _ _ h.unset) (both-and _ _ h.is-ready h.is_free)

  -- it goes, or nothing happens
  pub place_view : (before : List ℕ) (p : ℕ) (s : List ℕ) (v : ℕ)
      → (Goes before p s v × (place g r before p s v ≡ set s v p)) ⊎ ((Goes before p s v → ⊥) × (place g r before p s v ≡ s))
  unfolding place
  place_view before p s v =
      pick_ind (λ t. (Goes before p s v × (t ≡ set s v p)) ⊎ ((Goes before p s v → ⊥) × (t ≡ s))) (goes before p s v) (set s v p) s
      (λ e. inl (goes-told before p s v e, refl))
      (λ e. inr (λ h. both_ways (told-goes before p s v h) e, refl))

  -- what holds of s holds after a placement, if it holds after a store at a node that goes
  pub place-ind {ℓ} : (P : List ℕ → Type ℓ) (before : List ℕ) (p : ℕ) (s : List ℕ) (v : ℕ)
      → P s → (Goes before p s v → P (set s v p)) → P (place g r before p s v)
  place-ind P before p s v stays goes = ⊎_elim (λ w. rw w.1 (goes w.0)) (λ w. rw w.1 stays) (place_view before p s v)

  -- ---- what is kept

  pub place-length : (before : List ℕ) (p : ℕ) (s : List ℕ) (v : ℕ) → length (place g r before p s v) ≡ length s
  place-length before p s v = place-ind (λ t. length t ≡ length s) before p s v refl (λ h. length-set s v p)

  set_keeps : (s : List ℕ) (v p : ℕ) → start_number s v ≡ 0 → Keeps s (set s v p)
  set_keeps s v p z w h = ⊎_elim (λ q. absurd (omega (arith, ap (start_number s) q.0))) (λ q. q) (set_view s v p w)

  pub place-keeps : (before : List ℕ) (p : ℕ) (s : List ℕ) (v : ℕ) → Keeps s (place g r before p s v)
  place-keeps before p s v = place-ind (Keeps s) before p s v (λ w h. refl) (λ h. set_keeps s v p h.unset)

  fold-length : (before : List ℕ) (p : ℕ) (vs s : List ℕ) → length (fold (place g r before p) s vs) ≡ length s
  unfolding fold
  fold-length before p [] s = refl
  fold-length before p (v ∷ vs) s = fold-length before p vs (place g r before p s v) ∙ place-length before p s v

  pub fold-keeps : (before : List ℕ) (p : ℕ) (vs s : List ℕ) → Keeps s (fold (place g r before p) s vs)
  unfolding fold
  fold-keeps before p [] s = λ v h. refl
  fold-keeps before p (v ∷ vs) s =
      let s' = place g r before p s v in
      keeps_on s s' (fold (place g r before p) s' vs) (place-keeps before p s v) (fold-keeps before p vs s')

  pub step-length : (order : List ℕ) (p : ℕ) (s : List ℕ) → length (fill_step g r order p s) ≡ length s
  unfolding fill_step
  step-length order p s = fold-length s p order s

  pub step_keeps : (order : List ℕ) (p : ℕ) (s : List ℕ) → Keeps s (fill_step g r order p s)
  unfolding fill_step
  step_keeps order p s = fold-keeps s p order s

  -- what each step keeps all of them do
  pub fill-ind {ℓ} : (P : List ℕ → Type ℓ) (order : List ℕ) → ((p : ℕ) (s : List ℕ) → P s → P (fill_step g r order p s))
      → (left p : ℕ) (s : List ℕ) → P s → P (fill_from g r order left p s)
  unfolding fill_from
  fill-ind P order step zero p s h = h
  fill-ind P order step (suc left) p s h =
      pick_ind P (are_all_placed g r s) s (fill_from g r order left (p + 1) (fill_step g r order p s))
      (λ e. h)
      (λ e. fill-ind P order step left (p + 1) (fill_step g r order p s) (step p s h))

  pub fill-length : (order : List ℕ) (left p : ℕ) (s : List ℕ) → length (fill_from g r order left p s) ≡ length s
  fill-length order left p s = fill-ind (λ t. length t ≡ length s) order (λ q t h. step-length order q t ∙ h) left p s refl

  pub fill-keeps : (order : List ℕ) (left p : ℕ) (s : List ℕ) → Keeps s (fill_from g r order left p s)
  fill-keeps order left p s =
      fill-ind (Keeps s) order (λ q t h. keeps_on s t (fill_step g r order q t) h (step_keeps order q t)) left p s (λ v h. refl)

  -- ---- what is done

  -- node v was placed at p on the way from s to t, in a step that began with the starts `before`
  pub record TookPlace (before : List ℕ) (p : ℕ) (s t : List ℕ) (v : ℕ) : Type 0 where
    pub table : List ℕ
    pub from : Keeps s table
    pub goes : Goes before p table v
    pub now : start_number t v ≡ p

  pub took-unset : (before : List ℕ) (p : ℕ) (s t : List ℕ) (v : ℕ) → TookPlace before p s t v → start_number s v ≡ 0
  took-unset before p s t v k =
      ⊎_elim (λ z. z) (λ h. absurd (omega (arith, k.from v h, k.goes.unset))) (eq-zero-or-pos (start_number s v))

  place-took : (before : List ℕ) (p : ℕ) (s : List ℕ) (v w : ℕ)
      → (start_number (place g r before p s v) w ≡ start_number s w) ⊎ TookPlace before p s (place g r before p s v) w
  place-took before p s v w =
      place-ind (λ t. (start_number t w ≡ start_number s w) ⊎ TookPlace before p s t w) before p s v (inl refl) (λ h.
      ⊎_elim
      (λ q. inr (record { table = s; from = λ u l. refl; goes = rw q.0 h; now = q.1 }))
      inl
      (set_view s v p w))

  fold-took : (before : List ℕ) (p : ℕ) (vs s : List ℕ) (w : ℕ)
      → (start_number (fold (place g r before p) s vs) w ≡ start_number s w) ⊎ TookPlace before p s (fold (place g r before p) s vs) w
  unfolding fold
  fold-took before p [] s w = inl refl
  fold-took before p (v ∷ vs) s w =
      let s' = place g r before p s v in
      let t = fold (place g r before p) s' vs in
      ⊎_elim
      (λ e. ⊎_elim
      (λ d. inl (e ∙ d))
      (λ k. inr (record { table = k.table; from = k.from; goes = k.goes; now = e ∙ k.now }))
      (place-took before p s v w))
      (λ k. inr (record { table = k.table; from = keeps_on s s' k.table (place-keeps before p s v) k.from; goes = k.goes; now = k.now }))
      (fold-took before p vs s' w)

  -- a step leaves a node's start, or places it
  pub step-took : (order : List ℕ) (p : ℕ) (s : List ℕ) (v : ℕ)
      → (start_number (fill_step g r order p s) v ≡ start_number s v) ⊎ TookPlace s p s (fill_step g r order p s) v
  unfolding fill_step
  step-took order p s v = fold-took s p order s v

  -- one of so many steps from p on placed node v on the way from s to t
  pub record PlacedFrom (order : List ℕ) (left p : ℕ) (s t : List ℕ) (v : ℕ) : Type 0 where
    pub step : ℕ
    pub begun : p ≤ step
    pub ended : step < p + left
    pub table : List ℕ
    pub from : Keeps s table
    pub took : TookPlace table step table (fill_step g r order step table) v
    pub to : Keeps (fill_step g r order step table) t

  module _ (order : List ℕ) (left p : ℕ) (s t : List ℕ) (v : ℕ) (k : PlacedFrom order left p s t v) where
    pub ran-unset : start_number s v ≡ 0
    ran-unset =
        let z = took-unset k.table k.step k.table _ v k.took in
        ⊎_elim (λ z. z) (λ h. absurd (omega (arith, k.from v h))) (eq-zero-or-pos (start_number s v))

    pub ran-now : 1 ≤ p → start_number t v ≡ k.step
    ran-now one =
        let n = k.took.now in
        k.to v (omega (arith, k.begun)) ∙ n

    pub ran-keeps : Keeps k.table t
    ran-keeps = keeps_on k.table (fill_step g r order k.step k.table) t (step_keeps order k.step k.table) k.to

  -- the rule leaves a node's start, or places it in one of its steps
  pub fill-ran : (order : List ℕ) (left p : ℕ) (s : List ℕ) (v : ℕ)
      → (start_number (fill_from g r order left p s) v ≡ start_number s v) ⊎ PlacedFrom order left p s (fill_from g r order left p s) v
  unfolding fill_from
  fill-ran order zero p s v = inl refl
  fill-ran order (suc left) p s v =
      let s' = fill_step g r order p s in
      let t = fill_from g r order left (p + 1) s' in
      pick_ind (λ u. (start_number u v ≡ start_number s v) ⊎ PlacedFrom order (suc left) p s u v) (are_all_placed g r s) s t
      (λ e. inl refl)
      (λ e. ⊎_elim
      (λ q. ⊎_elim
      (λ d. inl (q ∙ d))
      (λ k. inr (record { step = p; begun = omega arith; ended = omega arith; table = s; from = λ u l. refl; took = k; to = fill-keeps order left (p + 1) s' }))
      (step-took order p s v))
      (λ k. inr (record {
        step = k.step;
        begun = omega (arith, k.begun);
        ended = omega (arith, k.ended);
        table = k.table;
        from = keeps_on s s' k.table (step_keeps order p s) k.from;
        took = k.took;
        to = k.to;
      }))
      (fill-ran order left (p + 1) s' v))
