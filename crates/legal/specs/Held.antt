-- How often an operation occupies a step of the body, its steps taken modulo the length: on a plain pair today's window; over all steps as often as it holds; and a form that code can compute.
-- Assumes nothing.
use Rattle.std.specs.Prelude.{◌≡◌, Bool, true, false, ◌&&◌, ◌≢◌, ◌⊎◌, leb, ltb}
use Rattle.std.proofs.Math.Path.{refl, ap}
use Rattle.std.proofs.Common.{sym, ◌∙◌, inl, inr, ⊎_elim, mod-lt, mod-eq_of_lt, div-add-mod', suc-mul, leb-true, leb-false, ltb-true, ltb-false, eqb-true, eq-eqb, ne_eqb}
use Prim.Native.Nat.{ℕ, zero, suc, ◌+◌, ◌-◌, ◌*◌, ◌/◌, ◌%◌, ◌≤◌, ◌<◌}
use native.Mathlib.Omega.{arith}
use Rattle.std.proofs.Math.Decide.{ℕ_discrete}
use Rattle.std.proofs.Math.Nat.{div-eq_of_lt, add-mul-mod_self_right}
use Rattle.std.proofs.Math.Dec.{eqb}
use Rattle.std.proofs.lemmas.Bool.{eqb-false}
use Rattle.lists.specs.Pick.{pick}
use Rattle.lists.specs.Span.{span}
use Rattle.lists.specs.Fold.{sum_of, count}
use Rattle.lists.specs.Count.{count-last}
use Rattle.lists.specs.Counted.{sum_one}
use Rattle.lists.specs.Quotient.{divided, rows_apart}
use Rattle.lists.specs.Sums.{bit, sum-zero, sum-add, sum_same}

eq-view : (a b : ℕ) → ((a ≡ b) × (bit (eqb a b) ≡ 1)) ⊎ ((a ≢ b) × (bit (eqb a b) ≡ 0))
unfolding pick
eq-view a b = go (eqb a b) refl
  where
    go : (t : Bool) → eqb a b ≡ t → ((a ≡ b) × (bit t ≡ 1)) ⊎ ((a ≢ b) × (bit t ≡ 0))
    go true e = inl (eqb-true a b e, refl)
    go false e = inr (eqb-false a b e, refl)

-- a number is in the window and counts 1, or is outside and counts 0
abbrev in_window : ℕ → ℕ → ℕ → ℕ
in_window s t q = bit (leb s q && ltb q (s + t))

window-view : (s t q : ℕ) → ((s ≤ q) × (q < s + t) × (in_window s t q ≡ 1)) ⊎ (((q < s) ⊎ (s + t ≤ q)) × (in_window s t q ≡ 0))
unfolding pick
window-view s t q = go (leb s q) (ltb q (s + t)) refl refl
  where
    go : (a b : Bool) → leb s q ≡ a → ltb q (s + t) ≡ b
        → ((s ≤ q) × (q < s + t) × (bit (a && b) ≡ 1)) ⊎ (((q < s) ⊎ (s + t ≤ q)) × (bit (a && b) ≡ 0))
    go true true e f = inl (leb-true s q e, ltb-true q (s + t) f, refl)
    go true false e f = inr (inr (ltb-false q (s + t) f), refl)
    go false b e f = inr (inl (leb-false s q e), refl)

-- a window one longer has its last number more
window-none : (s q : ℕ) → in_window s 0 q ≡ 0
window-none s q = ⊎_elim (λ w. absurd (omega arith)) (λ w. w.1) (window-view s 0 q)

window_more : (s t q : ℕ) → in_window s (suc t) q ≡ in_window s t q + bit (eqb (s + t) q)
window_more s t q = go (window-view s (suc t) q) (window-view s t q) (eq-view (s + t) q)
  where
    go : ((s ≤ q) × (q < s + suc t) × (in_window s (suc t) q ≡ 1)) ⊎ (((q < s) ⊎ (s + suc t ≤ q)) × (in_window s (suc t) q ≡ 0))
        → ((s ≤ q) × (q < s + t) × (in_window s t q ≡ 1)) ⊎ (((q < s) ⊎ (s + t ≤ q)) × (in_window s t q ≡ 0))
        → ((s + t ≡ q) × (bit (eqb (s + t) q) ≡ 1)) ⊎ ((s + t ≢ q) × (bit (eqb (s + t) q) ≡ 0))
        → in_window s (suc t) q ≡ in_window s t q + bit (eqb (s + t) q)
    go (inl a) (inl b) (inl c) = absurd (omega arith)
    go (inl a) (inl b) (inr c) = omega arith
    go (inl a) (inr b) (inl c) = omega arith
    go (inl a) (inr b) (inr c) = ⊎_elim (λ d. absurd (omega arith)) (λ d. absurd (c.0 (omega arith))) b.0
    go (inr a) (inl b) c = ⊎_elim (λ d. absurd (omega arith)) (λ d. absurd (omega arith)) a.0
    go (inr a) (inr b) (inl c) = ⊎_elim (λ d. absurd (omega arith)) (λ d. absurd (omega arith)) a.0
    go (inr a) (inr b) (inr c) = omega arith

module _ (L s : ℕ) where
  -- the body step on which step j of an operation falls that starts in step s, its first step being number 0
  abbrev pub lands : ℕ → ℕ
  lands j = (s - 1 + j) % L + 1

  -- how often an operation that holds its unit for h steps occupies body step q
  unfoldable pub held : ℕ → ℕ → ℕ
  held h q = count (λ j. eqb (lands j) q) (span 0 h)

  pub held_none : (q : ℕ) → held 0 q ≡ 0
  unfolding held count span
  held_none q = refl

  pub held_more : (h q : ℕ) → held (suc h) q ≡ held h q + bit (eqb (lands h) q)
  unfolding held
  held_more h q = count-last (λ j. eqb (lands j) q) h

  -- its steps fall in the body
  pub lands-in : 1 ≤ L → (j : ℕ) → (1 ≤ lands j) × (lands j ≤ L)
  lands-in some j = (omega arith, omega (arith, mod-lt (s - 1 + j) {m = L} some))

  -- where it ends in the body, once in each step of its window and never elsewhere
  pub held_plain : 1 ≤ s → (h q : ℕ) → s + h ≤ L + 1 → held h q ≡ in_window s h q
  held_plain one zero q l = held_none q ∙ sym (window-none s q)
  held_plain one (suc h) q l =
      let at : lands h ≡ s + h = omega (arith, mod-eq_of_lt {n = s - 1 + h} {m = L} (omega arith)) in
      let here : bit (eqb (lands h) q) ≡ bit (eqb (s + h) q) = ap (λ (x : ℕ). bit (eqb x q)) at in
      omega (arith, held_more h q, held_plain one h q (omega arith), window_more s h q)

  -- over all steps of the body as often as it holds
  once : 1 ≤ L → (j : ℕ) → sum_of (λ q. bit (eqb (lands j) q)) (span 1 L) ≡ 1
  unfolding pick
  once some j =
      let x : ℕ = lands j in
      let i = lands-in some j in
      let own : bit (eqb x x) ≡ 1 = ap (λ b. bit b) (eq-eqb x x refl) in
      omega (
        arith,
        sum-zero (span 1 L),
        sum_one (λ q. bit (eqb x q)) (λ q. 0) x (λ w ne. ap (λ b. bit b) (ne_eqb x w (λ e. ne (sym e)))) 1 L i.0 (omega arith),
      )

  pub held-total : 1 ≤ L → (h : ℕ) → sum_of (held h) (span 1 L) ≡ h
  held-total some zero = sum_same (held 0) (λ q. 0) 1 L (λ q a b. held_none q) ∙ sum-zero (span 1 L)
  held-total some (suc h) =
      sum_same (held (suc h)) (λ q. held h q + bit (eqb (lands h) q)) 1 L (λ q a b. held_more h q)
      ∙ sum-add (held h) (λ q. bit (eqb (lands h) q)) (span 1 L)
      ∙ omega (arith, held-total some h, once some h)

  -- ---- the form that code can compute

  module _ (q : ℕ) (from : 1 ≤ s) (to : s ≤ L) (one : 1 ≤ q) (l : q ≤ L) where
    -- how many steps after the operation's first one step q comes first
    abbrev pub gap : ℕ
    gap = (q + L - s) % L

    -- one step more falls on q each time that the quotient grows
    step-on : (m c : ℕ) → m < L → m + s + c * L ≡ q + L → (h : ℕ) → (suc h + L - 1 - m) / L ≡ (h + L - 1 - m) / L + bit (eqb (lands h) q)
    step-on m c small is h =
        let x : ℕ = h + L - 1 - m in
        let a : ℕ = x / L in
        let b : ℕ = x % L in
        let y : ℕ = s - 1 + h + c * L in
        let ab : a * L + b ≡ x = div-add-mod' x L in
        let bl : b < L = mod-lt x {m = L} (omega arith) in
        let sum : y ≡ a * L + b + q = omega arith in
        let same : y % L ≡ (s - 1 + h) % L = add-mul-mod_self_right (s - 1 + h) c L in
        elim (ℕ_discrete (b + 1) L) [
          | yes e ↦
              let d = divided (suc a) L 0 (suc h + L - 1 - m) (omega arith) (omega (arith, suc-mul a L)) in
              let z = divided (suc a) L (q - 1) y (omega arith) (omega (arith, suc-mul a L)) in
              ⊎_elim (λ v. omega (arith, d.0)) (λ v. absurd (v.0 (omega (arith, z.1)))) (eq-view (lands h) q)
          | no e ↦
              let d = divided a L (b + 1) (suc h + L - 1 - m) (omega arith) (omega arith) in
              ⊎_elim
              (λ v. let r = rows_apart (y / L) a L 0 (b + 1) (omega arith) (omega arith) (omega (arith, v.0, div-add-mod' y L)) in absurd (omega (arith, r.1)))
              (λ v. omega (arith, d.0))
              (eq-view (lands h) q)
        ]

    pub held-closed : (h : ℕ) → held h q ≡ (h + L - 1 - gap) / L
    held-closed zero = held_none q ∙ sym (div-eq_of_lt {n = 0 + L - 1 - gap} {m = L} (omega arith))
    held-closed (suc h) =
        omega (
          arith,
          held_more h q,
          held-closed h,
          step-on gap ((q + L - s) / L) (mod-lt (q + L - s) {m = L} (omega arith)) (omega (arith, div-add-mod' (q + L - s) L)) h,
        )
