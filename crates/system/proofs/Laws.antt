-- A round that has come to edge e, and one edge more; rounds of which some are left, and one round more.
-- Assumes nothing.
use mathlib.Core.Path.{◌≡◌, refl, sym, ◌∙◌, subst}
use mathlib.Core.Bool.{Bool, true, false}
use mathlib.Core.List.{List}
use mathlib.Core.Logic.{⊎_elim}
use Prim.Native.Nat.{ℕ, suc, ◌+◌, ◌-◌, ◌*◌, ◌≤◌, ◌<◌}
use native.Mathlib.Omega.{arith}
use native.Mathlib.Numerals.{add-one}
use native.Mathlib.Nat.{sub-zero}
use lib.ListN.{get_or, set}
use Rattle.lists.specs.Pick.{pick, pick_true, pick-false}
use Rattle.lists.specs.Span.{span}
use Rattle.lists.specs.Fold.{fold}
use Rattle.lists.specs.Place.{set_view}
use Rattle.system.specs.System.{System}
use Rattle.system.specs.Rounds.{asks, raise, raise_all, raises, every_edge, round, settle_from}
use Rattle.system.specs.Outcome.{Settled}
use Rattle.system.specs.Rising.{Holds, fails-asks, raise-asks, holds-asks, raise-calm, calm-same}

-- what is left of the round, from y and the flag on, gives what the whole round gives from y₀
pub record Sofar (s : System) (y₀ y : List ℕ) (raised : Bool) (e : ℕ) : Type 0 where
  pub flag : pick raised true (raises s y (span e (s.graph.edges - e))) ≡ raises s y₀ (every_edge s)
  pub rest : raise_all s y (span e (s.graph.edges - e)) ≡ round s y₀
  pub bound : (b : ℕ) → ((v : ℕ) → get_or y₀ v 0 ≤ b) → (v : ℕ) → get_or y v 0 ≤ b + e * 65535

pick-both : (b : Bool) → pick b true true ≡ true
unfolding pick
pick-both true = refl
pick-both false = refl

pick-none : (b : Bool) → pick b true false ≡ b
unfolding pick
pick-none true = refl
pick-none false = refl

module _ (s : System) (y₀ : List ℕ) where
  pub sofar-none : Sofar s y₀ y₀ false 0
  unfolding every_edge round pick
  sofar-none = record { flag = rw sub-zero; rest = rw sub-zero; bound = λ b h v. omega (arith, h v) }

  module _ (y : List ℕ) (raised : Bool) (e : ℕ) (sofar : Sofar s y₀ y raised e) (l : e < s.graph.edges) where
    -- what is left, its first edge taken apart
    next-flag : (a : Bool) (y' : List ℕ) → asks s y e ≡ a → raise s y e ≡ y' → pick raised true (pick a true (raises s y' (span (e + 1) (s.graph.edges - (e + 1))))) ≡ raises s y₀ (every_edge s)
    unfolding raises span
    next-flag a y' q r =
        let more : s.graph.edges - e ≡ suc (s.graph.edges - suc e) = omega arith in
        rw (add-one e, ← q, ← r) (subst (λ (m : ℕ). pick raised true (raises s y (span e m)) ≡ raises s y₀ (every_edge s)) more sofar.flag)

    next-rest : (y' : List ℕ) → raise s y e ≡ y' → raise_all s y' (span (e + 1) (s.graph.edges - (e + 1))) ≡ round s y₀
    unfolding raise_all fold span
    next-rest y' r =
        let more : s.graph.edges - e ≡ suc (s.graph.edges - suc e) = omega arith in
        rw (add-one e, ← r) (subst (λ (m : ℕ). raise_all s y (span e m) ≡ round s y₀) more sofar.rest)

    -- the code's gain, cost, values and flag after the edge
    module _ (gain cost : ℕ) (y' : List ℕ) (raised' : Bool) (is-gain : gain ≡ s.gain e) (is-cost : cost ≡ s.cost e) where
      pub sofar-asks : cost < 65536 → get_or y (s.graph.head e) 0 + gain < get_or y (s.graph.tail e) 0 + cost
          → y' ≡ set y (s.graph.head e) (get_or y (s.graph.tail e) 0 + cost - gain) → raised' ≡ true → Sofar s y₀ y' raised' (e + 1)
      unfolding pick
      sofar-asks k h is_y is_raised =
          let asked : get_or y (s.graph.head e) 0 + s.gain e < get_or y (s.graph.tail e) 0 + s.cost e = omega arith in
          let raised-y : raise s y e ≡ y' = raise-asks s y e asked ∙ rw (is_y, is-gain, is-cost) in
          record {
            flag = rw is_raised (sym (pick-both raised) ∙ next-flag true y' (fails-asks s y e asked) raised-y);
            rest = next-rest y' raised-y;
            bound = λ b u v. rw is_y
                (⊎_elim (λ w. omega (arith, sofar.bound b u (s.graph.tail e))) (λ w. omega (arith, sofar.bound b u v))
                (set_view y (s.graph.head e) (get_or y (s.graph.tail e) 0 + cost - gain) v));
          }

      pub sofar-holds : get_or y (s.graph.tail e) 0 + cost ≤ get_or y (s.graph.head e) 0 + gain → y' ≡ y → raised' ≡ raised → Sofar s y₀ y' raised' (e + 1)
      unfolding pick
      sofar-holds h is_y is_raised =
          let held : Holds s y e = omega arith in
          let same-y : raise s y e ≡ y' = raise-calm s y e held ∙ sym is_y in
          record {
            flag = rw is_raised (next-flag false y' (holds-asks s y e held) same-y);
            rest = next-rest y' same-y;
            bound = λ b u v. rw is_y (omega (arith, sofar.bound b u v));
          }

  pub sofar-all : (y : List ℕ) (raised : Bool) (e : ℕ) → Sofar s y₀ y raised e → s.graph.edges ≤ e → (raised ≡ raises s y₀ (every_edge s)) × (y ≡ round s y₀)
  unfolding raises raise_all fold span
  sofar-all y raised e sofar q =
      let none : s.graph.edges - e ≡ 0 = omega arith in (
        sym (pick-none raised) ∙ subst (λ (m : ℕ). pick raised true (raises s y (span e m)) ≡ raises s y₀ (every_edge s)) none sofar.flag,
        subst (λ (m : ℕ). raise_all s y (span e m) ≡ round s y₀) none sofar.rest,
      )

module _ (s : System) (left : ℕ) (less : ℕ) (is_left : left ≡ suc less) (y y' : List ℕ) (raised : Bool) (whole : Settled) (is_raised : raised ≡ raises s y (every_edge s)) (is_y : y' ≡ round s y)
    (rest : settle_from s left y ≡ whole) where
  opened : settle_from s (suc less) y ≡ whole
  opened = subst (λ (m : ℕ). settle_from s m y ≡ whole) is_left rest

  -- a round that raises leaves one round less
  pub settle-on : raised ≡ true → settle_from s less y' ≡ whole
  unfolding settle_from
  settle-on q = rw is_y (sym (pick_true (raises s y (every_edge s)) (settle_from s less (round s y)) _ (sym is_raised ∙ q)) ∙ opened)

  -- one that does not is the last
  pub settle-done : raised ≡ false → ◌≡◌ {A = Settled} (record { settled = true; values = y' }) whole
  unfolding settle_from
  settle-done q =
      let calm : raises s y (every_edge s) ≡ false = sym is_raised ∙ q in
      rw (is_y, calm-same s y calm) (sym (pick-false (raises s y (every_edge s)) (settle_from s less (round s y)) _ calm) ∙ opened)

-- no round is left
pub settle-out : (s : System) (left : ℕ) (y : List ℕ) (whole : Settled) → settle_from s left y ≡ whole → left ≤ 0 → ◌≡◌ {A = Settled} (record { settled = false; values = y }) whole
unfolding settle_from
settle-out s left y whole rest l =
    let none : left ≡ 0 = omega arith in
    subst (λ (m : ℕ). settle_from s m y ≡ whole) none rest
