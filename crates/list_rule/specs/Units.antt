-- The list rule keeps the unit rule: a step that holds no more of a class than its units does so still when the rule is done.
-- Assumes nothing.
use Rattle.std.specs.Prelude.{◌≡◌, Bool, ◌≢◌, ℕ, ◌+◌, ◌≤◌, ◌<◌, set, replicate}
use Rattle.std.proofs.Math.Path.{refl, sym, ap, subst}
use Rattle.std.proofs.Common.{◌∙◌, get_or-set_other}
use Rattle.std.proofs.Math.Bool.{true, false}
use Rattle.std.proofs.Math.Logic.{⊎_elim}
use mathlib.Core.List.{List, [], ◌∷◌}
use native.Mathlib.Omega.{arith}
use Rattle.std.proofs.Math.Decide.{dec_lt}
use borrow.Author.Tests.{eqb-true, ltb-true, leb-true, leb-false, eq-eqb, lt-ltb, lt-leb}
use Rattle.lists.specs.Pick.{pick_true, pick-false}
use Rattle.lists.specs.Both.{and_both}
use Rattle.lists.specs.Fold.{fold}
use Rattle.lists.specs.Count.{count_same}
use Rattle.lists.specs.Counted.{count-one, span_none, none-span}
use Rattle.lists.specs.Place.{set_view, zeros-at}
use Rattle.form.specs.Hold.{hold}
use Rattle.legal.specs.Loop.{plain, Loop, Pair, ran_on}
use Rattle.legal.specs.Legal.{busy}
use Rattle.legal.specs.Shape.{Sound, Bodied}
use Rattle.legal.specs.Busy.{spans, busy-plain}
use Rattle.list_rule.specs.Rule.{start_number, uses, use_of, free, place, fill_step, fill_from, list_rule_of}
use Rattle.list_rule.specs.Kept.{place-ind, fill-ind}

module _ (g : Loop) where
  -- ---- what the tests tell

  pub record Uses (s : List ℕ) (c q v : ℕ) : Type 0 where
    pub placed : 0 < start_number s v
    pub class : ran_on g v ≡ c
    pub since : start_number s v ≤ q
    pub until : q < start_number s v + hold (g.class c)

  pub uses-told : (s : List ℕ) (c q v : ℕ) → uses g s c q v ≡ true → Uses s c q v
  unfolding uses
  uses-told s c q v e =
      let a = and_both _ _ e in
      let b = and_both _ _ a.1 in
      let d = and_both _ _ b.1 in
      record { placed = ltb-true _ _ a.0; class = eqb-true _ _ b.0; since = leb-true _ _ d.0; until = ltb-true _ _ d.1 }

  -- a class with a unit free at every step that node v would occupy from p on
  abbrev pub Room : List ℕ → ℕ → ℕ → Type 0
  Room s p v =
      (q : ℕ) → p ≤ q → q < p + hold (g.class (ran_on g v)) → use_of g s (ran_on g v) q < (g.class (ran_on g v)).units

  pub free-room : (s : List ℕ) (p v : ℕ) → free g s p v ≡ true → Room s p v
  unfolding free
  free-room s p v e q l h = leb-false _ _ (none-span _ p (hold (g.class (ran_on g v))) (eqb-true _ _ e) q l h)

  pub room-free : (s : List ℕ) (p v : ℕ) → Room s p v → free g s p v ≡ true
  unfolding free
  room-free s p v h = eq-eqb _ _ (span_none _ p (hold (g.class (ran_on g v))) (λ q l m. lt-leb _ _ (h q l m)))

  -- ---- one more start

  uses-other : (s : List ℕ) (c q v p w : ℕ) → w ≢ v → uses g (set s v p) c q w ≡ uses g s c q w
  unfolding uses
  uses-other s c q v p w ne = rw (get_or-set_other s v w p 0 ne)

  -- where a unit is free no step is over its units for it
  pub set-units : (s : List ℕ) (p v : ℕ) → free g s p v ≡ true → start_number s v ≡ 0
      → (c q : ℕ) → use_of g s c q ≤ (g.class c).units → use_of g (set s v p) c q ≤ (g.class c).units
  unfolding use_of
  set-units s p v e z c q ok = go (dec_lt v g.graph.nodes) (uses g (set s v p) c q v) refl
    where
      go : Dec (v < g.graph.nodes) → (b : Bool) → uses g (set s v p) c q v ≡ b → use_of g (set s v p) c q ≤ (g.class c).units
      go (no l) b h =
          omega (arith, count_same (uses g (set s v p) c q) (uses g s c q) g.graph.nodes (λ w m. uses-other s c q v p w (omega arith)))
      go (yes l) true h =
          let o = uses-told (set s v p) c q v h in
          let at : start_number (set s v p) v ≡ p = ⊎_elim (λ w. w.1) (λ w. absurd (omega (arith, o.placed))) (set_view s v p v) in
          let room : use_of g s c q < (g.class c).units =
          subst (λ (d : ℕ). use_of g s d q < (g.class d).units) o.class (free-room s p v e q (omega (arith, o.since)) (omega (arith, o.until, ap (λ d. hold (g.class d)) o.class))) in
          omega (
            arith,
            count-one (uses g (set s v p) c q) (uses g s c q) v (λ w ne. uses-other s c q v p w ne) g.graph.nodes l,
            pick_true {A = ℕ} (uses g (set s v p) c q v) 1 0 h,
          )
      go (yes l) false h =
          omega (
            arith,
            count-one (uses g (set s v p) c q) (uses g s c q) v (λ w ne. uses-other s c q v p w ne) g.graph.nodes l,
            pick-false {A = ℕ} (uses g (set s v p) c q v) 1 0 h,
          )

  -- ---- the rule

  -- step q holds no more of class c than its units
  abbrev pub Kept : ℕ → ℕ → List ℕ → Type 0
  Kept c q s = use_of g s c q ≤ (g.class c).units

  module _ (r : ℕ → ℕ) (c q : ℕ) where
    pub place-units : (before : List ℕ) (p : ℕ) (s : List ℕ) (v : ℕ) → Kept c q s → Kept c q (place g r before p s v)
    place-units before p s v ok = place-ind g r (Kept c q) before p s v ok (λ h. set-units s p v h.is_free h.unset c q ok)

    fold-units : (before : List ℕ) (p : ℕ) (vs s : List ℕ) → Kept c q s → Kept c q (fold (place g r before p) s vs)
    unfolding fold
    fold-units before p [] s ok = ok
    fold-units before p (v ∷ vs) s ok = fold-units before p vs (place g r before p s v) (place-units before p s v ok)

    pub step-units : (order : List ℕ) (p : ℕ) (s : List ℕ) → Kept c q s → Kept c q (fill_step g r order p s)
    unfolding fill_step
    step-units order p s ok = fold-units s p order s ok

    pub fill-units : (order : List ℕ) (left p : ℕ) (s : List ℕ) → Kept c q s → Kept c q (fill_from g r order left p s)
    fill-units order left p s ok = fill-ind g r (Kept c q) order (step-units order) left p s ok

    pub rule-units : (s : List ℕ) → Kept c q s → Kept c q (list_rule_of g r s)
    unfolding list_rule_of
    rule-units s ok = fill-units _ 1023 1 s ok

  -- with no start given no unit is in use
  pub zeros-in-use : (n c q : ℕ) → use_of g (replicate n 0) c q ≡ 0
  unfolding use_of uses
  zeros-in-use n c q = span_none _ 0 g.graph.nodes (λ v a l. rw (zeros-at n v))

  pub zeros-units : (r : ℕ → ℕ) (n c q : ℕ) → Kept c q (list_rule_of g r (replicate n 0))
  zeros-units r n c q = rule-units r c q (replicate n 0) (omega (arith, zeros-in-use n c q))

  -- where every node is placed, the units in use are those that the pair's nodes occupy
  pub in-use-busy : (s : List ℕ) (p : Pair) → Sound g → p.kind ≡ plain → Bodied g p → ((v : ℕ) → v < g.graph.nodes → 0 < start_number s v) → ((v : ℕ) → v < g.graph.nodes → p.start v ≡ start_number s v)
      → (c q : ℕ) → busy g p c q ≡ use_of g s c q
  unfolding use_of spans uses
  in-use-busy s p sound k b placed same c q =
      sym (busy-plain g p sound k b c q)
      ∙ count_same (spans g p c q) (uses g s c q) g.graph.nodes (λ v l. rw (same v l, lt-ltb 0 (start_number s v) (placed v l)))
