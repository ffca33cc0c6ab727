-- Rotation of a legal pair places every node, keeps the starts of the nodes that stay less z, keeps the unit rule and the edges' limits; with the retiming fitted afresh it is legal.
-- Assumes nothing.
use Rattle.std.specs.Prelude.{◌≡◌, Bool, ℕ, suc, ◌+◌, ◌-◌, ◌≤◌, ◌<◌, length}
use Rattle.std.proofs.Math.Path.{refl}
use Rattle.std.proofs.Common.{◌∙◌, ap, suc-le-suc}
use Rattle.std.proofs.Math.Bool.{true, false}
use Rattle.std.proofs.Math.Logic.{⊎_elim}
use mathlib.Core.List.{List, [], ◌∷◌}
use native.Mathlib.Omega.{arith}
use Rattle.std.proofs.Math.Decide.{ℕ_discrete}
use borrow.Author.Tests.{eqb-false, eq-eqb, le-leb, lt-ltb}
use Rattle.std.proofs.Math.ListN.{length-map}
use Rattle.lists.specs.Pick.{pick_ind}
use Rattle.lists.specs.Both.{both-and}
use Rattle.lists.specs.Fold.{fold}
use Rattle.lists.specs.Place.{set_view}
use Rattle.lists.specs.Count.{count-le, count-some}
use Rattle.form.specs.Hold.{hold}
use Rattle.legal.specs.Loop.{plain, within, Loop, Pair, ran_on, latency}
use Rattle.legal.specs.Legal.{Legal, UnitRule, busy}
use Rattle.legal.specs.Systems.{lateness, Fits}
use Rattle.legal.specs.Shape.{Sound, Bodied, plain-ends}
use Rattle.legal.specs.Busy.{spans, busy-plain}
use Rattle.legal.specs.Limits.{timed}
use Rattle.legal.specs.Fitted.{Settles, fits-settles, fitted_pair, fitted-legal}
use Rattle.reach.specs.Weight.{tight, weight}
use Rattle.list_rule.specs.Order.{order_of}
use Rattle.list_rule.specs.Rule.{start_number, uses, use_of, place, fill_step, list_rule_of, length_of}
use Rattle.list_rule.specs.Kept.{Keeps, place-ind, fill-ind, fill-keeps, fill-length}
use Rattle.list_rule.specs.Units.{Kept, uses-told, rule-units, in-use-busy}
use Rattle.list_rule.specs.Edges.{InTime, rule-in-time}
use Rattle.list_rule.specs.Ends.{work, work-bound, length-ends}
use Rattle.list_rule.specs.Filling.{Staffed, Nodes, order-whole, TableEndsBy, Filled, filled-length}
use Rattle.list_rule.specs.Placed.{rule-places}
use Rattle.turning.specs.Turned.{gained_by, dropped_by, dropped-at, turns-or-stays, turned-over, tight-turns, stays-in-time, turned-ranked}

-- the rule keeps the starts given
pub rule-keeps : (g : Loop) (r : ℕ → ℕ) (s : List ℕ) → Keeps s (list_rule_of g r s)
unfolding list_rule_of
rule-keeps g r s = fill-keeps g r _ 1023 1 s

-- and what stands past the nodes
module _ (g : Loop) (r : ℕ → ℕ) (w : ℕ) (past : g.graph.nodes ≤ w) where
  fold-past : (before : List ℕ) (p : ℕ) (vs s : List ℕ) → Nodes g vs → start_number (fold (place g r before p) s vs) w ≡ start_number s w
  unfolding fold
  fold-past before p [] s h = refl
  fold-past before p (v ∷ vs) s h =
      let lv = h 0 (omega arith) in
      fold-past before p vs (place g r before p s v) (λ i j. h (suc i) (suc-le-suc j))
      ∙ place-ind g r (λ t. start_number t w ≡ start_number s w) before p s v refl (λ k.
      ⊎_elim (λ q. absurd (omega (arith, q.0, lv))) (λ q. q) (set_view s v p w))

  step_past : (order : List ℕ) → Nodes g order → (p : ℕ) (s : List ℕ) → start_number (fill_step g r order p s) w ≡ start_number s w
  unfolding fill_step
  step_past order h p s = fold-past s p order s h

  pub rule-past : (s : List ℕ) → start_number (list_rule_of g r s) w ≡ start_number s w
  unfolding list_rule_of
  rule-past s =
      let order = order_of (weight g r) g.graph.nodes in
      fill-ind g r (λ t. start_number t w ≡ start_number s w) order (λ p t k. step_past order (order-whole g (weight g r)).nodes p t ∙ k) 1023 1 s refl

-- the starts after a rotation by z steps of the pair with the starts s
unfoldable pub turned_starts : Loop → Pair → ℕ → List ℕ → List ℕ
turned_starts g p z s = list_rule_of g (gained_by p z) (dropped_by z s)

-- the pair that they make, with the retimings after the gain
unfoldable pub turned_pair : Loop → Pair → ℕ → List ℕ → Pair
turned_pair g p z s = record { kind = plain; start = start_number (turned_starts g p z s); length = length_of g (turned_starts g p z s); retiming = gained_by p z }

-- and with the retiming fitted afresh
unfoldable pub rotated : Loop → Pair → ℕ → List ℕ → Pair
rotated g p z s = fitted_pair g (turned_pair g p z s)

-- a table of 64 places with the pair's starts
pub record StartsTabled (g : Loop) (p : Pair) (s : List ℕ) : Type 0 where
  pub long : length s ≡ 64
  pub is : (v : ℕ) → v < g.graph.nodes → start_number s v ≡ p.start v

module _ (g : Loop) (p : Pair) (z : ℕ) (s : List ℕ) (sound : Sound g) (is_plain : p.kind ≡ plain) (legal : Legal g p) (tabled : StartsTabled g p s) where
  -- the table after the drop
  dropped : (v : ℕ) → v < g.graph.nodes → start_number (dropped_by z s) v ≡ p.start v - z
  dropped v l = omega (arith, dropped-at z s v, tabled.is v l)

  dropped-within : z < p.length → TableEndsBy g (dropped_by z s) (p.length - z)
  unfolding dropped_by
  dropped-within below = record {
    long = omega (arith, length-map s (λ a. a - z), tabled.long, sound.few);
    ends = λ v l h. omega (arith, dropped v l, plain-ends g p is_plain v (legal.body v l));
  }

  -- the table after the rotation is as long
  pub turned-long : length (turned_starts g p z s) ≡ 64
  unfolding turned_starts list_rule_of dropped_by
  turned-long = fill-length g (gained_by p z) _ 1023 1 (dropped_by z s) ∙ length-map s (λ a. a - z) ∙ tabled.long

  -- every node is placed
  pub turned-filled : Staffed g → 1 ≤ z → z < p.length → p.length ≤ 512 → Filled g (turned_starts g p z s) (p.length - z + work g (dropped_by z s))
  unfolding turned_starts
  turned-filled staffed one below short =
      rule-places g (gained_by p z) sound staffed (turned-ranked g p z sound is_plain legal) (dropped_by z s) (p.length - z) (dropped-within below) (omega arith)

  -- ---- the unit rule

  hold-le : (v : ℕ) → v < g.graph.nodes → hold (g.class (ran_on g v)) ≤ latency g v
  unfolding hold
  hold-le v l = pick_ind (λ x. x ≤ latency g v) _ (latency g v) 1 (λ e. omega arith) (λ e. sound.works v l)

  -- what is in use at q was occupied at q + z
  uses-occupies : (c q v : ℕ) → v < g.graph.nodes → uses g (dropped_by z s) c q v ≡ true → spans g p c (q + z) v ≡ true
  unfolding spans
  uses-occupies c q v l e =
      let o = uses-told g (dropped_by z s) c q v e in
      let d = dropped v l in
      let since : p.start v ≤ q + z = omega (arith, d, o.placed, o.since) in
      let until : q + z < p.start v + hold (g.class c) = omega (arith, d, o.placed, o.until) in
      both-and _ _ (eq-eqb _ _ o.class) (both-and _ _ (le-leb _ _ since) (lt-ltb _ _ until))

  -- in a step of the body
  uses-within : (c q v : ℕ) → v < g.graph.nodes → uses g (dropped_by z s) c q v ≡ true → q + z ≤ p.length
  uses-within c q v l e =
      let o = uses-told g (dropped_by z s) c q v e in
      omega (arith, dropped v l, o.placed, o.until, ap (λ (d : ℕ). hold (g.class d)) o.class, hold-le v l, plain-ends g p is_plain v (legal.body v l))

  -- the nodes that stay keep the unit rule
  dropped-units : (c q : ℕ) → c < g.classes → 1 ≤ q → Kept g c q (dropped_by z s)
  unfolding use_of
  dropped-units c q lc one =
      elim (ℕ_discrete (use_of g (dropped_by z s) c q) 0) [
        | yes k ↦ omega arith
        | no k ↦
            let w = count-some (uses g (dropped_by z s) c q) g.graph.nodes (omega arith) in
            let more : use_of g (dropped_by z s) c q ≤ busy g p c (q + z) =
            omega (arith, busy-plain g p sound is_plain legal.body c (q + z), count-le (uses g (dropped_by z s) c q) (spans g p c (q + z)) g.graph.nodes (λ v l e. uses-occupies c q v l e)) in
            let most : busy g p c (q + z) ≤ (g.class c).units = legal.units (q + z) c (omega arith) (uses-within c q w.0 w.1 w.2) lc in
            omega (arith, more, most)
      ]

  -- and so do all when the rule is done
  pub turned-units : (c q : ℕ) → c < g.classes → 1 ≤ q → Kept g c q (turned_starts g p z s)
  unfolding turned_starts
  turned-units c q lc one = rule-units g (gained_by p z) c q (dropped_by z s) (dropped-units c q lc one)

  -- ---- the edges

  -- edges of retimed delay 0 between nodes that stay are in time
  dropped-in-time : InTime g (gained_by p z) (dropped_by z s)
  dropped-in-time e l t h =
      let du = dropped (g.graph.tail e) (sound.joined.tails e l) in
      let dv = dropped (g.graph.head e) (sound.joined.heads e l) in
      ⊎_elim
      (λ u. let v = tight-turns g p z sound is_plain legal e l t u in absurd (omega (arith, h, dv, v.early)))
      (λ u.
      ⊎_elim
      (λ v. absurd (omega (arith, h, dv, v.early)))
      (λ v.
      let k = stays-in-time g p z sound is_plain legal e l t u v in
      record { placed = omega (arith, du, u.late); by = omega (arith, du, dv, u.late, v.late, k) })
      (turns-or-stays p z (g.graph.head e)))
      (turns-or-stays p z (g.graph.tail e))

  -- and so are all when the rule is done
  pub turned-in-time : InTime g (gained_by p z) (turned_starts g p z s)
  unfolding turned_starts
  turned-in-time = rule-in-time g (gained_by p z) (dropped_by z s) dropped-in-time

  module _ (staffed : Staffed g) (one : 1 ≤ z) (below : z < p.length) (short : p.length ≤ 512) where
    filled : Filled g (turned_starts g p z s) (p.length - z + work g (dropped_by z s))
    filled = turned-filled staffed one below short

    -- the length is 1 to 1023
    pub turned-length : (1 ≤ length_of g (turned_starts g p z s)) × (length_of g (turned_starts g p z s) ≤ 1023)
    turned-length =
        let w = filled-length g (turned_starts g p z s) (p.length - z + work g (dropped_by z s)) sound filled in
        (w.0, omega (arith, w.1, work-bound g (dropped_by z s) 8 sound.short, sound.few))

    module _ (q : Pair) (same : (v : ℕ) → v < g.graph.nodes → q.start v ≡ start_number (turned_starts g p z s) v) where
      module _ (kind : q.kind ≡ plain) (long : q.length ≡ length_of g (turned_starts g p z s)) where
        -- every node starts in the body and ends in it
        pub turned-bodied : Bodied g q
        unfolding within
        turned-bodied v l = record {
          begins = omega (arith, same v l, filled.placed v l);
          ends = rw kind (omega (arith, same v l, long, length-ends g (turned_starts g p z s) v l));
        }

        -- the retimings after the gain fit the starts
        pub turned-fits : Fits g q (gained_by p z)
        unfolding tight
        turned-fits e l = go (tight g (gained_by p z) e) refl
          where
            go : (b : Bool) → tight g (gained_by p z) e ≡ b → gained_by p z (g.graph.head e) + lateness g q e ≤ gained_by p z (g.graph.tail e) + g.delay e
            go true t =
                let lu = sound.joined.tails e l in
                let lv = sound.joined.heads e l in
                let f = turned-in-time e l t (filled.placed (g.graph.head e) lv) in
                ⊎_elim
                (λ w. omega (arith, w.0, turned-over g p z sound is_plain legal e l))
                (λ w. absurd (omega (arith, w.1, f.by, same (g.graph.tail e) lu, same (g.graph.head e) lv)))
                (timed g q sound kind turned-bodied e l)
            go false t =
                let over = turned-over g p z sound is_plain legal e l in
                let loose : g.delay e + gained_by p z (g.graph.tail e) ≡ gained_by p z (g.graph.head e) → ⊥ = eqb-false _ _ t in
                let more : gained_by p z (g.graph.head e) < g.delay e + gained_by p z (g.graph.tail e) = omega arith in
                ⊎_elim (λ w. omega (arith, w.0, more)) (λ w. omega (arith, w.0, more)) (timed g q sound kind turned-bodied e l)

        -- so a retiming is found
        pub turned-settles : Settles g q
        turned-settles = fits-settles g q sound (gained_by p z) turned-fits

        pub turned-unit-rule : UnitRule g q
        turned-unit-rule k c a b lc =
            omega (arith, in-use-busy g (turned_starts g p z s) q sound kind turned-bodied filled.placed same c k, turned-units c k lc a)

        -- with the retiming found the rotated pair is legal, unless it is too long
        pub turned-legal : q.length ≤ 512 → Legal g (fitted_pair g q)
        turned-legal short = fitted-legal g q sound turned-settles (omega (arith, long, turned-length), short) turned-bodied turned-unit-rule

    -- ---- the rotation itself

    -- rotation of a legal pair gives a legal pair, unless that has more than 512 steps
    pub rotated-legal : length_of g (turned_starts g p z s) ≤ 512 → Legal g (rotated g p z s)
    unfolding rotated turned_pair
    rotated-legal short = turned-legal (turned_pair g p z s) (λ v l. refl) refl refl short
