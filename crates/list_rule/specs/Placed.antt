-- The list rule places every node, and the body ends no later than the starts given and the latencies of the nodes placed allow one after the other.
-- Assumes nothing.
use Rattle.std.specs.Prelude.{◌≡◌, refl, Bool, ◌&&◌, ◌⊎◌, eqb, length, get_or, set, replicate}
use Rattle.std.proofs.Math.Path.{ap}
use Rattle.std.proofs.Math.Bool.{true, false}
use Rattle.std.proofs.Math.Logic.{inl, inr, ⊎_elim}
use mathlib.Core.List.{List, [], ◌∷◌}
use Prim.Native.Nat.{ℕ, zero, suc, ◌+◌, ◌≤◌, ◌<◌, suc-le-suc}
use native.Mathlib.Omega.{arith}
use Rattle.std.proofs.Math.Decide.{ℕ_discrete, dec_le}
use Rattle.std.proofs.Common.{not-suc-le-zero, le_of_suc-le-suc, eqb-true, eq-eqb, length-set, get_or-set_same, get_or-set_other}
use Rattle.std.proofs.lemmas.List.{length-replicate}
use Rattle.lists.specs.Pick.{pick_ind, both_ways}
use Rattle.lists.specs.Both.{and_both, both-and}
use Rattle.lists.specs.Fold.{fold}
use Rattle.lists.specs.Count.{some_or_none}
use Rattle.lists.specs.Counted.{span_none}
use Rattle.lists.specs.Place.{zeros-at}
use Rattle.form.specs.Hold.{hold}
use Rattle.legal.specs.Loop.{Loop, latency, ran_on}
use Rattle.legal.specs.Shape.{Sound}
use Rattle.reach.specs.Weight.{tight, weight}
use Rattle.list_rule.specs.Order.{order_of}
use Rattle.list_rule.specs.Rule.{start_number, uses, use_of, place, fill_step, are_all_placed, fill_from, list_rule_of}
use Rattle.list_rule.specs.Kept.{Goes, place_view}
use Rattle.list_rule.specs.Units.{room-free, uses-told}
use Rattle.list_rule.specs.Edges.{told-ready}
use Rattle.list_rule.specs.Ends.{EndsBy, work, work-set, work-has, work-bound}
use Rattle.list_rule.specs.Filling.{Staffed, Ranked, Nodes, Whole, order-whole, TableEndsBy, Filled, filled-by, all-placed-told, some-unplaced}

module _ (g : Loop) (r : ℕ → ℕ) (sound : Sound g) where
  -- ---- a step moves the end on by no more than the latencies of the nodes that it places

  set-within : (s : List ℕ) (m p v : ℕ) → v < g.graph.nodes → p ≤ m + 1 → TableEndsBy g s m → TableEndsBy g (set s v p) (m + latency g v)
  set-within s m p v l h st = record {
    long = omega (arith, length-set s v p, st.long);
    ends = λ w lw pw.
        elim (ℕ_discrete w v) [
          | yes q ↦ omega (arith, ap (start_number (set s v p)) q, ap (latency g) q, get_or-set_same s v p 0 (omega (arith, st.long)))
          | no q ↦ let o = get_or-set_other s v w p 0 q in omega (arith, st.ends w lw (omega arith))
        ];
  }

  record Stepped (s t : List ℕ) (m p : ℕ) : Type 0 where
    by : ℕ
    within : TableEndsBy g t by
    less : by + work g t ≤ m + work g s
    past : p ≤ by

  -- a step within the body so far
  step_in : (before : List ℕ) (p : ℕ) → 1 ≤ p → (vs s : List ℕ) (m : ℕ) → Nodes g vs → p ≤ m → TableEndsBy g s m → Stepped s (fold (place g r before p) s vs) m p
  unfolding fold
  step_in before p one [] s m h l st = record { by = m; within = st; less = omega arith; past = l }
  step_in before p one (v ∷ vs) s m h l st =
      let lv = h 0 (omega arith) in
      let hs : Nodes g vs = λ i j. h (suc i) (suc-le-suc j) in
      ⊎_elim
      (λ w.
      let k = step_in before p one vs (set s v p) (m + latency g v) hs (omega arith) (set-within s m p v lv (omega arith) st) in
      rw w.1
      (record { by = k.by; within = k.within; less = omega (arith, k.less, work-set g s v p lv (omega (arith, st.long)) w.0.unset one); past = k.past }))
      (λ w. rw w.1 (step_in before p one vs s m hs l st))
      (place_view g r before p s v)

  -- a step right after it: a node is placed, or none goes
  step-next : (p : ℕ) → 1 ≤ p → (vs s : List ℕ) (m : ℕ) → Nodes g vs → p ≡ m + 1 → TableEndsBy g s m
      → Stepped s (fold (place g r s p) s vs) m p ⊎ ((i : ℕ) → i < length vs → Goes g r s p s (get_or vs i 0) → ⊥)
  unfolding fold
  step-next p one [] s m h l st = inr (λ i j. absurd (not-suc-le-zero j))
  step-next p one (v ∷ vs) s m h l st =
      let lv = h 0 (omega arith) in
      let hs : Nodes g vs = λ i j. h (suc i) (suc-le-suc j) in
      ⊎_elim
      (λ w.
      let k = step_in s p one vs (set s v p) (m + latency g v) hs (omega (arith, sound.works v lv)) (set-within s m p v lv (omega arith) st) in
      inl (rw w.1
      (record { by = k.by; within = k.within; less = omega (arith, k.less, work-set g s v p lv (omega (arith, st.long)) w.0.unset one); past = k.past })))
      (λ w.
      ⊎_elim
      (λ k. inl (rw w.1 k))
      (λ n. inr (λ i. elim i as (λ k. k < length (v ∷ vs) → Goes g r s p s (get_or (v ∷ vs) k 0) → ⊥) [ zero ↦ λ j. w.0 | suc i' ↦ λ j. n i' (le_of_suc-le-suc j) ]))
      (step-next p one vs s m hs l st))
      (place_view g r s p s v)

  -- ---- past the end of the starts given some node goes

  hold-le : (v : ℕ) → v < g.graph.nodes → hold (g.class (ran_on g v)) ≤ latency g v
  unfolding hold
  hold-le v l = pick_ind (λ x. x ≤ latency g v) _ (latency g v) 1 (λ e. omega arith) (λ e. sound.works v l)

  -- no unit is in use there
  idle : (s : List ℕ) (m c q : ℕ) → m < q → EndsBy g s m → use_of g s c q ≡ 0
  unfolding use_of
  idle s m c q h ends = span_none (uses g s c q) 0 g.graph.nodes (λ v a l. go v (omega arith) (uses g s c q v) refl)
    where
      go : (v : ℕ) → v < g.graph.nodes → (b : Bool) → uses g s c q v ≡ b → uses g s c q v ≡ false
      go v l true e =
          let o = uses-told g s c q v e in
          absurd (omega (arith, ap (λ (d : ℕ). hold (g.class d)) o.class, hold-le v l, ends v l o.placed, o.until))
      go v l false e = e

  -- a node that is not placed, all of whose tight edges come from nodes that are
  record Next (s : List ℕ) : Type 0 where
    node : ℕ
    in_range : node < g.graph.nodes
    unset : start_number s node ≡ 0
    freed : (e : ℕ) → e < g.graph.edges → tight g r e ≡ true → g.graph.head e ≡ node → 0 < start_number s (g.graph.tail e)

  module _ (staffed : Staffed g) (ranked : Ranked g r) where
    -- from any node that is not placed down the ranks
    next : (k : ℕ) (s : List ℕ) (v : ℕ) → ranked.rank v < k → v < g.graph.nodes → start_number s v ≡ 0 → Next s
    next zero s v l h z = absurd (not-suc-le-zero l)
    next (suc k) s v l h z =
        let waits : ℕ → Bool = λ e. tight g r e && (eqb (g.graph.head e) v && eqb (start_number s (g.graph.tail e)) 0) in
        ⊎_elim
        (λ w.
        let a = and_both (tight g r w.0) _ w.2 in
        let b = and_both (eqb (g.graph.head w.0) v) _ a.1 in
        let to : g.graph.head w.0 ≡ v = eqb-true _ _ b.0 in
        next k s (g.graph.tail w.0) (omega (arith, ranked.rises w.0 w.1 a.0, ap ranked.rank to)) (sound.joined.tails w.0 w.1) (eqb-true _ _ b.1))
        (λ none.
        record {
          node = v;
          in_range = h;
          unset = z;
          freed = λ e le t to.
              elim (ℕ_discrete (start_number s (g.graph.tail e)) 0) [
                | yes q ↦ both_ways (both-and (tight g r e) _ t (both-and (eqb (g.graph.head e) v) _ (eq-eqb _ _ to) (eq-eqb _ _ q))) (none e le)
                | no q ↦ omega arith
              ];
        })
        (some_or_none waits g.graph.edges)

    next-goes : (s : List ℕ) (m p : ℕ) → p ≡ m + 1 → TableEndsBy g s m → (n : Next s) → Goes g r s p s n.node
    next-goes s m p q st n = record {
      unset = n.unset;
      is-ready = told-ready g r s p n.node (λ e l t to.
          let h = n.freed e l t to in
          record { placed = h; by = omega (arith, st.ends (g.graph.tail e) (sound.joined.tails e l) h) });
      is_free = room-free g s p n.node (λ i a b. omega (arith, idle s m (ran_on g n.node) i (omega arith) st.ends, staffed n.node n.in_range));
    }

    module _ (order : List ℕ) (whole : Whole g order) where
      step : (s : List ℕ) (m p v : ℕ) → 1 ≤ p → p ≤ m + 1 → v < g.graph.nodes → start_number s v ≡ 0 → TableEndsBy g s m → Stepped s (fill_step g r order p s) m p
      unfolding fill_step
      step s m p v one l h z st =
          elim (dec_le p m) [
            | yes k ↦ step_in s p one order s m whole.nodes k st
            | no k ↦
                let q : p ≡ m + 1 = omega arith in
                ⊎_elim
                (λ w. w)
                (λ none.
                let n = next (suc (ranked.rank v)) s v (omega arith) h z in
                let w = whole.has n.node n.in_range in
                absurd (none w.0 w.1 (rw w.2 (next-goes s m p q st n))))
                (step-next p one order s m whole.nodes q st)
          ]

      -- the steps left cover what is left
      fill : (left p : ℕ) (s : List ℕ) (m : ℕ) → 1 ≤ p → p ≤ m + 1 → m + 1 + work g s ≤ left + p → TableEndsBy g s m → Filled g (fill_from g r order left p s) (m + work g s)
      unfolding fill_from
      fill zero p s m one l c st =
          let placed : (v : ℕ) → v < g.graph.nodes → 0 < start_number s v = λ v h.
          elim (ℕ_discrete (start_number s v) 0) [
            | yes z ↦ absurd (omega (arith, work-has g s v h z, sound.works v h))
            | no z ↦ omega arith
          ] in
          record { placed = placed; ends = λ v h. omega (arith, st.ends v h (placed v h)) }
      fill (suc left) p s m one l c st =
          pick_ind (λ t. Filled g t (m + work g s)) (are_all_placed g r s) s (fill_from g r order left (p + 1) (fill_step g r order p s))
          (λ e.
          let placed = all-placed-told g r s e in
          record { placed = placed; ends = λ v h. omega (arith, st.ends v h (placed v h)) })
          (λ e.
          let t = some-unplaced g r s e in
          let w = step s m p t.0 one l t.1 t.2 st in
          filled-by g _ (w.by + work g (fill_step g r order p s)) (m + work g s) w.less (fill left (p + 1) (fill_step g r order p s) w.by (omega arith) (omega (arith, w.past)) (omega (arith, w.less)) w.within))

      -- every node is placed where there are enough steps
      pub fill-places : (left : ℕ) (s : List ℕ) (m : ℕ) → TableEndsBy g s m → m + work g s ≤ left → Filled g (fill_from g r order left 1 s) (m + work g s)
      fill-places left s m st h = fill left 1 s m (omega arith) (omega arith) (omega arith) st

-- the rule places every node where the starts given end by step 511
pub rule-places : (g : Loop) (r : ℕ → ℕ) → Sound g → Staffed g → Ranked g r → (s : List ℕ) (m : ℕ) → TableEndsBy g s m → m ≤ 511 → Filled g (list_rule_of g r s) (m + work g s)
unfolding list_rule_of
rule-places g r sound staffed ranked s m st h =
    fill-places g r sound staffed ranked (order_of (weight g r) g.graph.nodes) (order-whole g (weight g r)) 1023 s m st
    (omega (arith, work-bound g s 8 sound.short, sound.few))

-- with none given it ends by step 512
pub zeros-places : (g : Loop) (r : ℕ → ℕ) → Sound g → Staffed g → Ranked g r → Filled g (list_rule_of g r (replicate 64 0)) 512
zeros-places g r sound staffed ranked =
    let s : List ℕ = replicate 64 0 in
    let st : TableEndsBy g s 0 = record { long = omega (arith, length-replicate {A = ℕ} 64 0, sound.few); ends = λ v l h. absurd (omega (arith, zeros-at 64 v)) } in
    filled-by g _ (0 + work g s) 512 (omega (arith, work-bound g s 8 sound.short, sound.few)) (rule-places g r sound staffed ranked s 0 st (omega arith))
