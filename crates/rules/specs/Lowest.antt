-- A step and a class as one number, its spot: the lowest spot of those seen at which the step holds more of the class than its units.
-- Assumes nothing.
use Rattle.std.specs.Prelude.{◌≡◌, Bool, ◌&&◌, ◌⊎◌, List, ℕ, ◌+◌, ◌*◌, ◌/◌, ◌%◌, ◌≤◌, ◌<◌, leb, None, Some}
use Rattle.std.proofs.Math.Path.{refl, sym, ap, subst}
use Rattle.std.proofs.Common.{◌∙◌, arith, eq-or-lt_of_le}
use Rattle.std.proofs.Math.Bool.{true, false}
use Rattle.std.proofs.Math.Logic.{inl, inr, ⊎_elim}
use Rattle.std.proofs.Math.Decide.{dec_lt}
use Rattle.std.proofs.Math.Dec.{ltb}
use Rattle.std.proofs.Math.ListN.{get_or}
use borrow.Author.Tests.{leb-true, ltb-true, ltb-false, lt-ltb, le-ltb, lt-leb, le-leb}
use Rattle.lists.specs.Pick.{pick, pick_true, pick-false, both_ways}
use Rattle.lists.specs.Span.{span}
use Rattle.lists.specs.Fold.{sum_of}
use Rattle.lists.specs.Sums.{sum_same}
use Rattle.answer.specs.declared.Refusal.TheVariants.{Units}
use Rattle.form.specs.declared.Class.{Class}
use Rattle.form.specs.Places.{no_class}
use Rattle.form.specs.Hold.{hold}
use Rattle.legal.specs.Loop.{Loop, Pair, ran_on}
use Rattle.legal.specs.Legal.{busy}
use Rattle.legal.specs.Judging.{over, units_of}
use Rattle.tables.specs.declared.Timetable.{Timetable}
use Rattle.tables.specs.Times.{Timed}
use Rattle.rules.specs.Busy.{held_on, busy_in, StartsIn, Seated}
use Rattle.rules.specs.Crowded.{Enters, Entered, first-entered, over-start, Over, units-lowest, units-none}

abbrev pub spot_of : ℕ → ℕ → ℕ
spot_of q c = q * 4 + c

-- the spot of step q and class c where it is lower and the step holds more of the class than its units, else the lowest so far
unfoldable pub lower_spot : ℕ → List ℕ → List ℕ → ℕ → Class → ℕ → ℕ → ℕ → ℕ
lower_spot l ks ss n k c q lowest =
    pick (ltb (spot_of q c) lowest && ltb k.units (busy_in l ks ss c (hold k) q n)) (spot_of q c) lowest

-- the same of the step in which a node starts, and of step 1 where its operation runs over the end
unfoldable pub node_spot : ℕ → List ℕ → List ℕ → ℕ → Class → ℕ → ℕ → ℕ → ℕ
node_spot l ks ss n k c q lowest =
    pick (leb (q + hold k) (l + 1)) (lower_spot l ks ss n k c q lowest) (lower_spot l ks ss n k c 1 (lower_spot l ks ss n k c q lowest))

module _ (l : ℕ) (ks ss : List ℕ) (n : ℕ) (k : Class) (c q lowest lower : ℕ) (is : lower ≡ lower_spot l ks ss n k c q lowest) where
  -- an operation that ends in the body enters no step but its start's
  pub node-inside : q + hold k ≤ l + 1 → lower ≡ node_spot l ks ss n k c q lowest
  unfolding node_spot
  node-inside h = is ∙ sym (pick_true _ _ _ (le-leb (q + hold k) (l + 1) h))

  pub node_over : (next : ℕ) → l + 1 < q + hold k → next ≡ lower_spot l ks ss n k c 1 lower → next ≡ node_spot l ks ss n k c q lowest
  unfolding node_spot
  node_over next h e = e ∙ ap (lower_spot l ks ss n k c 1) is ∙ sym (pick-false _ _ _ (lt-leb (q + hold k) (l + 1) h))

module _ (l : ℕ) (ks ss : List ℕ) (n : ℕ) (k : Class) (c q lowest here busy : ℕ) (is-here : here ≡ spot_of q c) where
  pub lower-none : lowest ≤ here → lowest ≡ lower_spot l ks ss n k c q lowest
  unfolding lower_spot pick
  lower-none h = rw (le-ltb (spot_of q c) lowest (omega arith))

  module _ (is-busy : busy ≡ busy_in l ks ss c (hold k) q n) where
    pub lower-fits : busy ≤ k.units → lowest ≡ lower_spot l ks ss n k c q lowest
    unfolding lower_spot pick
    lower-fits h = rw (le-ltb k.units (busy_in l ks ss c (hold k) q n) (omega arith)) (go (ltb (spot_of q c) lowest))
      where
        go : (b : Bool) → lowest ≡ pick (b && false) (spot_of q c) lowest
        go true = refl
        go false = refl

    pub lower-full : here < lowest → k.units < busy → here ≡ lower_spot l ks ss n k c q lowest
    unfolding lower_spot pick
    lower-full h m = rw (lt-ltb (spot_of q c) lowest (omega arith), lt-ltb k.units (busy_in l ks ss c (hold k) q n) (omega arith)) is-here

module _ (g : Loop) (p : Pair) where
  pub record Found (spot : ℕ) : Type 0 where
    pub step : ℕ
    pub class : ℕ
    pub is_spot : spot ≡ spot_of step class
    pub is_over : Over g p step class

  -- the lowest of the steps and classes seen, or a number past all spots
  pub record Lowest (Seen : ℕ → ℕ → Type 0) (spot : ℕ) : Type 0 where
    pub found : spot < spot_of p.length 4 → Found spot
    pub least : (q c : ℕ) → Seen q c → over g p q c ≡ true → spot ≤ spot_of q c

  pub lowest-none : (Seen : ℕ → ℕ → Type 0) (spot : ℕ) → ((q c : ℕ) → Seen q c → ⊥) → spot_of p.length 4 ≤ spot → Lowest Seen spot
  lowest-none Seen spot none e = record { found = λ h. absurd (omega arith); least = λ q c s. absurd (none q c s) }

  -- what is seen may be less
  pub lowest-fewer : (Seen Fewer : ℕ → ℕ → Type 0) (spot : ℕ) → ((q c : ℕ) → Fewer q c → Seen q c) → Lowest Seen spot → Lowest Fewer spot
  lowest-fewer Seen Fewer spot sub s = record { found = s.found; least = λ q c f. s.least q c (sub q c f) }

-- the timetable's count is the loop's
module _ (g : Loop) (p : Pair) (t : Timetable) (timed : Timed g p t) where
  busy-same : (c q : ℕ) → busy_in t.length t.runs t.start c (hold (get_or t.class c no_class)) q t.nodes ≡ busy g p c q
  unfolding busy_in held_on busy
  busy-same c q =
      sum_same (λ v. held_on t.length (get_or t.runs v 0) (get_or t.start v 0) c (hold (get_or t.class c no_class)) q)
      (λ v. held_on p.length (ran_on g v) (p.start v) c (hold (g.class c)) q) 0 t.nodes
      (λ v a b. rw (timed.is_length, timed.runs_on v (omega arith), timed.starts v (omega arith), timed.is_class c))
      ∙ ap (λ (n : ℕ). sum_of (λ v. held_on p.length (ran_on g v) (p.start v) c (hold (g.class c)) q) (span 0 n)) (sym timed.all-nodes)

  lower-is : (q c spot : ℕ) → lower_spot t.length t.runs t.start t.nodes (get_or t.class c no_class) c q spot ≡ pick (ltb (spot_of q c) spot && over g p q c) (spot_of q c) spot
  unfolding lower_spot over
  lower-is q c spot = rw (busy-same c q, timed.is_class c)

  -- one step of the body and one class more
  module _ (Seen : ℕ → ℕ → Type 0) (q c spot next : ℕ) (s : Lowest g p Seen spot) (from : 1 ≤ q) (to : q ≤ p.length) (class : c < g.classes)
      (is : next ≡ lower_spot t.length t.runs t.start t.nodes (get_or t.class c no_class) c q spot) where
    pub lowest-more : Lowest g p (λ k d. Seen k d ⊎ ((k ≡ q) × (d ≡ c))) next
    unfolding pick
    lowest-more = go (ltb (spot_of q c) spot) (over g p q c) refl refl (is ∙ lower-is q c spot)
      where
        go : (a b : Bool) → ltb (spot_of q c) spot ≡ a → over g p q c ≡ b → next ≡ pick (a && b) (spot_of q c) spot → Lowest g p (λ k d. Seen k d ⊎ ((k ≡ q) × (d ≡ c))) next
        go true true lower full e = record {
          found = λ h. record { step = q; class = c; is_spot = e; is_over = record { begins = from; ends = to; class = class; is_over = full } };
          least = λ k d w o. ⊎_elim (λ seen. omega (arith, s.least k d seen o, ltb-true (spot_of q c) spot lower)) (λ same. omega (arith, same)) w;
        }
        go true false lower full e = rw e (record {
          found = s.found;
          least = λ k d w o. ⊎_elim (λ seen. s.least k d seen o) (λ same. both_ways (subst (λ (x : ℕ). over g p q x ≡ true) same.1 (subst (λ (x : ℕ). over g p x d ≡ true) same.0 o)) full) w;
        })
        go false b lower full e = rw e (record {
          found = s.found;
          least = λ k d w o. ⊎_elim (λ seen. s.least k d seen o) (λ same. omega (arith, same, ltb-false (spot_of q c) spot lower)) w;
        })

  -- what one node more enters
  pub lowest-node : Seated g p → (v spot next : ℕ) → v < t.nodes → Lowest g p (Entered g p v) spot
      → next ≡ node_spot t.length t.runs t.start t.nodes (get_or t.class (get_or t.runs v 0) no_class) (get_or t.runs v 0) (get_or t.start v 0) spot
      → Lowest g p (Entered g p (v + 1)) next
  unfolding node_spot pick
  lowest-node seated v spot next l s is =
      let inside : v < g.graph.nodes = omega (arith, timed.all-nodes) in
      let at = seated.starts v inside in
      let c = ran_on g v in
      let k = get_or t.class c no_class in
      let start = lower_spot t.length t.runs t.start t.nodes k c (p.start v) spot in
      let once = lowest-more (Entered g p v) (p.start v) c spot start s at.0 at.1 (seated.class v inside) refl in
      let twice = lowest-more _ 1 c start _ once (omega arith) seated.long (seated.class v inside) refl in
      let here : next ≡ node_spot t.length t.runs t.start t.nodes k c (p.start v) spot = is ∙ rw (timed.runs_on v l, timed.starts v l) in
      go (leb (p.start v + hold k) (t.length + 1)) refl start _ here once twice
    where
      split : (q d : ℕ) → Entered g p (v + 1) q d → Entered g p v q d ⊎ ((d ≡ ran_on g v) × Enters g p v q)
      split q d u =
          ⊎_elim
          (λ (e : u.0 ≡ v). inr (sym u.2 ∙ ap (ran_on g) e, subst (λ (x : ℕ). Enters g p x q) e u.3))
          (λ m. inl (u.0, m, u.2, u.3))
          (eq-or-lt_of_le (omega (arith, u.1)))

      go : (b : Bool) → leb (p.start v + hold (get_or t.class (ran_on g v) no_class)) (t.length + 1) ≡ b
          → (first second : ℕ) → next ≡ pick b first second
          → Lowest g p (λ q d. Entered g p v q d ⊎ ((q ≡ p.start v) × (d ≡ ran_on g v))) first
          → Lowest g p (λ q d. (Entered g p v q d ⊎ ((q ≡ p.start v) × (d ≡ ran_on g v))) ⊎ ((q ≡ 1) × (d ≡ ran_on g v))) second
          → Lowest g p (Entered g p (v + 1)) next
      go true e first second is once twice =
          subst (Lowest g p (Entered g p (v + 1))) (sym is) (lowest-fewer g p _ _ first inside once)
        where
          inside : (q d : ℕ) → Entered g p (v + 1) q d → Entered g p v q d ⊎ ((q ≡ p.start v) × (d ≡ ran_on g v))
          inside q d u =
              ⊎_elim inl
              (λ w. ⊎_elim (λ s. inr (sym s, w.0)) (λ o. absurd (omega (arith, o.1, leb-true (p.start v + hold (get_or t.class (ran_on g v) no_class)) (t.length + 1) e, timed.is_length, ap hold (timed.is_class (ran_on g v))))) w.1)
              (split q d u)
      go false e first second is once twice =
          subst (Lowest g p (Entered g p (v + 1))) (sym is)
          (lowest-fewer g p _ _ second (λ q d u. ⊎_elim (λ w. inl (inl w)) (λ w. ⊎_elim (λ s. inl (inr (sym s, w.0))) (λ o. inr (o.0, w.0)) w.1) (split q d u)) twice)

-- a timetable's starts are steps of its body where it is some loop's
pub starts-in : (g : Loop) (p : Pair) (t : Timetable) → Timed g p t → Seated g p → StartsIn t.length t.start t.nodes
starts-in g p t timed seated v l =
    let s = seated.starts v (omega (arith, timed.all-nodes)) in
    (omega (arith, s, timed.starts v l), omega (arith, s, timed.starts v l, timed.is_length))

-- the lowest that a node enters is the lowest that there is
module _ (g : Loop) (p : Pair) (seated : Seated g p) (spot : ℕ) (s : Lowest g p (Entered g p g.graph.nodes) spot) where
  over-least : (q c : ℕ) → Over g p q c → spot ≤ spot_of q c
  over-least q c o =
      ⊎_elim
      (λ first. omega (arith, s.least 1 c (first-entered g p seated.starts c first) first, o.begins))
      (λ t. omega (arith, s.least (p.start t.node) c (t.node, t.node_in, t.class, inl refl) t.is_over, t.by))
      (over-start g p seated.starts c q o.begins o.ends o.is_over)

  lower : (k d : ℕ) → spot ≡ spot_of k d → d < 4 → (q c : ℕ) → Over g p q c → (k < q) ⊎ ((k ≡ q) × (d ≤ c))
  lower k d e small q c o =
      elim (dec_lt k q) [
        | yes l ↦ inl l
        | no l ↦ inr (omega (arith, over-least q c o, o.class, seated.few), omega (arith, over-least q c o, o.class, seated.few))
      ]

  pub lowest-units : spot < spot_of p.length 4 → (Some (Units (spot / 4) (spot % 4))) ≡ units_of g p
  lowest-units h =
      let t = s.found h in
      let small : t.class < 4 = omega (arith, t.is_over.class, seated.few) in
      let step : spot / 4 ≡ t.step = omega (arith, t.is_spot) in
      let class : spot % 4 ≡ t.class = omega (arith, t.is_spot) in
      rw (step, class) (units-lowest g p _ _ t.is_over (lower t.step t.class t.is_spot small))

  pub lowest-fine : spot_of p.length 4 ≤ spot → None ≡ units_of g p
  lowest-fine h = units-none g p (λ q c o. omega (arith, over-least q c o, o.ends, o.class, seated.few))
