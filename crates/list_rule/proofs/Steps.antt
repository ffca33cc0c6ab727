-- The list rule's three loops: what is left to do equals the whole, for every loop and pair that the tables tell.
-- Assumes nothing.
use mathlib.Core.Path.{◌≡◌, refl, sym, ap, ◌∙◌}
use mathlib.Core.Bool.{Bool}
use mathlib.Core.List.{List}
use mathlib.Core.Logic.{◌≢◌}
use Prim.Native.Nat.{ℕ, suc, ◌+◌, ◌*◌, ◌-◌, ◌≤◌, ◌<◌}
use native.Mathlib.Numerals.{add-one}
use native.Mathlib.Omega.{arith}
use lib.Dec.{eqb, leb}
use lib.ListN.{length, get_or, set, take, length-set}
use lib.Seq.{slice, slice-cons, slice_empty}
use borrow.Author.Tests.{le-leb, lt-leb, eq-eqb, ne_eqb}
use Rattle.lists.specs.Pick.{pick, pick_true, pick-false}
use Rattle.lists.specs.Span.{span}
use Rattle.lists.specs.Fold.{count, fold}
use Rattle.lists.specs.Sums.{sum_same, count-sum}
use Rattle.form.specs.declared.Class.{Class}
use Rattle.form.specs.Hold.{hold}
use Rattle.legal.specs.Loop.{Loop, Pair}
use Rattle.tables.specs.declared.Timetable.{Timetable}
use Rattle.tables.specs.Edges.{Ends, Told}
use Rattle.tables.specs.Times.{Timed}
use Rattle.reach.specs.Weight.{weight}
use Rattle.reach.specs.Tables.{weights_of, weights-at}
use Rattle.list_rule.specs.Order.{order_of}
use Rattle.list_rule.specs.Rule.{start_number, use_of, free, ready, place, fill_step, are_all_placed, fill_from, list_rule_of}
use Rattle.list_rule.specs.Tables.{weight_of, holds_in, Raised, Used, WaitsTabled}
use Rattle.list_rule.proofs.Laws.{both_false, adds_one, adds_none}
use Rattle.list_rule.proofs.Units.{row_of, used-put, in-use-is}
use Rattle.list_rule.proofs.Waits.{ready-is}
use Rattle.list_rule.proofs.Weighed.{weights-same, weighed-below}

-- ---- occupied steps

module _ (classes : List Class) (runs : List ℕ) (nodes : ℕ) (s : List ℕ) (v : ℕ) where
  -- the class of v has no unit free in step q
  abbrev full_at : ℕ → Bool
  full_at q = leb (row_of classes runs v).units (count (holds_in classes runs s (get_or runs v 0) q) (span 0 nodes))

  -- of n steps from q on those in which it has none
  unfoldable pub full : ℕ → ℕ → ℕ
  full q n = count full_at (span q n)

  abbrev pub held : ℕ
  held = hold (row_of classes runs v)

  -- the steps from p to q have a unit free
  pub record Searching (p past q : ℕ) : Type 0 where
    pub is : full q (past - q) ≡ full p held

  module _ (p : ℕ) where
    pub searching-none : (h : ℕ) → h ≡ held → Searching p (p + h) p
    searching-none h e =
        let d : p + h - p ≡ held = omega arith in
        record { is = rw d }

    pub searching-end : (past q : ℕ) → past ≤ q → Searching p past q → full p held ≡ 0
    unfolding full count span
    searching-end past q h t =
        let d : past - q ≡ 0 = omega arith in
        sym (rw d at t.is)

    module _ (busy : List ℕ) (u : Used classes runs s nodes busy) (k-in : get_or runs v 0 < 4) (past q : ℕ) (t : Searching p past q) (h : q < past) (q-in : q < 1032)
        (spot : ℕ) (is_spot : spot ≡ q * 4 + get_or runs v 0) where
      in_use : count (holds_in classes runs s (get_or runs v 0) q) (span 0 nodes) ≡ get_or busy spot 0
      in_use = sym (rw is_spot (u.at (get_or runs v 0) q k-in q-in))

      turned : pick (leb (row_of classes runs v).units (get_or busy spot 0)) 1 0 + full (q + 1) (past - (q + 1)) ≡ full p held
      unfolding full count span
      turned =
          let d : past - q ≡ suc (past - (q + 1)) = omega arith in
          rw (add-one q, ← in_use) (rw (d, add-one q) at t.is)

      pub searching-next : get_or busy spot 0 < (row_of classes runs v).units → Searching p past (q + 1)
      searching-next l = record { is = omega (arith, turned, adds_none (leb (row_of classes runs v).units (get_or busy spot 0)) (lt-leb (row_of classes runs v).units (get_or busy spot 0) l)) }

      pub searching-full : (row_of classes runs v).units ≤ get_or busy spot 0 → full p held ≢ 0
      searching-full l z = omega (arith, turned, adds_one (leb (row_of classes runs v).units (get_or busy spot 0)) (le-leb (row_of classes runs v).units (get_or busy spot 0) l))

same_count : (a b : ℕ → Bool) (p n : ℕ) → ((q : ℕ) → a q ≡ b q) → count a (span p n) ≡ count b (span p n)
same_count a b p n e =
    count-sum a (span p n) ∙ sum_same (λ q. pick (a q) 1 0) (λ q. pick (b q) 1 0) p n (λ q _ _. ap (λ (x : Bool). pick {A = ℕ} x 1 0) (e q)) ∙ sym (count-sum b (span p n))

-- a unit is free for a loop's node where no step of its is full
free-is : (g : Loop) (pair : Pair) (t : Timetable) → Timed g pair t → (s : List ℕ) (p v : ℕ) → v < t.nodes
    → free g s p v ≡ eqb (full t.class t.runs t.nodes s v p (held t.class t.runs t.nodes s v)) 0
unfolding free full
free-is g pair t timed s p v l =
    let k = get_or t.runs v 0 in
    rw (timed.runs_on v l, timed.is_class k)
    (ap (λ (n : ℕ). eqb n 0) (same_count (λ q. leb (row_of t.class t.runs v).units (use_of g s k q)) (full_at t.class t.runs t.nodes s v) p (held t.class t.runs t.nodes s v)
    (λ q. ap (leb (row_of t.class t.runs v).units) (in-use-is g pair t timed s k q))))

-- ---- steps and nodes

-- the nodes in the order of the list rule
abbrev order_in : Loop → (ℕ → ℕ) → List ℕ
order_in g r = order_of (weight g r) g.graph.nodes

module _ (edges : ℕ) (from to delays : List ℕ) (t : Timetable) where
  -- what holds for every loop and pair that the tables tell
  abbrev Each : (Loop → (ℕ → ℕ) → Type 0) → Type 0
  Each P = (g : Loop) (pair : Pair) → Told g t.nodes edges from to delays → Timed g pair t → P g pair.retiming

  abbrev whole : Loop → (ℕ → ℕ) → List ℕ
  whole g r = list_rule_of g r t.start

  -- a table that holds the order
  pub record Ordered (order : List ℕ) : Type 0 where
    pub size : length order ≡ 64
    pub below : (i : ℕ) → i < t.nodes → get_or order i 0 < t.nodes
    pub is : Each (λ g r. take t.nodes order ≡ order_in g r)

  pub ordered_of : (weights order : List ℕ) → Each (λ g r. weights ≡ weights_of g r) → length order ≡ 64
      → take t.nodes order ≡ order_of (weight_of weights) t.nodes → Ordered order
  ordered_of weights order each l is = record {
    size = l;
    below = weighed-below (weight_of weights) t.nodes order is;
    is = λ g pair told timed. is
        ∙ weights-same (weight_of weights) (weight g pair.retiming) t.nodes
        (λ u m. ap (λ (xs : List ℕ). get_or xs u 0) (each g pair told timed) ∙ weights-at g pair.retiming u (omega (arith, told.all-nodes)))
        ∙ ap (order_of (weight g pair.retiming)) (sym told.all-nodes);
  }

  -- the steps before p are filled
  pub record Filling (p : ℕ) (start busy : List ℕ) : Type 0 where
    pub size : length start ≡ 64
    pub used : Used t.class t.runs start t.nodes busy
    pub rest : Each (λ g r. fill_from g r (order_in g r) (1024 - p) p start ≡ whole g r)

  pub filling-none : (busy : List ℕ) → length t.start ≡ 64 → Used t.class t.runs t.start t.nodes busy → Filling 1 t.start busy
  unfolding list_rule_of
  filling-none busy l u = record { size = l; used = u; rest = λ g pair told timed. refl }

  -- the nodes in the order before place i are tried in step p
  pub record Trying (order before : List ℕ) (p i : ℕ) (start busy : List ℕ) : Type 0 where
    pub size : length start ≡ 64
    pub used : Used t.class t.runs start t.nodes busy
    pub rest : Each (λ g r. fill_from g r (order_in g r) (1024 - (p + 1)) (p + 1) (fold (place g r before p) start (slice i t.nodes order)) ≡ whole g r)

  module _ (p : ℕ) (start busy : List ℕ) (s : Filling p start busy) where
    pub filling-end : 1024 ≤ p → Each (λ g r. start ≡ whole g r)
    unfolding fill_from
    filling-end h g pair told timed =
        let e : 1024 - p ≡ 0 = omega arith in
        rw e at (s.rest g pair told timed)

    module _ (h : p < 1024) (left : ℕ) (is-left : left ≡ count (λ v. eqb (start_number start v) 0) (span 0 t.nodes)) where
      more : 1024 - p ≡ suc (1024 - (p + 1))
      more = omega arith

      all_placed : Each (λ g r. are_all_placed g r start ≡ eqb left 0)
      unfolding are_all_placed
      all_placed g pair told timed = ap (λ (n : ℕ). eqb (count (λ v. eqb (start_number start v) 0) (span 0 n)) 0) told.all-nodes ∙ ap (λ (n : ℕ). eqb n 0) (sym is-left)

      pub filling-done : left ≡ 0 → Each (λ g r. start ≡ whole g r)
      unfolding fill_from
      filling-done e g pair told timed = sym (pick_true _ _ _ (all_placed g pair told timed ∙ eq-eqb left 0 e)) ∙ (rw more at (s.rest g pair told timed))

      pub trying-none : left ≢ 0 → (order : List ℕ) → Ordered order → Trying order start p 0 start busy
      unfolding fill_from fill_step
      trying-none ne order o = record {
        size = s.size;
        used = s.used;
        rest = λ g pair told timed. rw (o.is g pair told timed) (sym (pick-false _ _ _ (all_placed g pair told timed ∙ ne_eqb left 0 ne)) ∙ (rw more at (s.rest g pair told timed)));
      }

  module _ (order before : List ℕ) (p i : ℕ) (start busy : List ℕ) (try : Trying order before p i start busy) where
    pub trying-end : t.nodes ≤ i → i ≤ t.nodes → Filling (p + 1) start busy
    unfolding fold
    trying-end a b =
        let e : i ≡ t.nodes = omega arith in
        record { size = try.size; used = try.used; rest = λ g pair told timed. rw (e, slice_empty) at (try.rest g pair told timed) }

    module _ (o : Ordered order) (ends : Ends t.nodes edges from to) (i-in : i < t.nodes) where
      abbrev node : ℕ
      node = get_or order i 0

      turn : Each (λ g r. fill_from g r (order_in g r) (1024 - (p + 1)) (p + 1) (fold (place g r before p) (place g r before p start node) (slice (i + 1) t.nodes order)) ≡ whole g r)
      unfolding fold
      turn g pair told timed =
          rw (add-one i) (rw (slice-cons i t.nodes order 0 i-in (omega (arith, o.size, ends.most))) at (try.rest g pair told timed))

      trying-past : Each (λ g r. place g r before p start node ≡ start) → Trying order before p (i + 1) start busy
      trying-past e = record { size = try.size; used = try.used; rest = λ g pair told timed. rw (e g pair told timed) at (turn g pair told timed) }

      -- a node that is placed, or waits, or finds no unit stays as it is
      pub trying-placed : start_number start node ≢ 0 → Trying order before p (i + 1) start busy
      unfolding place pick
      trying-placed h = trying-past (λ g pair told timed. rw (ne_eqb (start_number start node) 0 h))

      module _ (waits : List ℕ) (marks : WaitsTabled from to delays t.retiming t.latency before p edges waits) where
        is-ready : Each (λ g r. ready g r before p node ≡ eqb (get_or waits node 0) 0)
        is-ready g pair told timed = ready-is g pair edges from to delays t ends told timed before p waits marks node (omega (arith, o.below i i-in, ends.most))

        pub trying-waits : get_or waits node 0 ≢ 0 → Trying order before p (i + 1) start busy
        unfolding place pick
        trying-waits h = trying-past (λ g pair told timed. rw (is-ready g pair told timed, ne_eqb (get_or waits node 0) 0 h, both_false))

        abbrev steps-full : ℕ
        steps-full = full t.class t.runs t.nodes start node p (held t.class t.runs t.nodes start node)

        pub trying-full : steps-full ≢ 0 → Trying order before p (i + 1) start busy
        unfolding place pick
        trying-full h = trying-past (λ g pair told timed. rw (free-is g pair t timed start p node (o.below i i-in), ne_eqb steps-full 0 h, both_false, both_false))

        pub trying-put : (holds : ℕ) (busy' : List ℕ) → holds ≡ hold (row_of t.class t.runs node) → start_number start node ≡ 0 → get_or waits node 0 ≡ 0 → steps-full ≡ 0
            → Raised busy p (get_or t.runs node 0) (p + holds) busy' → Trying order before p (i + 1) (set start node p) busy'
        unfolding place pick
        trying-put holds busy' is_held_lem none ready-now is_free r = record {
          size = length-set start node p ∙ try.size;
          used = used-put t.class t.runs start t.nodes node p holds busy busy' (o.below i i-in) (omega (arith, try.size, ends.most, o.below i i-in)) none is_held_lem try.used r;
          rest = λ g pair told timed. rw (now-placed g pair told timed) at (turn g pair told timed);
        }
          where
            now-placed : Each (λ g r. place g r before p start node ≡ set start node p)
            now-placed g pair told timed =
                rw (eq-eqb (start_number start node) 0 none, is-ready g pair told timed, eq-eqb (get_or waits node 0) 0 ready-now, free-is g pair t timed start p node (o.below i i-in), eq-eqb steps-full 0 is_free)
