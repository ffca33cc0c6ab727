-- Marks that are counted, one edge met, a walk over the links that has come to an edge, levels, and the count at the end.
-- Assumes nothing.
use mathlib.Core.Path.{◌≡◌, sym, ◌∙◌, ap, subst}
use mathlib.Core.Bool.{Bool, true}
use mathlib.Core.List.{List, [], ◌∷◌, ◌++◌}
use mathlib.Core.Logic.{◌⊎◌, inl, inr, ⊎_elim}
use Prim.Native.Nat.{ℕ, suc, ◌+◌, ◌-◌, ◌≤◌, ◌<◌}
use native.Mathlib.Omega.{arith}
use native.Mathlib.Decide.{ℕ_discrete, dec_lt}
use native.Mathlib.Nat.{eq-or-lt_of_le}
use lib.Dec.{eqb}
use lib.ListN.{length, get_or, set, replicate, length-set, length-replicate}
use lib.Seq.{get_or-set_same, get_or-set_other}
use borrow.Author.Count.{below_more}
use borrow.Author.Tests.{eqb-true, eq-eqb, ne_eqb}
use Rattle.lists.specs.Pick.{pick, pick_ind, pick_true, pick-false}
use Rattle.lists.specs.Span.{span}
use Rattle.lists.specs.Count.{count_same}
use Rattle.lists.specs.Counted.{count-one, sum_bound, span_none}
use Rattle.lists.specs.Sums.{count-sum}
use Rattle.lists.specs.Inject.{count-inject}
use Rattle.lists.specs.Place.{set_view, zeros-at}
use Rattle.links.specs.Chains.{none_before, none_between, first_key, next-key}
use Rattle.system.specs.Graph.{Joined, Walk}
use Rattle.legal.specs.Loop.{Loop}
use Rattle.reach.specs.Weight.{tight, reached_from, weight}
use Rattle.reach.specs.Reached.{Marked, only, TightWalk, only-reached, walk-on, reached-walk, reached-all}
use Rattle.reach.specs.Tables.{marked, TellsTight}
use Rattle.reach.specs.Marking.{Queued, Waits, Marking, None, OutFrom, Met}

-- ---- marks counted

abbrev marks-test : List ℕ → ℕ → Bool
marks-test m u = eqb (get_or m u 0) 1

marked-within : (m : List ℕ) (n : ℕ) → marked m n ≤ n
unfolding marked
marked-within m n =
    omega (
      arith,
      count-sum (marks-test m) (span 0 n),
      sum_bound (λ u. pick (marks-test m u) 1 0) 1 0 n (λ u a b. pick_ind (λ x. x ≤ 1) (marks-test m u) 1 0 (λ e. omega arith) (λ e. omega arith)),
    )

pub queued-few : (m q : List ℕ) (end : ℕ) → Queued m q end → end ≤ 64
queued-few m q end k = omega (arith, k.counted, marked-within m 64)

-- one mark more counts one more
marked_more : (m : List ℕ) (h : ℕ) → length m ≡ 64 → h < 64 → (Marked m h → ⊥) → marked (set m h 1) 64 ≡ marked m 64 + 1
unfolding marked
marked_more m h long l not_yet =
    omega (
      arith,
      count-one (marks-test (set m h 1)) (marks-test m) h (λ w ne. ap (λ (x : ℕ). eqb x 1) (get_or-set_other m h w 1 0 ne)) 64 l,
      pick_true {A = ℕ} (marks-test (set m h 1) h) 1 0 (eq-eqb _ _ (get_or-set_same m h 1 0 (omega arith))),
      pick-false {A = ℕ} (marks-test m h) 1 0 (ne_eqb _ _ not_yet),
    )

-- where only nodes are marked the places past them count nothing
marked-nodes : (m : List ℕ) (n : ℕ) → n ≤ 64 → ((u : ℕ) → Marked m u → u < n) → marked m 64 ≡ marked m n
unfolding marked
marked-nodes m n few inside =
    omega (
      arith,
      count-inject (marks-test m) (marks-test m) 64 n (λ u. u) (λ u l e. (inside u (eqb-true _ _ e), e)) (λ u w a b c d e. e),
      count-inject (marks-test m) (marks-test m) n 64 (λ u. u) (λ u l e. (omega arith, e)) (λ u w a b c d e. e),
    )

-- ---- one edge

module _ (m q : List ℕ) (end head tight : ℕ) (k : Queued m q end) where
  module _ (l : head < 64) (not_yet : Marked m head → ⊥) where
    -- not all are marked, so the queue has room
    pub room : end < 64
    room = omega (arith, k.counted, marked_more m head k.marks_long l not_yet, marked-within (set m head 1) 64)

    keeps-marks : (u : ℕ) → Marked m u → Marked (set m head 1) u
    keeps-marks u h = ⊎_elim (λ w. w.1) (λ w. w ∙ h) (set_view m head 1 u)

    keeps-places : (i : ℕ) → i < end → get_or (set q end head) i 0 ≡ get_or q i 0
    keeps-places i h = get_or-set_other q end i head 0 (λ e. omega arith)

    at-end : get_or (set q end head) end 0 ≡ head
    at-end = get_or-set_same q end head 0 (omega (arith, room, k.queue_long))

    pub met-new : tight ≡ 1 → Met head tight m q end (set m head 1) (set q end head) (end + 1)
    met-new t =
        let here : Marked (set m head 1) head = get_or-set_same m head 1 0 (omega (arith, k.marks_long)) in
        record {
          queued = record {
            marks_long = length-set m head 1 ∙ k.marks_long;
            queue_long = length-set q end head ∙ k.queue_long;
            counted = omega (arith, k.counted, marked_more m head k.marks_long l not_yet);
            node_in = below_more (λ i. get_or (set q end head) i 0 < 64) end (λ i h. omega (arith, keeps-places i h, k.node_in i h)) (omega (arith, at-end));
            node_marked = below_more (λ i. Marked (set m head 1) (get_or (set q end head) i 0)) end
                (λ i h. rw (keeps-places i h) (keeps-marks (get_or q i 0) (k.node_marked i h)))
                (rw at-end here);
          };
          grows = omega arith;
          marks = λ e. here;
          keeps = keeps-marks;
          place-keeps = keeps-places;
          new = λ u h. ⊎_elim
              (λ w. inr (t, w.0, record { place = end; place_from = omega arith; place_to = omega arith; is_node = at-end ∙ sym w.0 }))
              (λ w. inl (sym w ∙ h))
              (set_view m head 1 u);
        }

-- ---- the edges out of one node

module _ (g : Loop) (r : ℕ → ℕ) (v u : ℕ) where
  -- the walk has come to edge e: those out of u from it on are late
  pub record Halfway (m q : List ℕ) (from end e : ℕ) : Type 0 where
    pub node_marked : Marked m u
    pub out_edge : e < g.graph.edges → g.graph.tail e ≡ u
    pub marking : Marking g r v m q from end (OutFrom g u e)

module _ (g : Loop) (r : ℕ → ℕ) (edges : ℕ) (first next heads tights : List ℕ) (t : TellsTight g r edges first next heads tights) (v u : ℕ) where
  module _ (m q : List ℕ) (from end : ℕ) where
    pub half-first : u < 64 → Marked m u → Marking g r v m q from end (OutFrom g u 0) → Halfway g r v u m q from end (get_or first u 0)
    half-first small h k = record {
      node_marked = h;
      out_edge = λ l. t.is_tail _ (omega (arith, t.all)) ∙ first_key _ _ _ _ t.out u small (omega (arith, t.all));
      marking = record {
        in_queue = k.in_queue;
        start-in = k.start-in;
        start = k.start;
        walked = k.walked;
        onward = λ d l is-tight p. ⊎_elim inl (λ w. inr (⊎_elim inl (λ z. inr (z.0, none_before _ _ _ _ t.out u d small (sym (t.is_tail d (omega (arith, t.all))) ∙ z.0))) w)) (k.onward d l is-tight p);
      };
    }

    -- no edge is late any more
    pub half-end : (e : ℕ) → edges ≤ e → Halfway g r v u m q from end e → Marking g r v m q from end None
    half-end e past h =
        let k = h.marking in
        record {
          in_queue = k.in_queue;
          start-in = k.start-in;
          start = k.start;
          walked = k.walked;
          onward = λ d l is-tight p. ⊎_elim inl (λ w. inr (⊎_elim inl (λ z. absurd (omega (arith, z.1, t.all))) w)) (k.onward d l is-tight p);
        }

  module _ (m q m' q' : List ℕ) (from end end' e : ℕ) (l : e < edges) (met : Met (get_or heads e 0) (get_or tights e 0) m q end m' q' end')
      (h : Halfway g r v u m q from end e) where
    in_graph : e < g.graph.edges
    in_graph = omega (arith, t.all)

    here : g.graph.tail e ≡ u
    here = h.out_edge in_graph

    same_key : (d : ℕ) → d < g.graph.edges → g.graph.tail d ≡ u → t.key d ≡ t.key e
    same_key d in-d z = sym (t.is_tail d (omega (arith, t.all))) ∙ z ∙ sym here ∙ t.is_tail e l

    -- a mark that is new is reached over edge e
    next-walked : (a : ℕ) → Marked m' a → (es : List ℕ) × TightWalk g r v es a
    next-walked a p =
        ⊎_elim (h.marking.walked a)
        (λ z.
        let w = h.marking.walked u h.node_marked in
        let is-tight : tight g r e ≡ true = t.is-tight e l ∙ eq-eqb _ _ z.0 in
        let to-tail : TightWalk g r v w.0 (g.graph.tail e) = subst (λ (b : ℕ). TightWalk g r v w.0 b) (sym here) w.1 in (
          w.0 ++ (e ∷ []),
          subst (λ (b : ℕ). TightWalk g r v (w.0 ++ (e ∷ [])) b) (t.is_head e l ∙ sym z.1) (walk-on g r v e w.0 in_graph is-tight to-tail),
        ))
        (met.new a p)

    next-late : (d : ℕ) → d < g.graph.edges → tight g r d ≡ true → OutFrom g u e d
        → Marked m' (g.graph.head d) ⊎ (Waits q' from end' (g.graph.tail d) ⊎ OutFrom g u (get_or next e 0) d)
    next-late d in-d is-tight z =
        ⊎_elim
        (λ same. inl (subst (λ (b : ℕ). Marked m' (g.graph.head b)) same
        (subst (λ (b : ℕ). Marked m' b) (sym (t.is_head e l)) (met.marks (eqb-true _ _ (sym (t.is-tight e l) ∙ subst (λ (b : ℕ). tight g r b ≡ true) (sym same) is-tight))))))
        (λ less. inr (inr (z.0, none_between _ _ _ _ t.out e d l (same_key d in-d z.0) less)))
        (eq-or-lt_of_le z.1)

    -- what waited still waits
    next-waits : (a : ℕ) → Waits q from end a → Waits q' from end' a
    next-waits a w = record {
      place = w.place;
      place_from = w.place_from;
      place_to = omega (arith, w.place_to, met.grows);
      is_node = met.place-keeps w.place w.place_to ∙ w.is_node;
    }

    next-onward : (d : ℕ) → d < g.graph.edges → tight g r d ≡ true → Marked m' (g.graph.tail d)
        → Marked m' (g.graph.head d) ⊎ (Waits q' from end' (g.graph.tail d) ⊎ OutFrom g u (get_or next e 0) d)
    next-onward d in-d is-tight p =
        ⊎_elim
        (λ old. ⊎_elim (λ w. inl (met.keeps _ w)) (λ w. ⊎_elim (λ z. inr (inl (next-waits _ z))) (next-late d in-d is-tight) w) (h.marking.onward d in-d is-tight old))
        (λ z.
        let w = z.2 in
        inr (inl (record { place = w.place; place_from = omega (arith, w.place_from, h.marking.in_queue); place_to = w.place_to; is_node = w.is_node })))
        (met.new (g.graph.tail d) p)

    -- one edge more
    pub half-next : Halfway g r v u m' q' from end' (get_or next e 0)
    half-next = record {
      node_marked = met.keeps u h.node_marked;
      out_edge = λ n. t.is_tail _ (omega (arith, t.all)) ∙ next-key _ _ _ _ t.out e l (omega (arith, t.all)) ∙ sym (t.is_tail e l) ∙ here;
      marking = record {
        in_queue = omega (arith, met.grows, h.marking.in_queue);
        start-in = h.marking.start-in;
        start = met.keeps v h.marking.start;
        walked = next-walked;
        onward = next-onward;
      };
    }

-- ---- levels

module _ (g : Loop) (r : ℕ → ℕ) (v : ℕ) (m q : List ℕ) where
  -- the node at place i no longer waits; the edges out of it are late
  pub leaves-queue : (i end : ℕ) → i < end → Marking g r v m q i end None → Marking g r v m q (i + 1) end (OutFrom g (get_or q i 0) 0)
  leaves-queue i end l k = record {
    in_queue = omega arith;
    start-in = k.start-in;
    start = k.start;
    walked = k.walked;
    onward = λ d in-d is-tight p. ⊎_elim inl (λ w. ⊎_elim
        (λ z. ⊎_elim
        (λ same. inr (inr (sym z.is_node ∙ ap (λ (b : ℕ). get_or q b 0) (sym same), omega arith)))
        (λ less. inr (inl (record { place = z.place; place_from = omega arith; place_to = z.place_to; is_node = z.is_node })))
        (eq-or-lt_of_le z.place_from))
        absurd
        w) (k.onward d in-d is-tight p);
  }

  none-waits : (from to : ℕ) → from ≡ to → Marking g r v m q from to None → Marking g r v m q to to None
  none-waits from to e k = subst (λ (b : ℕ). Marking g r v m q b to None) e k

  walk-in : Joined g.graph → (s : ℕ) (es : List ℕ) (u : ℕ) → s < g.graph.nodes → Walk g.graph s es u → u < g.graph.nodes
  walk-in j s [] u l w = subst (λ (b : ℕ). b < g.graph.nodes) w l
  walk-in j s (e ∷ es) u l w = walk-in j (g.graph.head e) es u (j.heads e w.0) w.2

  module _ (edges : ℕ) (first next heads tights : List ℕ) (t : TellsTight g r edges first next heads tights) where
    -- a node of the loop at each place, no more than there are
    counted-nodes : (from end : ℕ) → Queued m q end → Marking g r v m q from end None → end ≡ marked m g.graph.nodes
    counted-nodes from end k h =
        k.counted
        ∙ marked-nodes m g.graph.nodes t.few_nodes (λ u p. let w = h.walked u p in walk-in t.joined v w.0 u h.start-in w.1.walk)

    -- no level is left: no node waits
    pub none_left : (from to left : ℕ) → left ≡ 0 → Queued m q to → (from < to → g.graph.nodes < to + left) → Marking g r v m q from to None → Marking g r v m q to to None
    none_left from to left none k enough h =
        none-waits from to (elim (dec_lt from to) [
          | yes l ↦ absurd (omega (arith, enough l, counted-nodes from to k h, marked-within m g.graph.nodes))
          | no l ↦ omega (arith, h.in_queue)
        ]) h

    -- ---- no node waits: what is marked is what is reached

    module _ (end : ℕ) (k : Queued m q end) (h : Marking g r v m q end end None) where
      along : (s : ℕ) (es : List ℕ) (u : ℕ) → Marked m s → Walk g.graph s es u → ((i : ℕ) → i < length es → tight g r (get_or es i 0) ≡ true) → Marked m u
      along s [] u p w all = subst (λ (b : ℕ). Marked m b) w p
      along s (e ∷ es) u p w all =
          let head-marked : Marked m (g.graph.head e) = ⊎_elim (λ z. z) (λ z. ⊎_elim (λ y. absurd (omega (arith, y.place_from, y.place_to))) absurd z)
          (h.onward e w.0 (all 0 (omega arith)) (subst (λ (b : ℕ). Marked m b) (sym w.1) p)) in
          along (g.graph.head e) es u head-marked w.2 (λ i l. all (suc i) (omega arith))

      reached-marked : (u : ℕ) → Marked (reached_from g r v) u → Marked m u
      unfolding reached_from
      reached-marked u x = let w = reached-walk g r g.graph.nodes v u x in along v w.0 u h.start w.1.walk w.1.all_tight

      same-mark : (u : ℕ) → marks-test m u ≡ marks-test (reached_from g r v) u
      same-mark u = go (ℕ_discrete (get_or m u 0) 1)
        where
          go : Dec (get_or m u 0 ≡ 1) → marks-test m u ≡ marks-test (reached_from g r v) u
          go (yes p) = let w = h.walked u p in eq-eqb _ _ p ∙ sym (eq-eqb _ _ (reached-all g r t.joined v h.start-in t.few_nodes w.0 u w.1))
          go (no p) = ne_eqb _ _ p ∙ sym (ne_eqb _ _ (λ x. p (reached-marked u x)))

      pub weight_is : end - 1 ≡ weight g r v
      unfolding weight marked
      weight_is =
          omega (arith, counted-nodes end end k h, count_same (marks-test m) (marks-test (reached_from g r v)) g.graph.nodes (λ u l. same-mark u))

-- ---- the beginning: v alone is marked, and waits

module _ (v : ℕ) (inside : v < 64) where
  abbrev pub begun : List ℕ
  begun = set (replicate 64 0) 0 v

  first-place : get_or begun 0 0 ≡ v
  first-place = get_or-set_same (replicate 64 0) 0 v 0 (omega (arith, length-replicate {A = ℕ} 64 0))

  pub queued-start : Queued (only v) begun 1
  unfolding marked
  queued-start =
      let long : length (replicate {A = ℕ} 64 0) ≡ 64 = length-replicate {A = ℕ} 64 0 in
      let place : (i : ℕ) → i < 1 → get_or begun i 0 ≡ v = λ i l. let here : i ≡ 0 = omega arith in rw here first-place in
      record {
        marks_long = length-set (replicate 64 0) v 1;
        queue_long = length-set (replicate 64 0) 0 v;
        counted = omega (
          arith,
          marked_more (replicate 64 0) v long inside (λ e. omega (arith, zeros-at 64 v)),
          span_none (marks-test (replicate 64 0)) 0 64 (λ i a b. ne_eqb (get_or (replicate 64 0) i 0) 1 (λ e. omega (arith, zeros-at 64 i))),
        );
        node_in = λ i l. omega (arith, place i l);
        node_marked = λ i l. rw (place i l) (get_or-set_same (replicate 64 0) v 1 0 (omega arith));
      }

  pub marking-start : (g : Loop) (r : ℕ → ℕ) → v < g.graph.nodes → Marking g r v (only v) begun 0 1 None
  marking-start g r l = record {
    in_queue = omega arith;
    start-in = l;
    start = get_or-set_same (replicate 64 0) v 1 0 (omega (arith, length-replicate {A = ℕ} 64 0));
    walked = only-reached g r v;
    onward = λ e in_e is-tight p. inr (inl (record {
      place = 0;
      place_from = omega arith;
      place_to = omega arith;
      is_node = first-place ∙ ⊎_elim (λ w. sym w.0) (λ w. absurd (omega (arith, w, p, zeros-at 64 (g.graph.tail e)))) (set_view (replicate 64 0) v 1 (g.graph.tail e));
    }));
  }
