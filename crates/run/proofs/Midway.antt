-- A repetition that has come to one of its nodes: the nodes from there on give what the whole repetition gives.
-- Assumes nothing.
use Rattle.std.specs.Prelude.{None}
use mathlib.Core.Path.{◌≡◌, refl, sym, ◌∙◌, ap, ap₂, subst}
use mathlib.Core.Bool.{Bool, true, false, ◌&&◌, false≢true}
use mathlib.Core.Logic.{◌≢◌}
use mathlib.Core.List.{List, [], ◌∷◌}
use Prim.Native.Nat.{ℕ, suc, ◌+◌, ◌-◌, ◌*◌, ◌/◌, ◌%◌, ◌≤◌, ◌<◌}
use native.Mathlib.Omega.{arith}
use native.Mathlib.Numerals.{add-one}
use native.Mathlib.Nat.{add-mul, one-mul}
use borrow.Author.Tests.{leb-true, ltb-true, eq-eqb}
use lib.Dec.{leb, ltb}
use lib.ListN.{length, get_or, take, drop, drop_of_length-le}
use lib.Seq.{drop-cons, get_or-take}
use Rattle.lists.specs.Pick.{pick, pick_ind, pick_true, pick-false, both_ways}
use Rattle.lists.specs.Fold.{fold}
use Rattle.lists.specs.Both.{and_both}
use Rattle.lists.specs.Quotient.{divided, rows-below}
use Rattle.answer.specs.Refused.{Verdict, fine}
use Rattle.form.specs.declared.Form.{Form}
use Rattle.form.specs.Places.{class_of, node_of, start_of, retiming_of}
use Rattle.form.specs.Ranges.{WellFormed}
use Rattle.legal.specs.Loop.{Loop, Pair, graph_of, loop_of, pair_of}
use Rattle.legal.specs.Shape.{sound-form, placed-form}
use Rattle.machine.specs.Run.{Machine, depth, issues, issue, visit, iteration}
use Rattle.machine.specs.Moments.{rep_of, issue_step}
use Rattle.run.specs.Order.{Rising, order-rising, order-length}
use Rattle.run.specs.Repeat.{order, step_within, visit_in, repeated, visits-stay}
use Rattle.issue.specs.Units.{Boarded, Point, point-later}
use Rattle.issue.specs.Issue.{machine_of, IssueTold, Outcome, SameSizes}
use Rattle.run.specs.Going.{Before}
use Rattle.run.proofs.Laws.{starts-in}

-- a well-formed form has up to 4 classes of up to 8 units
pub boarded-form : (f : Form) → WellFormed f → Boarded (loop_of f)
unfolding loop_of graph_of
boarded-form f w = record { few_classes = w.classes.1; few_units = λ c l. (w.class c l).units.1; on-class = w.node }

-- an issue that is not refused leaves no refusal
issue-none : (g : Loop) (p : Pair) (starts : List ℕ) (k t v : ℕ) (m : Machine) → fine (issue g p starts k m t v).refusal ≡ true → (issue g p starts k m t v).refusal ≡ None
unfolding issue fine
issue-none g p starts k t v m =
    pick_ind (λ (r : Machine). fine r.refusal ≡ true → r.refusal ≡ None) _ _ _
    (λ e h. absurd (false≢true h))
    (λ e. pick_ind (λ (r : Machine). fine r.refusal ≡ true → r.refusal ≡ None) _ _ _ (λ q h. refl) (λ q h. absurd (false≢true h)))

-- what repetition j makes of the buffers, and what holds before the next if nothing is refused
pub record Went (f : Form) (k : ℕ) (starts : List ℕ) (j : ℕ) (values₀ finish₀ values finish free : List ℕ) (why : Verdict) : Type 0 where
  pub sized : SameSizes values₀ finish₀ values finish free
  pub is_repeated : machine_of values finish why ≡ repeated (loop_of f) (pair_of f) starts k (machine_of values₀ finish₀ None) j
  pub next : fine why ≡ true → (why ≡ None) × Before f k starts (j + 1) values finish free

-- ---- a visit that can issue

-- whether a node with retiming r has an iteration in repetition j, of k, at a depth
abbrev pub has_one : ℕ → ℕ → ℕ → ℕ → Bool
has_one deep j r k = leb deep (j + r) && ltb (j + r) (deep + k)

pub has-low : (deep j r k : ℕ) → has_one deep j r k ≡ true → deep ≤ j + r
has-low deep j r k e = leb-true _ _ (and_both _ _ e).0

module _ (g : Loop) (p : Pair) (starts : List ℕ) (k j v : ℕ) (begins : 1 ≤ p.start v) (ends : p.start v ≤ p.length) where
  rep-is : ((step_within g p starts k j (p.start v) - 1) / p.length ≡ j) × ((step_within g p starts k j (p.start v) - 1) % p.length ≡ p.start v - 1)
  rep-is = divided j p.length (p.start v - 1) (step_within g p starts k j (p.start v) - 1) (omega arith) (omega arith)

  issues-here : issues g p starts k (step_within g p starts k j (p.start v)) v ≡ has_one (depth g p) j (p.retiming v) k
  unfolding issues
  issues-here = rw (rep-is.0, rep-is.1, eq-eqb (p.start v) (p.start v - 1 + 1) (omega arith))

  pub visit-here : (values finish : List ℕ) → visit_in g p starts k j (machine_of values finish None) v
      ≡ pick (has_one (depth g p) j (p.retiming v) k) (issue g p starts k (machine_of values finish None) (step_within g p starts k j (p.start v)) v) (machine_of values finish None)
  unfolding visit_in visit fine pick
  visit-here values finish = rw issues-here

  -- the iteration and its step
  pub iteration-here : iteration g p starts k (step_within g p starts k j (p.start v)) v ≡ j + p.retiming v - depth g p
  iteration-here = rw rep-is.0

  pub step-here : depth g p ≤ j + p.retiming v → issue_step g p (j + p.retiming v - depth g p) v ≡ step_within g p starts k j (p.start v)
  unfolding issue_step rep_of
  step-here h = let same : j + p.retiming v - depth g p + depth g p - p.retiming v ≡ j = omega arith in rw same

-- ---- a repetition

module _ (f : Form) (k : ℕ) (starts : List ℕ) (j : ℕ) where
  -- the buffers before node i of the order, from those before the repetition
  pub record Midway (values₀ finish₀ : List ℕ) (i : ℕ) (values finish free : List ℕ) : Type 0 where
    pub sized : SameSizes values₀ finish₀ values finish free
    pub rest : fold (visit_in (loop_of f) (pair_of f) starts k j) (machine_of values finish None) (drop i (order (loop_of f) (pair_of f)))
        ≡ repeated (loop_of f) (pair_of f) starts k (machine_of values₀ finish₀ None) j
    pub low : ℕ
    pub rising : Rising (start_of f) f.header.nodes ((1 + f.header.length) * f.header.nodes) low (drop i (order (loop_of f) (pair_of f)))
    pub point : Point (loop_of f) (pair_of f) starts k (j * f.header.length * f.header.nodes + low) finish free

  module _ (well : WellFormed f) (scheduled : f.header.length ≢ 0) where
    many : length (order (loop_of f) (pair_of f)) ≡ f.header.nodes
    unfolding loop_of pair_of graph_of
    many = order-length (start_of f) f.header.nodes 1 f.header.length (starts-in f well scheduled)

    pub midway-begins : (values finish free : List ℕ) → Before f k starts j values finish free → Midway values finish 0 values finish free
    unfolding repeated loop_of pair_of graph_of
    midway-begins values finish free b = record {
      sized = record { values_long = refl; finish_long = refl; free_long = b.all_units };
      rest = refl;
      low = 1 * f.header.nodes;
      rising = order-rising (start_of f) f.header.nodes 1 f.header.length;
      point = subst (λ (n : ℕ). Point (loop_of f) (pair_of f) starts k n finish free) (add-mul (j * f.header.length) 1 f.header.nodes) b.point;
    }

    module _ (values₀ finish₀ : List ℕ) (i : ℕ) (values finish free : List ℕ) (m : Midway values₀ finish₀ i values finish free) where
      module _ (table : List ℕ) (in_order : take f.header.nodes table ≡ order (loop_of f) (pair_of f)) (l : i < f.header.nodes) where
        here : drop i (order (loop_of f) (pair_of f)) ≡ get_or table i 0 ∷ drop (i + 1) (order (loop_of f) (pair_of f))
        here =
            let at : get_or (order (loop_of f) (pair_of f)) i 0 ≡ get_or table i 0 = ap (λ (us : List ℕ). get_or us i 0) (sym in_order) ∙ get_or-take f.header.nodes table i 0 l in
            drop-cons (order (loop_of f) (pair_of f)) i 0 (omega (arith, many)) ∙ ap₂ (λ (u : ℕ) (us : List ℕ). u ∷ us) at (ap (λ (x : ℕ). drop x (order (loop_of f) (pair_of f))) (sym (add-one i)))

        risen : (m.low ≤ start_of f (get_or table i 0) * f.header.nodes + get_or table i 0) × (get_or table i 0 < f.header.nodes)
            × Rising (start_of f) f.header.nodes ((1 + f.header.length) * f.header.nodes) (suc (start_of f (get_or table i 0) * f.header.nodes + get_or table i 0)) (drop (i + 1) (order (loop_of f) (pair_of f)))
        unfolding Rising
        risen = subst (Rising (start_of f) f.header.nodes ((1 + f.header.length) * f.header.nodes) m.low) here m.rising

        pub node_in : get_or table i 0 < f.header.nodes
        node_in = risen.1

        -- what the rest makes of the machine after the node's visit
        rest-here : fold (visit_in (loop_of f) (pair_of f) starts k j) (visit_in (loop_of f) (pair_of f) starts k j (machine_of values finish None) (get_or table i 0)) (drop (i + 1) (order (loop_of f) (pair_of f)))
            ≡ repeated (loop_of f) (pair_of f) starts k (machine_of values₀ finish₀ None) j
        unfolding fold
        rest-here = subst (λ (us : List ℕ). fold (visit_in (loop_of f) (pair_of f) starts k j) (machine_of values finish None) us ≡ repeated (loop_of f) (pair_of f) starts k (machine_of values₀ finish₀ None) j) here m.rest

        visited : visit_in (loop_of f) (pair_of f) starts k j (machine_of values finish None) (get_or table i 0)
            ≡ pick (has_one (depth (loop_of f) (pair_of f)) j (retiming_of f (get_or table i 0)) k)
            (issue (loop_of f) (pair_of f) starts k (machine_of values finish None) (j * f.header.length + start_of f (get_or table i 0)) (get_or table i 0)) (machine_of values finish None)
        unfolding pair_of
        visited = visit-here (loop_of f) (pair_of f) starts k j (get_or table i 0) (starts-in f well scheduled (get_or table i 0) node_in).0 (omega (arith, (starts-in f well scheduled (get_or table i 0) node_in).1)) values finish

        module _ (deep : ℕ) (is_depth : deep ≡ depth (loop_of f) (pair_of f)) where
          -- the node has no iteration here
          pub midway-skips : has_one deep j (retiming_of f (get_or table i 0)) k ≡ false → Midway values₀ finish₀ (i + 1) values finish free
          unfolding pair_of
          midway-skips none = record {
            sized = m.sized;
            rest = ap (λ (r : Machine). fold (visit_in (loop_of f) (pair_of f) starts k j) r (drop (i + 1) (order (loop_of f) (pair_of f)))) (sym (visited ∙ pick-false _ _ _ (rw (← is_depth) none))) ∙ rest-here;
            low = suc (start_of f (get_or table i 0) * f.header.nodes + get_or table i 0);
            rising = risen.2;
            point = point-later (loop_of f) (pair_of f) starts k _ _ finish free (omega (arith, risen.0)) m.point;
          }

          module _ (some : has_one deep j (retiming_of f (get_or table i 0)) k ≡ true) where
            low-enough : (deep ≤ j + retiming_of f (get_or table i 0)) × (j + retiming_of f (get_or table i 0) < deep + k)
            low-enough = (
              has-low deep j (retiming_of f (get_or table i 0)) k some,
              ltb-true (j + retiming_of f (get_or table i 0)) (deep + k) (and_both (leb deep (j + retiming_of f (get_or table i 0))) (ltb (j + retiming_of f (get_or table i 0)) (deep + k)) some).1,
            )

            pub midway-told : (x t : ℕ) → x ≡ j + retiming_of f (get_or table i 0) - deep → t ≡ j * f.header.length + start_of f (get_or table i 0)
                → IssueTold (loop_of f) (pair_of f) starts k (get_or table i 0) x t (node_of f (get_or table i 0)).class (class_of f (node_of f (get_or table i 0)).class)
            unfolding loop_of graph_of pair_of
            midway-told x t is_x is-t =
                let v : ℕ = get_or table i 0 in
                let e = low-enough in
                let from = starts-in f well scheduled v node_in in
                rw (is_x, is-t) (record {
                  sound = sound-form f well;
                  placed = placed-form f well scheduled;
                  boarded = boarded-form f well;
                  node_in = node_in;
                  is_one = omega arith;
                  on-class = refl;
                  is_class = refl;
                  goes = iteration-here (loop_of f) (pair_of f) starts k j v from.0 (omega arith) ∙ rw (← is_depth);
                  step = rw is_depth (step-here (loop_of f) (pair_of f) starts k j v from.0 (omega arith) (omega (arith, is_depth)));
                })

            -- the places of its iteration
            pub midway-room : (x n : ℕ) → x ≡ j + retiming_of f (get_or table i 0) - deep → k * f.header.nodes ≤ n → x * f.header.nodes + f.header.nodes ≤ n
            midway-room x n is_x room = let e = low-enough in omega (arith, rows-below x k f.header.nodes (omega arith))

            pub midway-point : (t : ℕ) → t ≡ j * f.header.length + start_of f (get_or table i 0) → Point (loop_of f) (pair_of f) starts k (t * f.header.nodes + get_or table i 0) finish free
            midway-point t is-t =
                point-later (loop_of f) (pair_of f) starts k _ (t * f.header.nodes + get_or table i 0) finish free
                (rw is-t (omega (arith, risen.0, add-mul (j * f.header.length) (start_of f (get_or table i 0)) f.header.nodes))) m.point

            module _ (t : ℕ) (is-t : t ≡ j * f.header.length + start_of f (get_or table i 0)) (values' finish' free' : List ℕ) (why : Verdict)
                (size : SameSizes values finish values' finish' free')
                (o : Outcome (loop_of f) (pair_of f) starts k t (get_or table i 0) (machine_of values finish None) (machine_of values' finish' why) free') where
              both-sized : SameSizes values₀ finish₀ values' finish' free'
              both-sized = record { values_long = size.values_long ∙ m.sized.values_long; finish_long = size.finish_long ∙ m.sized.finish_long; free_long = size.free_long }

              rest-issued : fold (visit_in (loop_of f) (pair_of f) starts k j) (machine_of values' finish' why) (drop (i + 1) (order (loop_of f) (pair_of f)))
                  ≡ repeated (loop_of f) (pair_of f) starts k (machine_of values₀ finish₀ None) j
              rest-issued =
                  ap (λ (r : Machine). fold (visit_in (loop_of f) (pair_of f) starts k j) r (drop (i + 1) (order (loop_of f) (pair_of f))))
                  (o.is_issue
                  ∙ ap (λ (x : ℕ). issue (loop_of f) (pair_of f) starts k (machine_of values finish None) x (get_or table i 0)) is-t
                  ∙ sym (visited ∙ pick_true _ _ _ (subst (λ (d : ℕ). has_one d j (retiming_of f (get_or table i 0)) k ≡ true) is_depth some)))
                  ∙ rest-here

              none-refused : fine why ≡ true → why ≡ None
              none-refused e =
                  ap (λ (r : Machine). r.refusal) o.is_issue
                  ∙ issue-none (loop_of f) (pair_of f) starts k t (get_or table i 0) (machine_of values finish None) (ap (λ (r : Machine). fine r.refusal) (sym o.is_issue) ∙ e)

              -- it is issued
              pub midway-issues : fine why ≡ true → Midway values₀ finish₀ (i + 1) values' finish' free'
              unfolding loop_of graph_of
              midway-issues e = record {
                sized = both-sized;
                rest = subst (λ (x : Verdict). fold (visit_in (loop_of f) (pair_of f) starts k j) (machine_of values' finish' x) (drop (i + 1) (order (loop_of f) (pair_of f)))
                    ≡ repeated (loop_of f) (pair_of f) starts k (machine_of values₀ finish₀ None) j) (none-refused e) rest-issued;
                low = suc (start_of f (get_or table i 0) * f.header.nodes + get_or table i 0);
                rising = risen.2;
                point = point-later (loop_of f) (pair_of f) starts k _ _ finish' free' (rw is-t (omega (arith, add-mul (j * f.header.length) (start_of f (get_or table i 0)) f.header.nodes))) (o.point e);
              }

              -- it is refused, and so is the repetition
              pub midway-stops : fine why ≡ false → Went f k starts j values₀ finish₀ values' finish' free' why
              midway-stops e = record {
                sized = both-sized;
                is_repeated = sym (visits-stay (loop_of f) (pair_of f) starts k j (machine_of values' finish' why) (drop (i + 1) (order (loop_of f) (pair_of f))) e) ∙ rest-issued;
                next = λ q. both_ways q e;
              }

      -- no node is left
      pub midway-ends : i ≡ f.header.nodes → k * f.header.nodes ≤ length values₀ → k * f.header.nodes ≤ length finish₀ → Went f k starts j values₀ finish₀ values finish free None
      unfolding fold Rising
      midway-ends all room room' =
          let none : drop i (order (loop_of f) (pair_of f)) ≡ [] = let past : length (order (loop_of f) (pair_of f)) ≤ i = omega (arith, many) in drop_of_length-le (order (loop_of f) (pair_of f)) past in
          let s = m.sized in
          let last : m.low ≤ (1 + f.header.length) * f.header.nodes = subst (Rising (start_of f) f.header.nodes ((1 + f.header.length) * f.header.nodes) m.low) none m.rising in
          record {
            sized = s;
            is_repeated = subst (λ (us : List ℕ). fold (visit_in (loop_of f) (pair_of f) starts k j) (machine_of values finish None) us ≡ repeated (loop_of f) (pair_of f) starts k (machine_of values₀ finish₀ None) j) none m.rest;
            next = λ e. (
              refl,
              record {
                for_values = omega (arith, s.values_long);
                for_finish = omega (arith, s.finish_long);
                all_units = s.free_long;
                point = point-later (loop_of f) (pair_of f) starts k _ _ finish free
                    (omega (arith, last, add-mul 1 f.header.length f.header.nodes, add-mul j 1 f.header.length, add-mul ((j + 1) * f.header.length) 1 f.header.nodes, add-mul (j * f.header.length) (1 * f.header.length) f.header.nodes, ap (λ (x : ℕ). x * f.header.nodes) (add-mul j 1 f.header.length), ap (λ (x : ℕ). x * f.header.nodes) (one-mul f.header.length))) m.point;
              },
            );
          }
