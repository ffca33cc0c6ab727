-- Tests and a product's bound; the edge rule as the code asks it, edge after edge; counts over the nodes.
-- Assumes nothing.
use mathlib.Core.Path.{◌≡◌, refl, sym, ap, ◌∙◌}
use mathlib.Core.Bool.{Bool, true, false}
use mathlib.Core.List.{List}
use Prim.Native.Nat.{ℕ, zero, suc, ◌+◌, ◌-◌, ◌*◌, ◌/◌, ◌%◌, ◌≤◌, ◌<◌}
use native.Mathlib.Nat.{mul-le-mul, zero-add, add-mul, mod-lt, div-eq_of_lt, div-add-mod'}
use native.Mathlib.Numerals.{add-one}
use native.Mathlib.Omega.{arith}
use lib.ListN.{get_or}
use borrow.Author.Tests.{le-ltb, lt-ltb}
use lib.Dec.{eqb}
use Rattle.lists.specs.Pick.{pick}
use Rattle.lists.specs.Span.{span}
use Rattle.lists.specs.Fold.{sum_of, sum-snoc}
use Rattle.lists.specs.Quotient.{divided}
use Rattle.lists.specs.Sums.{bit}
use Rattle.legal.specs.Loop.{Loop, Pair, latency}
use Rattle.legal.specs.Legal.{EdgeRule}
use Rattle.legal.specs.Held.{lands, held, held_none, held_more, held-closed}
use Rattle.legal.specs.Judging.{breaks}
use Rattle.tables.specs.declared.Timetable.{Timetable}
use Rattle.tables.specs.Edges.{Ends, Told}
use Rattle.tables.specs.Times.{Timed}
use Rattle.rules.specs.Busy.{held_on, busy_in}

-- a product of two u16, each as a wider number; omega takes it as an unknown
pub product : (a b x y : ℕ) → a ≡ x → b ≡ y → x < 65536 → y < 65536 → (a * b ≡ x * y) × (x * y ≤ 4294836225)
product a b x y e f h k =
    let hx : x ≤ 65535 = omega arith in
    let hy : y ≤ 65535 = omega arith in
    (rw (e, f), mul-le-mul hx hy)

-- ---- the edge rule

-- the steps in which head and tail begin, each some iterations later, so that no number is below 0
pub record Sides (g : Loop) (p : Pair) (e head tail works : ℕ) : Type 0 where
  pub is_head : head ≡ p.start (g.graph.head e) + p.length * (g.delay e + p.retiming (g.graph.tail e))
  pub is_tail : tail ≡ p.start (g.graph.tail e) + p.length * p.retiming (g.graph.head e)
  pub is_works : works ≡ latency g (g.graph.tail e)

-- of the delays, the retimings of tail and head and the latency that the code reads
module _ (g : Loop) (p : Pair) (edges : ℕ) (from to delays : List ℕ) (t : Timetable)
    (ends : Ends t.nodes edges from to) (told : Told g t.nodes edges from to delays) (timed : Timed g p t) where
  pub sides-are : (e d r s head tail works : ℕ) → e < edges
      → d ≡ get_or delays e 0 → r ≡ get_or t.retiming (get_or from e 0) 0 → s ≡ get_or t.retiming (get_or to e 0) 0
      → head ≡ get_or t.start (get_or to e 0) 0 + t.length * (d + r) → tail ≡ get_or t.start (get_or from e 0) 0 + t.length * s
      → works ≡ get_or t.latency (get_or from e 0) 0 → Sides g p e head tail works
  sides-are e d r s head tail works l is-d is-r is-s is_head is_tail is_works =
      let u = ends.tail-in e l in
      let v = ends.head_in e l in
      record {
        is_head = is_head ∙ rw (told.is_tail e l, told.is_head e l, told.is_delay e l, timed.is_length, timed.starts _ v, timed.retimed, is-d, is-r);
        is_tail = is_tail ∙ rw (told.is_tail e l, told.is_head e l, timed.is_length, timed.starts _ u, timed.retimed, is-s);
        is_works = is_works ∙ rw (told.is_tail e l, timed.takes _ u);
      }

module _ (g : Loop) (p : Pair) (e head tail works : ℕ) (s : Sides g p e head tail works) where
  pub edge-breaks : head < tail + works → breaks g p e ≡ true
  unfolding breaks
  edge-breaks h =
      let broken : p.start (g.graph.head e) + p.length * (g.delay e + p.retiming (g.graph.tail e)) < p.start (g.graph.tail e) + latency g (g.graph.tail e) + p.length * p.retiming (g.graph.head e) = omega arith in
      lt-ltb _ _ broken

  pub edge-keeps : tail + works ≤ head → breaks g p e ≡ false
  unfolding breaks
  edge-keeps h =
      let kept : EdgeRule g p e = omega arith in
      le-ltb _ _ kept

-- ---- the nodes that hold a unit

module _ (l : ℕ) (ks ss : List ℕ) (c h q : ℕ) where
  pub busy-none : busy_in l ks ss c h q 0 ≡ 0
  unfolding busy_in sum_of span
  busy-none = refl

  pub busy-more : (v a : ℕ) → a ≡ held_on l (get_or ks v 0) (get_or ss v 0) c h q → busy_in l ks ss c h q (v + 1) ≡ busy_in l ks ss c h q v + a
  unfolding busy_in
  busy-more v a e = rw (add-one, e, sum-snoc, zero-add)

-- ---- how often an operation holds a step, as the code computes it

module _ (l s h q gap : ℕ) (from : 1 ≤ s) (to : s ≤ l) (one : 1 ≤ q) (within : q ≤ l) (is : gap ≡ (q + l - s) % l) where
  closed : held l s h q ≡ (h + l - 1 - gap) / l
  closed = held-closed l s q from to one within h ∙ ap (λ (x : ℕ). (h + l - 1 - x) / l) (sym is)

  pub gap-small : gap < l
  gap-small = omega (arith, mod-lt (q + l - s) {m = l} (omega arith))

  pub held-zero : h ≤ gap → 0 ≡ held l s h q
  held-zero le = sym (closed ∙ div-eq_of_lt {n = h + l - 1 - gap} {m = l} (omega (arith, gap-small)))

  more : (x r : ℕ) → x * l + r + 1 + gap ≡ h → r < l → held l s h q ≡ 1 + x
  more x r e below = closed ∙ (divided (1 + x) l r (h + l - 1 - gap) below (omega (arith, gap-small, add-mul 1 x l))).0

  pub held-once : gap < h → h ≤ l → 1 ≡ held l s h q
  held-once lt le = sym (more 0 (h - 1 - gap) (omega arith) (omega arith))

  pub held-round : (steps : ℕ) → steps ≡ h → gap < h → 1 + (steps - 1 - gap) / l ≡ held l s h q
  held-round steps e lt = rw e (sym (more ((h - 1 - gap) / l) ((h - 1 - gap) % l) (omega (arith, div-add-mod' (h - 1 - gap) l)) (mod-lt (h - 1 - gap) {m = l} (omega arith))))

-- and no more often than it has steps
bit-one : (b : Bool) → bit b ≤ 1
unfolding pick
bit-one true = omega arith
bit-one false = omega arith

pub held-few : (l s h q : ℕ) → held l s h q ≤ h
held-few l s zero q = omega (arith, held_none l s q)
held-few l s (suc h) q = omega (arith, held_more l s h q, held-few l s h q, bit-one (eqb (lands l s h) q))
