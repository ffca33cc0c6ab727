-- Nodes that wait: edges counted at their heads.
-- Assumes nothing.
use mathlib.Core.Path.{◌≡◌, refl, sym, ap, ◌∙◌}
use mathlib.Core.Bool.{Bool, ◌&&◌}
use mathlib.Core.List.{List}
use Prim.Native.Nat.{ℕ, ◌+◌, ◌≤◌, ◌<◌}
use native.Mathlib.Omega.{arith}
use native.Mathlib.Decide.{ℕ_discrete}
use lib.Dec.{eqb}
use lib.ListN.{get_or, set, replicate, length-set, length-replicate}
use lib.Seq.{get_or-set_same, get_or-set_other}
use borrow.Author.Tests.{eq-eqb, ne_eqb}
use Rattle.lists.specs.Pick.{pick}
use Rattle.lists.specs.Span.{span}
use Rattle.lists.specs.Fold.{count}
use Rattle.lists.specs.Count.{count_same}
use Rattle.lists.specs.Place.{zeros-at}
use Rattle.legal.specs.Loop.{Loop, Pair}
use Rattle.tables.specs.declared.Timetable.{Timetable}
use Rattle.tables.specs.Edges.{Ends, Told}
use Rattle.tables.specs.Times.{Timed}
use Rattle.reach.specs.Weight.{tight}
use Rattle.list_rule.specs.Rule.{start_number, blocks, ready}
use Rattle.list_rule.specs.Tables.{blocks_at, blocks_in, waits_for, WaitsTabled}
use Rattle.list_rule.proofs.Laws.{adds_none, adds-small, count-more, count-within}

module _ (from to delays retiming latency s : List ℕ) (p : ℕ) where
  abbrev Counted : ℕ → List ℕ → Type 0
  Counted = WaitsTabled from to delays retiming latency s p

  abbrev keeps : ℕ → Bool
  keeps = blocks_in from to delays retiming latency s p

  pub waits-none : Counted 0 (replicate 64 0)
  unfolding waits_for count span
  waits-none = record { size = length-replicate {A = ℕ} 64 0; at = λ v h. zeros-at 64 v }

  pub waits-all : (n e : ℕ) (waits : List ℕ) → n ≡ e → Counted e waits → Counted n waits
  waits-all n e waits h w = rw h w

  module _ (e : ℕ) (waits : List ℕ) (w : Counted e waits) where
    abbrev tail : ℕ
    tail = get_or from e 0

    abbrev head : ℕ
    head = get_or to e 0

    -- what the code asks of edge e
    abbrev asked : Bool
    asked = blocks_at (get_or delays e 0) (get_or retiming tail 0) (get_or retiming head 0) (start_number s tail) (get_or latency tail 0) p

    module _ (b : ℕ) (is_b : b ≡ pick asked 1 0) (h : head < 64) where
      pub waits-fits : get_or waits head 0 + b ≤ e + 1
      unfolding waits_for
      waits-fits = omega (arith, w.at head h, adds-small asked, count-within (λ d. eqb (get_or to d 0) head && keeps d) e)

      waits-next : (v : ℕ) → waits_for from to delays retiming latency s p (e + 1) v ≡ waits_for from to delays retiming latency s p e v + pick (eqb head v && asked) 1 0
      unfolding waits_for
      waits-next v = count-more (λ d. eqb (get_or to d 0) v && keeps d) e

      pub waits-more : Counted (e + 1) (set waits head (get_or waits head 0 + b))
      waits-more = record {
        size = length-set waits head (get_or waits head 0 + b) ∙ w.size;
        at = λ v l. waits-next-at v l (ℕ_discrete head v);
      }
        where
          waits-next-at : (v : ℕ) → v < 64 → Dec (head ≡ v) → get_or (set waits head (get_or waits head 0 + b)) v 0 ≡ waits_for from to delays retiming latency s p (e + 1) v
          waits-next-at v l (yes q) =
              rw (← q) (omega (arith, get_or-set_same waits head (get_or waits head 0 + b) 0 (omega (arith, w.size)), w.at head h, is_b, rw (eq-eqb head head refl) at (waits-next head)))
          waits-next-at v l (no q) =
              omega (arith, get_or-set_other waits head v (get_or waits head 0 + b) 0 (λ x. q (sym x)), w.at v l, waits-next v, adds_none (eqb head v && asked) (rw (ne_eqb head v q)))

-- what a loop's edges keep
module _ (g : Loop) (pair : Pair) (edges : ℕ) (from to delays : List ℕ) (t : Timetable) (ends : Ends t.nodes edges from to)
    (told : Told g t.nodes edges from to delays) (timed : Timed g pair t) (s : List ℕ) (p : ℕ) where
  abbrev keeps_in : ℕ → Bool
  keeps_in = blocks_in from to delays t.retiming t.latency s p

  blocks-in : (e : ℕ) → e < edges → blocks g pair.retiming s p e ≡ keeps_in e
  unfolding blocks tight blocks_at
  blocks-in e l =
      rw (told.is_delay e l, told.is_tail e l, told.is_head e l, timed.retimed (get_or from e 0), timed.retimed (get_or to e 0), timed.takes (get_or from e 0) (ends.tail-in e l))

  -- a node that no edge keeps is ready
  pub ready-is : (waits : List ℕ) → WaitsTabled from to delays t.retiming t.latency s p edges waits → (v : ℕ) → v < 64
      → ready g pair.retiming s p v ≡ eqb (get_or waits v 0) 0
  unfolding ready waits_for
  ready-is waits marks v l =
      let into : ℕ → Bool = λ e. eqb (g.graph.head e) v && blocks g pair.retiming s p e in
      let kept : ℕ → Bool = λ e. eqb (get_or to e 0) v && keeps_in e in
      let same : (e : ℕ) → e < edges → into e ≡ kept e = λ e h. rw (told.is_head e h, blocks-in e h) in
      ap (λ (n : ℕ). eqb n 0) (ap (λ (n : ℕ). count into (span 0 n)) told.all_edges ∙ count_same into kept edges same ∙ sym (marks.at v l))
