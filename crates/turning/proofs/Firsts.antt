-- The way of a first schedule: a timetable without a pair, the list rule, the length.
-- Assumes nothing.
use mathlib.Core.Path.{◌≡◌, sym, ap, ◌∙◌}
use mathlib.Core.List.{List}
use Prim.Native.Nat.{ℕ, ◌+◌, ◌≤◌, ◌<◌}
use native.Mathlib.Omega.{arith}
use lib.ListN.{get_or, replicate}
use Rattle.lists.specs.Place.{zeros-at}
use Rattle.form.specs.declared.Form.{Form}
use Rattle.legal.specs.Loop.{graph_of, loop_of}
use Rattle.legal.specs.Shape.{sound-form}
use Rattle.tables.specs.declared.Timetable.{Timetable}
use Rattle.tables.specs.Times.{times_of}
use Rattle.list_rule.specs.Rule.{start_number, list_rule_of, length_of}
use Rattle.list_rule.specs.FirstLegal.{first_starts}
use Rattle.plans.specs.Pairs.{times_with, pair-times}
use Rattle.turning.specs.Rotation.{first_form}
use Rattle.turning.specs.FirstLaws.{first-table, first-soon}
use Rattle.turning.specs.Lending.{Unknotted}

module _ (f : Form) (edges : ℕ) (from to delays : List ℕ) (t : Timetable) (k : Unknotted f edges from to delays t) where
  pub first-early : (v : ℕ) → v < t.nodes → start_number (replicate 64 0) v + get_or t.latency v 0 ≤ 513
  unfolding loop_of graph_of
  first-early v l =
      let lent = k.tabled.lent in
      omega (arith, zeros-at 64 v, lent.timed.takes v l, (sound-form f lent.good).short v (omega (arith, lent.timed.all-nodes)))

  -- the retimings are 0
  pub first-rule : list_rule_of (loop_of f) (λ v. get_or (replicate 64 0) v 0) (replicate 64 0) ≡ first_starts (loop_of f)
  unfolding first_starts
  first-rule = λ i. list_rule_of (loop_of f) (λ v. zeros-at 64 v i) (replicate 64 0)

  pub first-places-soon : (v : ℕ) → v < t.nodes → start_number (list_rule_of (loop_of f) (λ u. get_or (replicate 64 0) u 0) (replicate 64 0)) v ≤ 1023
  unfolding loop_of graph_of
  first-places-soon v l =
      omega (arith, ap (λ (xs : List ℕ). start_number xs v) first-rule, first-soon f k.tabled.lent.good k.free v (omega (arith, k.tabled.lent.timed.all-nodes)))

  -- the timetable with the starts, and the length, is that of the first schedule
  pub first-is : (r : Timetable) → r ≡ times_with t (first_starts (loop_of f)) (length_of (loop_of f) (first_starts (loop_of f))) (replicate 64 0) → r ≡ times_of (first_form f)
  unfolding first_form loop_of graph_of
  first-is r is =
      is
      ∙ ap (λ (u : Timetable). times_with u (first_starts (loop_of f)) (length_of (loop_of f) (first_starts (loop_of f))) (replicate 64 0)) k.tabled.is
      ∙ sym (pair-times f k.tabled.lent.good.nodes.1 (first_starts (loop_of f)) (first-table (loop_of f)) (length_of (loop_of f) (first_starts (loop_of f))) (replicate 64 0))
