-- What the proofs of the fit share: how late an edge is, tables filled place by place, and the top of values as a fold.
-- Assumes nothing.
use Rattle.std.specs.Prelude.{fold}
use mathlib.Core.Path.{◌≡◌, sym, ◌∙◌}
use mathlib.Core.List.{List, [], ◌∷◌}
use Prim.Native.Nat.{ℕ, ◌+◌, ◌-◌, ◌/◌, ◌≤◌, ◌<◌, max}
use native.Mathlib.Nat.{div-eq_of_lt}
use native.Mathlib.Omega.{arith}
use lib.ListN.{length, get_or, set}
use Rattle.lists.specs.Place.{filled_more}
use Rattle.lists.specs.Fold.{top}
use Rattle.lists.specs.Quotient.{divided}
use Rattle.legal.specs.Loop.{Loop, Pair}
use Rattle.tables.specs.declared.Timetable.{Timetable}
use Rattle.tables.specs.Edges.{Ends, Told}
use Rattle.tables.specs.Times.{Timed}
use Rattle.legal.specs.Systems.{lateness}
use Rattle.fit.specs.Tables.{Limited}

-- ---- how late an edge is, as the code computes it

module _ (l f x : ℕ) (one : 1 ≤ x) (to : x ≤ l) where
  pub late-none : f ≤ x → 0 ≡ (f + (l - 1) - x) / l
  late-none h = sym (div-eq_of_lt {n = f + (l - 1) - x} {m = l} (omega arith))

  pub late-one : x < f → f ≤ x + l → 1 ≡ (f + (l - 1) - x) / l
  late-one h k = sym (divided 1 l (f - 1 - x) (f + (l - 1) - x) (omega arith) (omega arith)).0

-- ---- the limits

module _ (g : Loop) (p : Pair) where
  pub limited-more : (e gain cost : ℕ) (gains costs : List ℕ) → e < length gains → e < length costs → gain ≡ g.delay e → cost ≡ lateness g p e
      → Limited g p e gains costs → Limited g p (e + 1) (set gains e gain) (set costs e cost)
  limited-more e gain cost gains costs h k is-gain is-cost t = record {
    gain = filled_more g.delay gains e gain h is-gain t.gain;
    cost = filled_more (lateness g p) costs e cost k is-cost t.cost;
  }

  pub limited-all : (n e : ℕ) (gains costs : List ℕ) → n ≤ e → Limited g p e gains costs → Limited g p n gains costs
  limited-all n e gains costs h t = record { gain = λ d l. t.gain d (omega arith); cost = λ d l. t.cost d (omega arith) }

  -- what the code reads of an edge
  module _ (edges : ℕ) (from to delays : List ℕ) (t : Timetable) (ends : Ends t.nodes edges from to) (told : Told g t.nodes edges from to delays) (timed : Timed g p t) where
    pub gain-is : (e d : ℕ) → e < edges → d ≡ get_or delays e 0 → d ≡ g.delay e
    gain-is e d l is = is ∙ sym (told.is_delay e l)

    pub cost-is : (e c : ℕ) → e < edges
        → c ≡ (get_or t.start (get_or from e 0) 0 + get_or t.latency (get_or from e 0) 0 + (t.length - 1) - get_or t.start (get_or to e 0) 0) / t.length → c ≡ lateness g p e
    unfolding lateness
    cost-is e c l is =
        let u = ends.tail-in e l in
        let v = ends.head_in e l in
        is ∙ rw (told.is_tail e l, told.is_head e l, timed.starts _ u, timed.starts _ v, timed.takes _ u, timed.is_length)

-- ---- the top of values, as a fold over them

pub max-fold : (x : ℕ) (xs : List ℕ) → fold max x xs ≡ max x (top xs)
unfolding top
max-fold x [] = omega arith
max-fold x (y ∷ ys) = omega (arith, max-fold (max x y) ys)
