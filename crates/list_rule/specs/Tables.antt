-- The tables of the list rule: units in use by step and class, edges that a node waits for.
-- Assumes nothing.
use Rattle.std.specs.Prelude.{◌≡◌, Bool, ◌&&◌, ◌||◌, List, ℕ, ◌+◌, ◌*◌, ◌≤◌, ◌<◌, eqb, ltb, leb, length, get_or}
use Rattle.lists.specs.Pick.{pick}
use Rattle.lists.specs.Span.{span}
use Rattle.lists.specs.Fold.{count}
use Rattle.form.specs.declared.Class.{Class}
use Rattle.form.specs.Places.{no_class}
use Rattle.form.specs.Hold.{hold}
use Rattle.tables.specs.declared.Timetable.{Timetable}
use Rattle.list_rule.specs.Rule.{start_number}

-- the weights in a table
abbrev pub weight_of : List ℕ → ℕ → ℕ
weight_of weight v = get_or weight v 0

-- node v runs on one of the 4 classes, and holds its unit for at most 8 steps
pub record OnBoard (classes : List Class) (runs : List ℕ) (v : ℕ) : Type 0 where
  pub class-in : get_or runs v 0 < 4
  pub hold_in : hold (get_or classes (get_or runs v 0) no_class) ≤ 8

-- every node runs on one of the classes, and ends in the longest body where it is placed; with start 0 it does in any case
pub record EndsInBody (t : Timetable) : Type 0 where
  pub on-class : (v : ℕ) → v < t.nodes → get_or t.runs v 0 < t.classes
  pub in_body : (v : ℕ) → v < t.nodes → get_or t.start v 0 + get_or t.latency v 0 ≤ 513

-- ---- units in use: step q and class c have the place q * 4 + c

-- an operation on class k from step s on, 0 being not placed, holds its unit, one of class c, in step q; in step past no more
unfoldable pub holds_at : ℕ → ℕ → ℕ → ℕ → ℕ → Bool
holds_at s k past c q = ltb 0 s && (eqb k c && (leb s q && ltb q past))

-- one more in use where the operation holds a unit
pub record Raised (busy : List ℕ) (s k past : ℕ) (after : List ℕ) : Type 0 where
  pub size : length after ≡ 4128
  pub at : (c q : ℕ) → c < 4 → q < 1032 → get_or after (q * 4 + c) 0 ≡ get_or busy (q * 4 + c) 0 + pick (holds_at s k past c q) 1 0

-- node v holds a unit of class c in step q
abbrev pub holds_in : List Class → List ℕ → List ℕ → ℕ → ℕ → ℕ → Bool
holds_in classes runs s c q v =
    holds_at (start_number s v) (get_or runs v 0) (start_number s v + hold (get_or classes (get_or runs v 0) no_class)) c q

-- the units in use by the first n nodes
pub record Used (classes : List Class) (runs s : List ℕ) (n : ℕ) (busy : List ℕ) : Type 0 where
  pub size : length busy ≡ 4128
  pub at : (c q : ℕ) → c < 4 → q < 1032 → get_or busy (q * 4 + c) 0 ≡ count (holds_in classes runs s c q) (span 0 n)

-- ---- nodes that wait

-- an edge of so many delays, between nodes of these retimings, keeps its head from starting at p
unfoldable pub blocks_at : ℕ → ℕ → ℕ → ℕ → ℕ → ℕ → Bool
blocks_at d tail head s t p = eqb (d + tail) head && (eqb s 0 || ltb p (s + t))

module _ (from to delays retiming latency s : List ℕ) (p : ℕ) where
  -- edge e of the tables keeps its head so
  abbrev pub blocks_in : ℕ → Bool
  blocks_in e =
      let tail = get_or from e 0 in
      blocks_at (get_or delays e 0) (get_or retiming tail 0) (get_or retiming (get_or to e 0) 0) (start_number s tail) (get_or latency tail 0) p

  -- how many of the first n edges keep v from starting at p
  unfoldable pub waits_for : ℕ → ℕ → ℕ
  waits_for n v = count (λ e. eqb (get_or to e 0) v && blocks_in e) (span 0 n)

  -- a table of them
  pub record WaitsTabled (n : ℕ) (waits : List ℕ) : Type 0 where
    pub size : length waits ≡ 64
    pub at : (v : ℕ) → v < 64 → get_or waits v 0 ≡ waits_for n v
