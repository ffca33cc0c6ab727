-- Units in use: the table raised for an operation, and the use of every node that is placed.
-- Assumes nothing.
use mathlib.Core.Path.{◌≡◌, refl, sym, ap, ◌∙◌}
use mathlib.Core.Bool.{true, false}
use mathlib.Core.Logic.{◌≢◌}
use mathlib.Core.List.{List}
use Prim.Native.Nat.{ℕ, ◌+◌, ◌*◌, ◌≤◌, ◌<◌}
use native.Mathlib.Omega.{arith}
use native.Mathlib.Decide.{ℕ_discrete, dec_lt}
use lib.Dec.{eqb, ltb}
use lib.ListN.{length, get_or, set, length-set}
use lib.Seq.{get_or-set_same, get_or-set_other}
use borrow.Author.Tests.{le-ltb, lt-ltb, le-leb, lt-leb, eq-eqb, ne_eqb}
use Rattle.lists.specs.Pick.{pick, pick_ind}
use Rattle.lists.specs.Span.{span}
use Rattle.lists.specs.Fold.{count}
use Rattle.lists.specs.Count.{count_same}
use Rattle.form.specs.declared.Class.{Class}
use Rattle.form.specs.Places.{no_class}
use Rattle.form.specs.Hold.{hold}
use Rattle.legal.specs.Loop.{Loop, Pair}
use Rattle.tables.specs.declared.Timetable.{Timetable}
use Rattle.tables.specs.Times.{SoundTimes, Timed}
use Rattle.list_rule.specs.Rule.{start_number, uses, use_of}
use Rattle.list_rule.specs.Tables.{OnBoard, EndsInBody, holds_at, holds_in, Raised, Used}
use Rattle.list_rule.proofs.Laws.{both_false, adds_one, adds_none, count-more, count-within, count-change}

module _ (s k c q : ℕ) where
  pub not-placed : (past : ℕ) → s ≡ 0 → holds_at s k past c q ≡ false
  unfolding holds_at
  not-placed past e = rw (le-ltb 0 s (omega arith))

  other-class : (past : ℕ) → k ≢ c → holds_at s k past c q ≡ false
  unfolding holds_at
  other-class past h = rw (ne_eqb k c h) (both_false (ltb 0 s))

  before-past : (past : ℕ) → past ≤ q → holds_at s k past c q ≡ false
  unfolding holds_at
  before-past past h = rw (le-ltb q past h, both_false, both_false, both_false)

  in_use : (past : ℕ) → 0 < s → k ≡ c → s ≤ q → q < past → holds_at s k past c q ≡ true
  unfolding holds_at
  in_use past a e b h = rw (lt-ltb 0 s a, eq-eqb k c e, le-leb s q b, lt-ltb q past h)

  -- a step more does not tell for other steps
  one_more : (past : ℕ) → q ≢ past → holds_at s k (past + 1) c q ≡ holds_at s k past c q
  unfolding holds_at
  one_more past ne = rw test
    where
      test : ltb q (past + 1) ≡ ltb q past
      test = elim (dec_lt q past) [
        | yes h ↦ lt-ltb q (past + 1) (omega arith) ∙ sym (lt-ltb q past h)
        | no h ↦ le-ltb q (past + 1) (omega arith) ∙ sym (le-ltb q past (omega arith))
      ]

raised-as : (busy : List ℕ) (s k past : ℕ) → length busy ≡ 4128 → ((c q : ℕ) → holds_at s k past c q ≡ false) → Raised busy s k past busy
raised-as busy s k past l none = record {
  size = l;
  at = λ c q a b. omega (arith, adds_none (holds_at s k past c q) (none c q));
}

pub raised-not-placed : (busy : List ℕ) (s k past : ℕ) → length busy ≡ 4128 → s ≡ 0 → Raised busy s k past busy
raised-not-placed busy s k past l e = raised-as busy s k past l (λ c q. not-placed s k c q past e)

pub raised-none : (busy : List ℕ) (s k : ℕ) → length busy ≡ 4128 → Raised busy s k s busy
unfolding holds_at
raised-none busy s k l = raised-as busy s k s l none
  where
    none : (c q : ℕ) → holds_at s k s c q ≡ false
    none c q = elim (dec_lt q s) [
      | yes h ↦ rw (lt-leb s q h, both_false, both_false)
      | no h ↦ before-past s k c q s (omega arith)
    ]

-- the place of step q and class k is not that of another step or class
apart : (q k j c : ℕ) → k < 4 → c < 4 → (k ≡ c → j ≡ q → ⊥) → j * 4 + c ≢ q * 4 + k
apart q k j c a b h e = h (omega arith) (omega arith)

module _ (busy : List ℕ) (s k q : ℕ) (after : List ℕ) (r : Raised busy s k q after) (k-in : k < 4) (q-in : q < 1032) (from : s ≤ q) (placed : 0 < s) where
  -- in the step itself nothing was raised yet
  pub raised-here : get_or after (q * 4 + k) 0 ≡ get_or busy (q * 4 + k) 0
  raised-here = omega (arith, r.at k q k-in q-in, adds_none (holds_at s k q k q) (before-past s k k q q (omega arith)))

  unfoldable new : List ℕ
  new = set after (q * 4 + k) (get_or after (q * 4 + k) 0 + 1)

  other : (c j : ℕ) → c < 4 → j < 1032 → (k ≡ c → j ≡ q → ⊥) → holds_at s k (q + 1) c j ≡ holds_at s k q c j
      → get_or new (j * 4 + c) 0 ≡ get_or busy (j * 4 + c) 0 + pick (holds_at s k (q + 1) c j) 1 0
  unfolding new
  other c j a b ne e = get_or-set_other after (q * 4 + k) (j * 4 + c) _ 0 (apart q k j c k-in a ne) ∙ rw e (r.at c j a b)

  raised_at : (c j : ℕ) → c < 4 → j < 1032 → Dec (k ≡ c) → Dec (j ≡ q) → get_or new (j * 4 + c) 0 ≡ get_or busy (j * 4 + c) 0 + pick (holds_at s k (q + 1) c j) 1 0
  unfolding new
  raised_at c j a b (yes e) (yes f) =
      rw (← e, f) (omega (arith, get_or-set_same after (q * 4 + k) (get_or after (q * 4 + k) 0 + 1) 0 (omega (arith, r.size)), raised-here, adds_one (holds_at s k (q + 1) k q) (in_use s k k q (q + 1) placed refl from (omega arith))))
  raised_at c j a b (yes e) (no f) = other c j a b (λ x y. f y) (one_more s k c j q f)
  raised_at c j a b (no e) f = other c j a b (λ x y. e x) (other-class s k c j (q + 1) e ∙ sym (other-class s k c j q e))

  pub raised-more : (place : ℕ) → place ≡ q * 4 + k → Raised busy s k (q + 1) (set after place (get_or after place 0 + 1))
  unfolding new
  raised-more place e = rw e (record { size = length-set after (q * 4 + k) (get_or after (q * 4 + k) 0 + 1) ∙ r.size; at = λ c j a b. raised_at c j a b (ℕ_discrete k c) (ℕ_discrete j q) })

-- ---- the use of nodes

module _ (classes : List Class) (runs : List ℕ) where
  abbrev pub row_of : ℕ → Class
  row_of v = get_or classes (get_or runs v 0) no_class

  pub used-none : (s busy : List ℕ) → length busy ≡ 4128 → ((i : ℕ) → get_or busy i 0 ≡ 0) → Used classes runs s 0 busy
  unfolding count span
  used-none s busy l z = record { size = l; at = λ c q a b. z (q * 4 + c) }

  pub used-more : (s : List ℕ) (v held : ℕ) (busy after : List ℕ) → held ≡ hold (row_of v)
      → Used classes runs s v busy → Raised busy (start_number s v) (get_or runs v 0) (start_number s v + held) after → Used classes runs s (v + 1) after
  used-more s v held busy after is_held_lem u r = record {
    size = r.size;
    at = λ c q a b. r.at c q a b ∙ rw (u.at c q a b, is_held_lem) (sym (count-more (holds_in classes runs s c q) v));
  }

  pub used_all : (s : List ℕ) (n v : ℕ) (busy : List ℕ) → n ≡ v → Used classes runs s v busy → Used classes runs s n busy
  used_all s n v busy e u = rw e u

  pub used-fits : (s : List ℕ) (n : ℕ) (busy : List ℕ) → n ≤ 64 → Used classes runs s n busy → (c q : ℕ) → c < 4 → q < 1032 → get_or busy (q * 4 + c) 0 < 255
  used-fits s n busy h u c q a b = omega (arith, u.at c q a b, count-within (holds_in classes runs s c q) n)

  -- a node placed at p uses what it holds, and the others what they used
  pub used-put : (s : List ℕ) (n v p held : ℕ) (busy after : List ℕ) → v < n → v < length s → start_number s v ≡ 0 → held ≡ hold (row_of v)
      → Used classes runs s n busy → Raised busy p (get_or runs v 0) (p + held) after → Used classes runs (set s v p) n after
  used-put s n v p held busy after v-in v-len none is_held_lem u r = record {
    size = r.size;
    at = λ c q a b. r.at c q a b ∙ rw (u.at c q a b) (sym (count-change (holds_in classes runs s c q) (holds_in classes runs (set s v p) c q) n v v-in (others c q) (before c q) ∙ rw (new c q)));
  }
    where
      others : (c q u : ℕ) → u ≢ v → holds_in classes runs (set s v p) c q u ≡ holds_in classes runs s c q u
      others c q u ne = ap (λ (a : ℕ). holds_at a (get_or runs u 0) (a + hold (row_of u)) c q) (get_or-set_other s v u p 0 ne)

      before : (c q : ℕ) → holds_in classes runs s c q v ≡ false
      before c q = not-placed _ _ c q _ none

      new : (c q : ℕ) → holds_in classes runs (set s v p) c q v ≡ holds_at p (get_or runs v 0) (p + held) c q
      new c q = ap (λ (a : ℕ). holds_at a (get_or runs v 0) (a + hold (row_of v)) c q) (get_or-set_same s v p 0 v-len) ∙ rw is_held_lem

-- a timetable's nodes run on its classes, each for at most 8 steps
pub on-board : (t : Timetable) → SoundTimes t → EndsInBody t → (v : ℕ) → v < t.nodes → OnBoard t.class t.runs v
unfolding hold
on-board t sound ends v l =
    let k = get_or t.class (get_or t.runs v 0) no_class in
    let good = sound.class (get_or t.runs v 0) (ends.on-class v l) in
    record {
      class-in = sound.class-in v l;
      hold_in = pick_ind (λ n. n ≤ 8) (eqb k.pipelined 0) k.latency 1 (λ e. good.latency.1) (λ e. omega arith);
    }

-- what a loop's nodes use is what the timetable's hold
module _ (g : Loop) (p : Pair) (t : Timetable) (timed : Timed g p t) where
  uses-holds : (s : List ℕ) (c q v : ℕ) → v < t.nodes → uses g s c q v ≡ holds_in t.class t.runs s c q v
  unfolding uses holds_at
  uses-holds s c q v l = rw (timed.runs_on v l, timed.is_class c) (elim (ℕ_discrete (get_or t.runs v 0) c) [
    | yes e ↦ rw e
    | no e ↦ rw (ne_eqb (get_or t.runs v 0) c e)
  ])

  pub in-use-is : (s : List ℕ) (c q : ℕ) → use_of g s c q ≡ count (holds_in t.class t.runs s c q) (span 0 t.nodes)
  unfolding use_of
  in-use-is s c q = ap (λ (n : ℕ). count (uses g s c q) (span 0 n)) timed.all-nodes ∙ count_same (uses g s c q) (holds_in t.class t.runs s c q) t.nodes (uses-holds s c q)
