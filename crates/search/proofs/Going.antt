-- The way of a search: the rest of it, from the pair at hand, equals the whole.
-- Assumes nothing.
use mathlib.Core.Path.{◌≡◌, refl, sym, ap, subst, ◌∙◌}
use mathlib.Core.Bool.{Bool, true, false, ◌||◌}
use mathlib.Core.Logic.{◌≢◌}
use mathlib.Core.List.{List}
use Prim.Native.Nat.{ℕ, suc, ◌+◌, ◌-◌, ◌≤◌, ◌<◌}
use native.Mathlib.Nat.{sub-zero, pos_of_ne-zero}
use native.Mathlib.Omega.{arith}
use borrow.Author.Tests.{lt-ltb, le-ltb, eq-eqb, ne_eqb}
use lib.Dec.{eqb, ltb}
use Rattle.lists.specs.Pick.{pick, pick_ind, pick_true, pick-false}
use Rattle.lists.specs.Both.{fails-or}
use Rattle.form.specs.declared.Form.{Form}
use Rattle.form.specs.Ranges.{WellFormed}
use Rattle.legal.specs.Loop.{loop_of}
use Rattle.legal.specs.Systems.{knotted}
use Rattle.tables.specs.declared.Timetable.{Timetable}
use Rattle.tables.specs.Times.{times_of}
use Rattle.plans.specs.Pairs.{with_pair, with_times, SameButPair, same-loop}
use Rattle.turning.specs.Rotation.{first_form, rotated_length, rotated, too_long, turned_form, rotated_or}
use Rattle.turning.specs.FirstLaws.{first-same, first-well-formed}
use Rattle.turning.specs.RotatedLaws.{rotated-next}
use Rattle.plans.specs.Tabled.{Tabled}
use Rattle.turning.specs.Lending.{Unknotted, Turnable, lent-next}
use Rattle.search.specs.Search.{Search, halved, stops, shorter, turn, begun, search_from, searched}
use Rattle.search.specs.Searching.{Answers}
use Rattle.search.specs.Halved.{halved-below, halved-small}
use Rattle.search.specs.Good.{GoodPair, first_good, rotated-good}

abbrev at : Form → ℕ → Form → ℕ → Search
at now steps best rotations = record { now = now; steps = steps; best = best; rotations = rotations }

-- the tables are those of the form's first schedule
pub record Begun (f : Form) (edges : ℕ) (from to delays : List ℕ) (t : Timetable) : Type 0 where
  pub good : WellFormed f
  pub free : knotted (loop_of f) ≡ false
  pub first : Tabled (first_form f) edges from to delays t

pub begun_first : (f : Form) (edges : ℕ) (from to delays : List ℕ) (t : Timetable) → Unknotted f edges from to delays t → (u : Timetable) → u ≡ times_of (first_form f) → Begun f edges from to delays u
begun_first f edges from to delays t k u is =
    let w = k.tabled.lent.good in
    record {
      good = w;
      free = k.free;
      first = record {
        lent = lent-next f (first_form f) edges from to delays t u k.tabled.lent (same-loop f (first_form f) (first-same f w k.free)) (first-well-formed f w k.free) is;
        is = is;
      };
    }

-- the timetables at hand are those of two forms of the search, which differ from the first in their pairs alone
pub record Going (f : Form) (count size : ℕ) (now best : Timetable) (steps rotations : ℕ) : Type 0 where
  pub at_hand : Form
  pub shortest : Form
  pub is_now : now ≡ times_of at_hand
  pub is_best : best ≡ times_of shortest
  pub good : GoodPair at_hand
  pub same_now : SameButPair f at_hand
  pub same_best : SameButPair f shortest
  pub within : rotations ≤ count
  pub small : steps < 65536
  pub rest : search_from (count - rotations) (at at_hand steps shortest rotations) ≡ searched f count size

pub going-none : (f : Form) (edges : ℕ) (from to delays : List ℕ) (first : Timetable) → Begun f edges from to delays first → (count size : ℕ) → size < 65536 → Going f count size first first size 0
unfolding searched begun
going-none f edges from to delays first k count size small = record {
  at_hand = first_form f;
  shortest = first_form f;
  is_now = k.first.is;
  is_best = k.first.is;
  good = first_good f k.good k.free;
  same_now = first-same f k.good k.free;
  same_best = first-same f k.good k.free;
  within = omega arith;
  small = small;
  rest = rw (sub-zero count);
}

-- the shorter of two timetables is that of the shorter form
module _ (x y : Form) (old new : Timetable) (is-old : old ≡ times_of x) (is-new : new ≡ times_of y) where
  lengths : (old.length ≡ x.header.length) × (new.length ≡ y.header.length)
  unfolding times_of
  lengths = (ap (λ (t : Timetable). t.length) is-old, ap (λ (t : Timetable). t.length) is-new)

  pub shorter-new : new.length < old.length → new ≡ times_of (shorter x y)
  unfolding shorter
  shorter-new l = is-new ∙ ap times_of (sym (pick_true (ltb y.header.length x.header.length) y x (lt-ltb y.header.length x.header.length (omega (arith, lengths)))))

  pub shorter-old : old.length ≤ new.length → old ≡ times_of (shorter x y)
  unfolding shorter
  shorter-old l = is-old ∙ ap times_of (sym (pick-false (ltb y.header.length x.header.length) y x (le-ltb y.header.length x.header.length (omega (arith, lengths)))))

-- a form rotated has its length, too long or not
or-length : (f : Form) (s : ℕ) → (rotated_or f s).header.length ≡ rotated_length f s
unfolding rotated_or turned_form rotated with_pair
or-length f s = pick_ind (λ (g : Form). g.header.length ≡ rotated_length f s) (too_long f s) (turned_form f s) (rotated f s) (λ _. refl) (λ _. refl)

either : (a b : Bool) → b ≡ true → a || b ≡ true
either true b e = refl
either false b e = e

module _ (f : Form) (count size : ℕ) (now best : Timetable) (steps rotations : ℕ) (k : Going f count size now best steps rotations) where
  -- the search as it is here
  unfoldable here : Search
  here = at k.at_hand steps k.shortest rotations

  one_more : rotations < count → search_from (count - rotations) here ≡ pick (stops here) here (search_from (count - (rotations + 1)) (turn here))
  unfolding search_from
  one_more l =
      let left : count - rotations ≡ suc (count - (rotations + 1)) = omega arith in
      ap (λ (n : ℕ). search_from n here) left

  answered : here ≡ search_from (count - rotations) here → Answers f count size best rotations
  unfolding here
  answered e =
      let whole : here ≡ searched f count size = e ∙ k.rest in
      (ap (with_times f) k.is_best ∙ sym k.same_best ∙ ap (λ (x : Search). x.best) whole, ap (λ (x : Search). x.rotations) whole)

  -- all rotations are made
  pub going_end : count ≤ rotations → Answers f count size best rotations
  unfolding search_from
  going_end l = let left : 0 ≡ count - rotations = omega arith in answered (ap (λ (n : ℕ). search_from n here) left)

  -- the search stops
  stopped : rotations < count → stops here ≡ true → Answers f count size best rotations
  stopped l e = answered (sym (one_more l ∙ pick_true (stops here) here _ e))

  now-length : now.length ≡ k.at_hand.header.length
  unfolding times_of
  now-length = ap (λ (t : Timetable). t.length) k.is_now

  pub going-some : 1 ≤ now.length
  going-some = omega (arith, now-length, k.good.some)

  module _ (s : ℕ) (halves : s ≡ halved 17 now.length steps) where
    halves-here : s ≡ halved 17 k.at_hand.header.length steps
    halves-here = halves ∙ ap (λ (n : ℕ). halved 17 n steps) now-length

    stops-is : stops here ≡ eqb s 0 || too_long k.at_hand s
    unfolding stops here
    stops-is = ap (λ (n : ℕ). eqb n 0 || too_long k.at_hand n) (sym halves-here)

    -- nothing to rotate
    pub going-zero : rotations < count → s ≡ 0 → Answers f count size best rotations
    going-zero l e = stopped l (stops-is ∙ ap (λ (b : Bool). b || too_long k.at_hand s) (eq-eqb s 0 e))

    below : s < k.at_hand.header.length
    below = rw halves-here (halved-below k.at_hand.header.length k.good.some steps k.small)

    -- a size halved and not 0 is one of a rotation
    pub going-turnable : s ≢ 0 → (edges : ℕ) (from to delays : List ℕ) (first : Timetable) → Begun f edges from to delays first → Turnable k.at_hand edges from to delays now s
    going-turnable n edges from to delays first b =
        let loop : loop_of k.at_hand ≡ loop_of (first_form f) = same-loop f k.at_hand k.same_now ∙ sym (same-loop f (first_form f) (first-same f b.good b.free)) in
        record {
          tabled = record {
            lent = lent-next (first_form f) k.at_hand edges from to delays first now b.first.lent loop k.good.well_formed k.is_now;
            is = k.is_now;
          };
          legal = k.good.legal;
          some = pos_of_ne-zero n;
          below = below;
        }

    module _ (t : Timetable) (is : t ≡ times_of (rotated_or k.at_hand s)) where
      length-is : t.length ≡ rotated_length k.at_hand s
      unfolding times_of
      length-is = ap (λ (u : Timetable). u.length) is ∙ or-length k.at_hand s

      -- the rotation is Long
      pub going-long : rotations < count → 512 < t.length → Answers f count size best rotations
      unfolding too_long
      going-long l long =
          stopped l (stops-is ∙ either (eqb s 0) (too_long k.at_hand s) (lt-ltb 512 (rotated_length k.at_hand s) (omega (arith, length-is))))

      module _ (some : s ≢ 0) (short : t.length ≤ 512) where
        fits : too_long k.at_hand s ≡ false
        unfolding too_long
        fits = le-ltb 512 (rotated_length k.at_hand s) (omega (arith, length-is))

        rotated-is : t ≡ times_of (rotated k.at_hand s)
        unfolding rotated_or
        rotated-is = is ∙ ap times_of (pick-false (too_long k.at_hand s) _ _ fits)

        next-same : SameButPair f (rotated k.at_hand s)
        next-same = rotated-next k.at_hand k.good.well_formed k.good.legal s (pos_of_ne-zero some) below f k.same_now

        turned : at (rotated k.at_hand s) s (shorter k.shortest (rotated k.at_hand s)) (rotations + 1) ≡ turn here
        unfolding turn here
        turned = ap (λ (u : ℕ). at (rotated k.at_hand u) u (shorter k.shortest (rotated k.at_hand u)) (rotations + 1)) halves-here

        -- one rotation more
        pub going-turn : rotations < count → (b : Timetable) → ((x y : Form) → best ≡ times_of x → t ≡ times_of y → b ≡ times_of (shorter x y)) → (n : ℕ) → n ≡ rotations + 1
            → Going f count size t b s n
        unfolding here shorter
        going-turn l b choice n more = subst (Going f count size t b s) (sym more) (record {
          at_hand = rotated k.at_hand s;
          shortest = shorter k.shortest (rotated k.at_hand s);
          is_now = rotated-is;
          is_best = choice k.shortest (rotated k.at_hand s) k.is_best rotated-is;
          good = rotated-good k.at_hand k.good s (record { some = pos_of_ne-zero some; below = below; fits = fits });
          same_now = next-same;
          same_best = pick_ind (SameButPair f) (ltb (rotated k.at_hand s).header.length k.shortest.header.length) (rotated k.at_hand s) k.shortest (λ _. next-same) (λ _. k.same_best);
          within = omega arith;
          small = rw halves (halved-small now.length going-some steps k.small);
          rest =
              ap (search_from (count - (rotations + 1))) turned
              ∙ sym (one_more l ∙ pick-false (stops here) here _ (stops-is ∙ fails-or (eqb s 0) (too_long k.at_hand s) (ne_eqb s 0 some) fits))
              ∙ k.rest;
        })
