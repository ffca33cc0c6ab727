-- The ways that the plain loop goes: a knot, no room, done; through a form and through a record.
-- Assumes nothing.
use Rattle.std.specs.Prelude.{None, Some, Result, Ok, Err, IfErr, IsErrAnd, MatchResult}
use mathlib.Core.Path.{◌≡◌, refl, sym, ◌∙◌, ap, subst}
use mathlib.Core.Bool.{true, false}
use mathlib.Core.Logic.{◌≢◌}
use mathlib.Core.List.{List}
use Prim.Native.Nat.{ℕ, ◌*◌, ◌≤◌, ◌<◌}
use native.Mathlib.Omega.{arith}
use borrow.Author.Tests.{ltb-false}
use lib.Dec.{ltb}
use lib.ListN.{length, get_or, take}
use Rattle.lists.specs.Pick.{pick_ind, pick_true, pick-false, both_ways}
use Rattle.answer.specs.Refused.{Verdict, number_of, fine, refused_fine}
use Rattle.answer.specs.Outcome.{no_cycle}
use Rattle.answer.specs.declared.Cycle.{Cycle}
use Rattle.answer.specs.declared.Refused.{Refused}
use Rattle.answer.specs.declared.Refusal.{Refusal}
use Rattle.answer.specs.declared.Refusal.TheVariants.{Knot}
use Rattle.form.specs.declared.Form.{Form}
use Rattle.form.specs.Ranges.{WellFormed}
use Rattle.sorted.specs.Order.{ascending}
use Rattle.reader.specs.Outcome.{Record, record_in}
use Rattle.reader.specs.Reading.{read_form}
use Rattle.legal.specs.Loop.{graph_of, loop_of, pair_of}
use Rattle.legal.specs.Shape.{sound-form}
use Rattle.legal.specs.Systems.{knotted}
use Rattle.legal.specs.Handed.{Handed, handed-none, handed-knot}
use Rattle.machine.specs.Unique.{Ranks}
use Rattle.knots.specs.declared.Tied.{Tied}
use Rattle.knots.specs.Outcome.{ranking_in}
use Rattle.knots.specs.Found.{KnotFound, RanksFound}
use Rattle.tables.specs.Edges.{Ends, Told, ends-form, told-form}
use Rattle.record.specs.Early.{read-early}
use Rattle.record.specs.ReadFirst.{first-refused, first-asked}
use Rattle.plain.specs.Outcome.{Looped, looped_in}
use Rattle.plain.specs.Answer.{room_of, plain_of, plain_record, FormLooped, RecordLooped}
use Rattle.plain.specs.Ascending.{ascending-sorts}
use Rattle.plain.specs.Looping.{looped}
use Rattle.plain.specs.Settled.{looped-plain, looped-kept}

-- ---- room

-- what a refusal for room tells: it is none, and there is room, or it is another than Knot and NoRetiming
record Roomy (nodes k starts values : ℕ) (r : Verdict) : Type 0 where
  none : fine r ≡ true → r ≡ None
  for_starts : fine r ≡ true → 15 * nodes ≤ starts
  for_values : fine r ≡ true → k * nodes ≤ values
  unknotted : number_of r ≢ 12
  fitting : number_of r ≢ 14

roomy : (nodes k starts values : ℕ) → Roomy nodes k starts values (room_of nodes k starts values)
unfolding room_of fine
roomy nodes k starts values =
    pick_ind (Roomy nodes k starts values) (ltb starts (15 * nodes)) _ _
    (λ e. record { none = λ f. both_ways f refl; for_starts = λ f. both_ways f refl; for_values = λ f. both_ways f refl; unknotted = λ q. omega arith; fitting = λ q. omega arith })
    (λ a. pick_ind (Roomy nodes k starts values) (ltb values (k * nodes)) _ _
    (λ e. record { none = λ f. both_ways f refl; for_starts = λ f. both_ways f refl; for_values = λ f. both_ways f refl; unknotted = λ q. omega arith; fitting = λ q. omega arith })
    (λ b. record { none = λ f. refl; for_starts = λ f. ltb-false _ _ a; for_values = λ f. ltb-false _ _ b; unknotted = λ q. omega arith; fitting = λ q. omega arith }))

pub room_for : (nodes k starts values : ℕ) (q : Verdict) → q ≡ room_of nodes k starts values → fine q ≡ true → (15 * nodes ≤ starts) × (k * nodes ≤ values)
room_for nodes k starts values q is f =
    let t = roomy nodes k starts values in
    let g = subst (λ (x : Verdict). fine x ≡ true) is f in
    (t.for_starts g, t.for_values g)

-- ---- a form

-- its edges as they are lent
pub lent-ends : (f : Form) (m : ℕ) (from to : List ℕ) → m ≡ f.header.edges → from ≡ f.from → to ≡ f.to → WellFormed f → Ends f.header.nodes m from to
lent-ends f m from to few is_from is_to w = rw (few, is_from, is_to) (ends-form f w)

pub lent-told : (f : Form) (m : ℕ) (from to delays : List ℕ) → m ≡ f.header.edges → (from ≡ f.from) × (to ≡ f.to) × (delays ≡ f.delays) → Told (loop_of f) f.header.nodes m from to delays
lent-told f m from to delays few tables = rw (few, tables.0, tables.1, tables.2) (told-form f)

-- what is made of ranks or a knot, m: the ranks where there are some, and else what the knot is turned into
abbrev Turned : Result (List ℕ) Tied → Result (List ℕ) Refused → (Tied → Refused → Type 0) → Type 0
Turned r m Q = MatchResult r (λ x. m ≡ Ok x) (λ c. IsErrAnd m (Q c))

-- where these are ranks there is no knot, and they rise
pub ranked-free : (f : Form) (r : Result (List ℕ) Tied) (m : Result (List ℕ) Refused) (Q : Tied → Refused → Type 0) (rank : List ℕ) → RanksFound (loop_of f) (ranking_in r)
    → Turned r m Q → m ≡ Ok rank → (knotted (loop_of f) ≡ false) × Ranks (loop_of f) (λ v. get_or rank v 0)
ranked-free f (Ok x) m Q rank found turned is = let same : rank ≡ x = cc in (found.found.free refl, rw same (found.rises refl))
ranked-free f (Err c) m Q rank found turned is = elim (subst (λ (y : Result (List ℕ) Refused). IsErrAnd y (Q c)) is turned) [ ]

module _ (f : Form) (k : ℕ) (starts before : List ℕ) where
  looped-knot : (c : Cycle) → KnotFound (loop_of f) c → 0 < c.count → FormLooped f k starts before before (record { refusal = Some Knot; cycle = c })
  unfolding plain_of fine
  looped-knot c found l = record {
    refusal = sym (pick_true (knotted (loop_of f)) _ _ (found.tied l));
    handed = handed-knot (loop_of f) (pair_of f) c (found.knot l) found.tallies;
    done = λ q. both_ways q refl;
    untouched = λ q. refl;
  }

  -- and where it is none a knot is handed on
  pub looped-knotted : (r : Result (List ℕ) Tied) (m : Result (List ℕ) Refused) (Q : Tied → Refused → Type 0) (e : Refused) → RanksFound (loop_of f) (ranking_in r) → IfErr r (λ tied. 0 < tied.knot.count)
      → Turned r m Q → m ≡ Err e → ((tied : Tied) → Q tied e → (e.refusal ≡ Knot) × (e.cycle ≡ Some tied.knot))
      → FormLooped f k starts before before (looped_in (Err e))
  looped-knotted (Ok rank) m Q e found some turned is made = cc
  looped-knotted (Err tied) m Q e found some turned is made =
      let told = made tied (subst (λ (y : Result (List ℕ) Refused). IsErrAnd y (Q tied)) is turned) in
      rw (told.0, told.1) (looped-knot tied.knot found.found some)

  module _ (free : knotted (loop_of f) ≡ false) (q : Verdict) (is : q ≡ room_of f.header.nodes k (length starts) (length before)) where
    room-answer : q ≡ plain_of (loop_of f) k (length starts) (length before)
    unfolding plain_of loop_of graph_of
    room-answer = is ∙ sym (pick-false (knotted (loop_of f)) _ _ free)

    room-handed : Handed (loop_of f) (pair_of f) q no_cycle
    room-handed =
        let t = roomy f.header.nodes k (length starts) (length before) in
        handed-none _ _ _ _ (λ n. t.unknotted (sym (ap number_of is) ∙ n)) (λ n. t.fitting (sym (ap number_of is) ∙ n)) refl

    pub looped-refused : fine q ≡ false → FormLooped f k starts before before (record { refusal = q; cycle = no_cycle })
    looped-refused bad = record {
      refusal = room-answer;
      handed = room-handed;
      done = λ good. both_ways good bad;
      untouched = λ z. refl;
    }

    pub looped-done : WellFormed f → (rank : List ℕ) → Ranks (loop_of f) (λ v. get_or rank v 0) → q ≡ None
        → (order : List ℕ) → take f.header.nodes order ≡ ascending rank f.header.nodes
        → (after : List ℕ) → after ≡ looped (loop_of f) starts (take f.header.nodes order) k before → FormLooped f k starts before after (record { refusal = None; cycle = no_cycle })
    unfolding fine loop_of graph_of
    looped-done w rank rises none order in_order after ran =
        let fits = room_for f.header.nodes k (length starts) (length before) q is (ap fine none) in
        let sorts = ascending-sorts (loop_of f) rank rises in
        let is-after : after ≡ looped (loop_of f) starts (ascending rank f.header.nodes) k before = ran ∙ ap (λ us. looped (loop_of f) starts us k before) in_order in
        record {
          refusal = sym none ∙ room-answer;
          handed = subst (λ (r : Verdict). Handed (loop_of f) (pair_of f) r no_cycle) none room-handed;
          done = λ z. rw is-after (record {
            plain = looped-plain (loop_of f) (sound-form f w) starts _ sorts k before fits.1;
            kept = looped-kept (loop_of f) (sound-form f w) starts _ sorts k before fits.1;
          });
          untouched = λ bad. both_ways refl bad;
        }

-- ---- a record

module _ (s : List ℕ) (k : ℕ) (starts before : List ℕ) where
  pub record-refused : (r : Refusal) → record_in (Err r) ≡ read_form s → RecordLooped s k starts before before (record { refusal = Some r; cycle = no_cycle })
  unfolding plain_record
  record-refused r back =
      let n : number_of (Some r) ≤ 10 = subst (λ (x : Record). number_of x.refusal ≤ 10) (sym back) (read-early s) in
      record {
        refusal = sym (first-refused s _ back (λ g. plain_of (loop_of g) k (length starts) (length before)) (refused_fine r));
        handed = handed-none _ _ _ _ (λ q. omega arith) (λ q. omega arith) refl;
        done = λ good. both_ways good (refused_fine r);
        untouched = λ bad. refl;
      }

  pub record-looped : (f : Form) (after : List ℕ) (r : Looped) → record_in (Ok f) ≡ read_form s → FormLooped f k starts before after r → RecordLooped s k starts before after r
  unfolding plain_record fine
  record-looped f after r back t = record {
    refusal = t.refusal ∙ sym (first-asked s _ back (λ g. plain_of (loop_of g) k (length starts) (length before)) refl);
    handed = rw (← back) t.handed;
    done = rw (← back) t.done;
    untouched = t.untouched;
  }

-- refused by the reader, as the arm that hands it on has it
pub record-unread : (s : List ℕ) (k : ℕ) (starts before : List ℕ) (e : Refused) (r : Refusal) → (e.refusal ≡ r) × (e.cycle ≡ None) → record_in (Err r) ≡ read_form s
    → RecordLooped s k starts before before (looped_in (Err e))
record-unread s k starts before e r told back = rw (told.0, told.1) (record-refused s k starts before r back)
