-- The ways that the floor answers: by each part, with a knot, of a record.
-- Assumes nothing.
use Rattle.std.specs.Prelude.{Option, None, Some, Ok, Err, IsSome, IsSomeAnd}
use mathlib.Core.Path.{◌≡◌, refl, sym, ap, ◌∙◌, subst}
use mathlib.Core.Bool.{true, false}
use mathlib.Core.Logic.{◌≢◌}
use mathlib.Core.List.{List, map}
use Prim.Native.Nat.{ℕ, ◌+◌, ◌-◌, ◌≤◌, ◌<◌, max}
use native.Mathlib.Omega.{arith}
use lib.ListN.{get_or}
use Rattle.lists.specs.Pick.{pick, pick_true, pick-false}
use Rattle.lists.specs.Span.{span}
use Rattle.lists.specs.Fold.{top}
use Rattle.lists.specs.Sums.{top-each, top-under}
use Rattle.answer.specs.Refused.{number_of, fine, refused_fine, none_fine}
use Rattle.answer.specs.Outcome.{no_cycle, edges_of, cycle_or}
use Rattle.answer.specs.Tally.{Tallies, none-tallies}
use Rattle.answer.specs.declared.Cycle.{Cycle}
use Rattle.answer.specs.declared.Refused.{Refused}
use Rattle.answer.specs.declared.Refusal.{Refusal}
use Rattle.answer.specs.declared.Refusal.TheVariants as refusal
use Rattle.form.specs.declared.Edges.{Edges}
use Rattle.form.specs.declared.Form.{Form}
use Rattle.form.specs.Ranges.{WellFormed}
use Rattle.reader.specs.Outcome.{Record, record_in}
use Rattle.reader.specs.Reading.{read_form}
use Rattle.system.specs.System.{Losing}
use Rattle.legal.specs.Loop.{Loop, Pair, loop_of, latency as latencyOn}
use Rattle.legal.specs.Systems.{knotted, paces}
use Rattle.legal.specs.Shape.{sound-form}
use Rattle.legal.specs.Knots.{unknotted-free}
use Rattle.tables.specs.declared.Timetable.{Timetable}
use Rattle.tables.specs.Most.{most_of}
use Rattle.tables.specs.Times.{Timed}
use Rattle.tables.specs.Edges.{ToldBy}
use Rattle.tables.specs.Lent.{LentBy}
use Rattle.knots.specs.Found.{KnotFound, Untied}
use Rattle.record.specs.Early.{read-early}
use Rattle.record.specs.ReadFirst.{first-refused, first-asked}
use Rattle.floor_part.specs.Parts.{Part}
use Rattle.floor_part.specs.Parts as part
use Rattle.floor.specs.Outcome.{Floored, floored_in}
use Rattle.floor.specs.Parts.{latency_part, units_part, units_parts, cycle_part, floor_length}
use Rattle.floor.specs.Least.{enough, short-less, cycle-512}
use Rattle.floor.specs.Tables.{Measured}
use Rattle.floor_part.specs.Numbers.{part_number}
use Rattle.floor.specs.Floor.{part_of, floor_refusal, FloorCycle, FormFloored, floor_record, RecordFloored}
use Rattle.floor.specs.Named.{Attains, latency, units, cycle-named, cycle-attained, named-is, cycle-two, floor-short}

-- ---- what is worked out of a loop without a knot

top-le : (f g : ℕ → ℕ) (n : ℕ) → ((v : ℕ) → v < n → f v ≡ g v) → top (map f (span 0 n)) ≤ top (map g (span 0 n))
top-le f g n h = top-under f (top (map g (span 0 n))) n (λ v l. omega (arith, h v l, top-each g n v l))

-- the timetable's largest latency is the loop's
pub latency-known : (g : Loop) (p : Pair) (t : Timetable) → Timed g p t → most_of t.latency t.nodes ≡ latency_part g
unfolding most_of latency_part
latency-known g p t timed =
    let same : top (map (λ v. get_or t.latency v 0) (span 0 t.nodes)) ≡ top (map (latencyOn g) (span 0 t.nodes)) = omega (
      arith,
      top-le (λ v. get_or t.latency v 0) (latencyOn g) t.nodes (λ v l. sym (timed.takes v l)),
      top-le (latencyOn g) (λ v. get_or t.latency v 0) t.nodes timed.takes,
    ) in
    same ∙ ap (λ (n : ℕ). top (map (latencyOn g) (span 0 n))) (sym timed.all-nodes)

-- the larger of (a) and (b), and (c) beside it, is the floor
pub floor-of : (g : Loop) (a b least floor : ℕ) → a ≡ latency_part g → b ≡ top (map (units_part g) (span 0 g.classes)) → least ≡ max a b → floor ≡ max least (cycle_part g) → floor ≡ floor_length g
unfolding floor_length units_parts
floor-of g a b least floor is-a is_b is-least is-floor = omega arith

module _ (g : Loop) (a b class floor : ℕ) (parts : Measured g a b class floor) where
  -- what is not below the floor attains it
  pub attains-latency : floor ≤ a → Attains g part.Latency
  unfolding floor_length
  attains-latency h = latency (omega (arith, parts.latency_is, parts.floor-is))

  pub attains-units : a < floor → floor ≤ b → Attains g (part.Units class)
  unfolding floor_length units_parts
  attains-units l h =
      let same : b ≡ floor = omega (arith, parts.units-is.most, parts.floor-is) in
      let here = parts.units-is.here (omega arith) in
      units class (λ z. omega (arith, parts.latency_is, parts.floor-is)) here.0 (omega (arith, here.1, parts.floor-is)) (λ d m z. omega (arith, parts.units-is.before d m, parts.floor-is))

  pub attains-cycle : a < floor → b < floor → Attains g part.Cycle
  unfolding units_parts
  attains-cycle l m =
      cycle-named g (λ z. omega (arith, parts.latency_is, parts.floor-is)) (λ z. omega (arith, parts.units-is.most, parts.floor-is))

-- ---- a form

pub some-of : {T : Type 0} (o : Option T) (P : T → Type 0) → IsSomeAnd o P → IsSome o
some-of None P h = elim h [ ]
some-of (Some x) P h = refl

-- no length below the floor is enough, and there is one
abbrev pub Below : Form → ℕ → Type 0
Below f floor = (2 ≤ floor) × (floor ≤ 513) × ((l : ℕ) → l < floor → enough (loop_of f) l ≡ false)

-- an answer that no cycle stands beside
alone-cycle : (g : Loop) (r : Floored) → number_of r.refusal ≢ 12 → part_number r.part ≢ 3 → r.cycle ≡ no_cycle → FloorCycle g r
alone-cycle g r n m e = record {
  knot = λ k. absurd (n (ap number_of k));
  breaks = λ k. absurd (m (ap part_number k));
  none = λ _ _. e;
  tallies = none-tallies r.cycle e;
}

module _ (f : Form) (free : knotted (loop_of f) ≡ false) where
  floored : (r : Floored) (x : Part) → Attains (loop_of f) x → r.refusal ≡ None → r.floor ≡ floor_length (loop_of f) → r.part ≡ x → FloorCycle (loop_of f) r
      → FormFloored f r
  unfolding floor_refusal
  floored r x a none is named cycle =
      let fin : fine r.refusal ≡ true = ap fine none ∙ none_fine in
      record {
        refusal = none ∙ sym (pick-false (knotted (loop_of f)) (Some refusal.Knot) None free);
        floor = is ∙ sym (pick_true (fine r.refusal) (floor_length (loop_of f)) 0 fin);
        part = named ∙ sym (named-is (loop_of f) x a) ∙ sym (pick_true (fine r.refusal) (part_of (loop_of f)) part.None fin);
        cycle = cycle;
      }

  -- with (a) and (b)
  pub floored-alone : (x : Part) (floor : ℕ) → part_number x ≢ 3 → Attains (loop_of f) x → floor ≡ floor_length (loop_of f)
      → FormFloored f (record { refusal = None; floor = floor; part = x; cycle = no_cycle })
  floored-alone x floor n a is =
      floored _ x a refl is refl
      (alone-cycle (loop_of f) _ (λ k. let z : ◌≡◌ {A = ℕ} 0 12 = k in omega arith) n refl)

  -- with (c)
  pub floored-cycle : (floor short : ℕ) (c : Cycle) → Attains (loop_of f) part.Cycle → floor ≡ floor_length (loop_of f) → short + 1 ≡ floor → Losing (paces (loop_of f) short) (edges_of c) × Tallies c
      → FormFloored f (record { refusal = None; floor = floor; part = part.Cycle; cycle = c })
  floored-cycle floor short c a is next breaks =
      let below : short ≡ floor_length (loop_of f) - 1 = omega arith in
      floored _ part.Cycle a refl is refl (record {
        knot = λ k. let n : ◌≡◌ {A = ℕ} 0 12 = ap number_of k in absurd (omega arith);
        breaks = λ _. rw (← below) breaks.0;
        none = λ _ n. absurd (n refl);
        tallies = breaks.1;
      })

  -- so it is where (c) attains it
  pub below-short : WellFormed f → (floor : ℕ) → Attains (loop_of f) part.Cycle → floor ≡ floor_length (loop_of f)
      → Below f floor
  below-short w floor a is =
      let short : enough (loop_of f) (floor - 1) ≡ false = rw is (floor-short (loop_of f) (sound-form f w) (named-is (loop_of f) part.Cycle a)) in (
        omega (arith, cycle-two (loop_of f) (sound-form f w) (named-is (loop_of f) part.Cycle a)),
        omega (arith, cycle-attained (loop_of f) a, cycle-512 (loop_of f) (sound-form f w) (unknotted-free (loop_of f) free)),
        λ l h. short-less (loop_of f) (sound-form f w) l (floor - 1) (omega arith) short,
      )

-- with a knot
knotted-floored : (f : Form) (c : Cycle) → KnotFound (loop_of f) c → 0 < c.count → FormFloored f (record { refusal = Some refusal.Knot; floor = 0; part = part.None; cycle = c })
unfolding floor_refusal fine pick
knotted-floored f c found l = record {
  refusal = sym (pick_true (knotted (loop_of f)) (Some refusal.Knot) None (found.tied l));
  floor = refl;
  part = refl;
  cycle = record {
    knot = λ _. found.knot l;
    breaks = λ k. let n : ◌≡◌ {A = ℕ} 0 3 = ap part_number k in absurd (omega arith);
    none = λ n _. absurd (n refl);
    tallies = found.tallies;
  };
}

-- without one
pub free-lent : (f : Form) (e : Edges) (t : Timetable) → LentBy f e t → ((g : Loop) → ToldBy g t.nodes e → KnotFound g no_cycle) → knotted (loop_of f) ≡ false
free-lent f e t lent found = (found _ lent.told).free refl

pub floored-knot : (f : Form) (e : Refused) → Untied (loop_of f) (Err e) → FormFloored f (floored_in (Err e))
floored-knot f e u =
    subst (λ (r : Refusal). FormFloored f (record { refusal = Some r; floor = 0; part = part.None; cycle = cycle_or e.cycle })) (sym u.0) (knotted-floored f (cycle_or e.cycle) u.1 u.2)

-- ---- a record

-- refused by the reader
pub record-refused : (s : List ℕ) (r : Refusal) → record_in (Err r) ≡ read_form s → RecordFloored s (record { refusal = Some r; floor = 0; part = part.None; cycle = no_cycle })
unfolding floor_record
record-refused s r back =
    let unfit : fine (Some r) ≡ false = refused_fine r in
    let n : number_of (Some r) ≤ 10 = subst (λ (x : Record). number_of x.refusal ≤ 10) (sym back) (read-early s) in
    record {
      refusal = sym (first-refused s _ back floor_refusal unfit);
      floor = sym (pick-false (fine (Some r)) (floor_length (loop_of (read_form s).form)) 0 unfit);
      part = sym (pick-false (fine (Some r)) (part_of (loop_of (read_form s).form)) part.None unfit);
      cycle = alone-cycle _ _ (λ k. omega arith) (λ k. let z : ◌≡◌ {A = ℕ} 0 3 = k in omega arith) refl;
    }

-- or read
pub record-floored : (s : List ℕ) (f : Form) (j : Floored) → record_in (Ok f) ≡ read_form s → FormFloored f j → RecordFloored s j
unfolding floor_record
record-floored s f j back t = record {
  refusal = t.refusal ∙ sym (first-asked s _ back floor_refusal none_fine);
  floor = rw (← back) t.floor;
  part = rw (← back) t.part;
  cycle = rw (← back) t.cycle;
}

-- refused by the reader, as the arm that hands it on has it
pub record-unread : (s : List ℕ) (e : Refused) (r : Refusal) → (e.refusal ≡ r) × (e.cycle ≡ None) → record_in (Err r) ≡ read_form s → RecordFloored s (floored_in (Err e))
record-unread s e r told back = rw (told.0, told.1) (record-refused s r back)
