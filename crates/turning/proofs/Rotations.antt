-- The way of a rotation: the list rule from the starts lowered and the retimings raised, then the retiming that fits.
-- Assumes nothing.
use Rattle.std.specs.Prelude.{Result, Ok, Err}
use Rattle.std.specs.Result.{result_unwrap_or}
use mathlib.Core.Path.{◌≡◌, refl, sym, ap, subst, ◌∙◌}
use mathlib.Core.Logic.{◌≢◌}
use mathlib.Core.List.{List}
use Prim.Native.Nat.{ℕ, ◌+◌, ◌-◌, ◌≤◌, ◌<◌}
use native.Mathlib.Omega.{arith}
use borrow.Author.Tests.{lt-ltb, le-ltb}
use lib.Dec.{ltb, leb}
use lib.ListN.{get_or, replicate}
use Rattle.lists.specs.Pick.{pick, pick_true, pick-false}
use Rattle.lists.specs.Place.{zeros-at}
use Rattle.lists.specs.Filled.{filled, filled_at, filled-past, filled-length}
use Rattle.form.specs.declared.Form.{Form}
use Rattle.form.specs.Places.{start_of}
use Rattle.form.specs.Ranges.{WellFormed}
use Rattle.legal.specs.Loop.{plain, Loop, Pair, graph_of, loop_of, pair_of}
use Rattle.legal.specs.Shape.{sound-form, plain_form, plain-ends}
use Rattle.legal.specs.Systems.{lateness, limits}
use Rattle.legal.specs.Fitted.{Settles}
use Rattle.tables.specs.declared.Timetable.{Timetable}
use Rattle.tables.specs.Times.{times_of}
use Rattle.tables.specs.Lent.{Lent}
use Rattle.answer.specs.declared.Cycle.{Cycle}
use Rattle.fit.specs.Outcome.{Fitting, fitting_in}
use Rattle.fit.specs.Retimed.{retimings, StartsFitted}
use Rattle.list_rule.specs.Rule.{start_number, list_rule_of, length_of}
use Rattle.list_rule.specs.Ends.{length-ends}
use Rattle.list_rule.specs.Filling.{staffed-form}
use Rattle.turning.specs.Turned.{gained_by, dropped_by, dropped-at}
use Rattle.turning.specs.TurnedLegal.{turned_starts, turned-filled, turned-length, turned-settles}
use Rattle.plans.specs.Pairs.{with_pair, times_with, StartTable, step-at, pair-loop, pair-times}
use Rattle.turning.specs.Rotation.{rotated_starts, rotated_length, rotated, too_long, turned_form, rotated_or}
use Rattle.turning.specs.SameRule.{nodes-same}
use Rattle.turning.specs.RotatedLaws.{tabled, rotated-table}
use Rattle.turning.specs.Lending.{Turnable, lent-next}
use Rattle.turning.proofs.Laws.{lowered-all}

-- a retiming is fitted to the starts and the length alone
start-alone : (g : Loop) (p q : Pair) → p.start ≡ q.start → p.length ≡ q.length → retimings g p ≡ retimings g q
unfolding retimings limits lateness
start-alone g p q e l = λ i. retimings g (record { kind = q.kind; start = e i; length = l i; retiming = q.retiming })

module _ (f : Form) (edges : ℕ) (from to delays : List ℕ) (t : Timetable) (z : ℕ) (k : Turnable f edges from to delays t z) where
  w : WellFormed f
  w = k.tabled.lent.good

  pub turn-few : t.nodes ≤ 64
  unfolding loop_of graph_of
  turn-few = omega (arith, w.nodes.1, k.tabled.lent.timed.all-nodes)

  pub turn_small : (v : ℕ) → v < t.nodes → get_or t.retiming v 0 ≤ 63
  unfolding loop_of graph_of pair_of
  turn_small v l =
      let some : f.header.length ≢ 0 = λ e. omega (arith, e, k.below) in
      omega (arith, ((w.schedule some).starts v (omega (arith, k.tabled.lent.timed.all-nodes))).retiming, k.tabled.lent.timed.retimed v)

  -- the length is 1 to 1023
  rotated-length : (1 ≤ rotated_length f z) × (rotated_length f z ≤ 1023)
  unfolding rotated_length rotated_starts pair_of
  rotated-length =
      turned-length (loop_of f) (pair_of f) z (times_of f).start (sound-form f w) (plain_form f) k.legal (tabled f w) (staffed-form f w) k.some k.below w.length

  rotated-soon : (v : ℕ) → v < (loop_of f).graph.nodes → start_number (rotated_starts f z) v ≤ 1023
  unfolding rotated_length
  rotated-soon v l = omega (arith, rotated-length.1, length-ends (loop_of f) (rotated_starts f z) v l, (sound-form f w).works v l)

  -- ---- the list rule

  start-table : StartTable t.nodes t.start
  unfolding times_of
  start-table = subst (λ (u : Timetable). StartTable u.nodes u.start) (sym k.tabled.is) (record {
    long = filled-length 64 (start_of f) f.header.nodes w.nodes.1;
    past = λ v l. filled-past 64 (start_of f) f.header.nodes v l;
  })

  module _ (low high : List ℕ) (lowered : low ≡ filled 64 (λ v. get_or t.start v 0 - z) t.nodes)
      (raised : high ≡ filled 64 (λ v. get_or t.retiming v 0 + pick (leb (get_or t.start v 0) z) 1 0) t.nodes) where
    low-is : low ≡ dropped_by z (times_of f).start
    low-is = lowered ∙ lowered-all t.nodes t.start z turn-few start-table ∙ ap (λ (u : Timetable). dropped_by z u.start) k.tabled.is

    high-at : (v : ℕ) → v < (loop_of f).graph.nodes → get_or high v 0 ≡ gained_by (pair_of f) z v
    unfolding gained_by
    high-at v l =
        let m : v < t.nodes = omega (arith, k.tabled.lent.timed.all-nodes) in
        let at = sym (k.tabled.lent.timed.retimed v) in
        let begins = sym (k.tabled.lent.timed.starts v m) in
        ap (λ (xs : List ℕ). get_or xs v 0) raised
        ∙ filled_at 64 (λ u. get_or t.retiming u 0 + pick (leb (get_or t.start u 0) z) 1 0) t.nodes v m
        ∙ (λ i. at i + pick (leb (begins i) z) 1 0)

    pub turn-early : (v : ℕ) → v < t.nodes → start_number low v + get_or t.latency v 0 ≤ 513
    unfolding pair_of
    turn-early v l =
        let m : v < (loop_of f).graph.nodes = omega (arith, k.tabled.lent.timed.all-nodes) in
        let dropped : start_number low v ≡ start_number (times_of f).start v - z = ap (λ (xs : List ℕ). start_number xs v) low-is ∙ dropped-at z (times_of f).start v in
        omega (
          arith,
          dropped,
          (tabled f w).is v m,
          plain-ends (loop_of f) (pair_of f) (plain_form f) v (k.legal.body v m),
          w.length,
          (sound-form f w).short v m,
          k.tabled.lent.timed.takes v l,
        )

    pub turn-rule : list_rule_of (loop_of f) (λ v. get_or high v 0) low ≡ rotated_starts f z
    unfolding rotated_starts turned_starts
    turn-rule =
        nodes-same (loop_of f) (sound-form f w) (λ v. get_or high v 0) (gained_by (pair_of f) z) high-at low
        ∙ ap (list_rule_of (loop_of f) (gained_by (pair_of f) z)) low-is

    pub turn-soon : (v : ℕ) → v < t.nodes → start_number (list_rule_of (loop_of f) (λ u. get_or high u 0) low) v ≤ 1023
    turn-soon v l =
        let m : v < (loop_of f).graph.nodes = omega (arith, k.tabled.lent.timed.all-nodes) in
        omega (arith, ap (λ (xs : List ℕ). start_number xs v) turn-rule, rotated-soon v m)

  -- the timetable with the starts, and the length, is that of the form turned
  abbrev turned_times : Timetable
  turned_times = times_with (times_of f) (rotated_starts f z) (rotated_length f z) (replicate 64 0)

  turned-times : times_of (turned_form f z) ≡ turned_times
  unfolding turned_form
  turned-times = pair-times f w.nodes.1 (rotated_starts f z) (rotated-table f w k.legal z k.some k.below) (rotated_length f z) (replicate 64 0)

  pub turn_is : (r : Timetable) → r ≡ times_with t (rotated_starts f z) (length_of (loop_of f) (rotated_starts f z)) (replicate 64 0) → r ≡ times_of (turned_form f z)
  unfolding rotated_length
  turn_is r is =
      is
      ∙ ap (λ (u : Timetable). times_with u (rotated_starts f z) (length_of (loop_of f) (rotated_starts f z)) (replicate 64 0)) k.tabled.is
      ∙ sym turned-times

  -- ---- the form turned

  turned-starts-pair : (v : ℕ) → (pair_of (turned_form f z)).start v ≡ start_number (rotated_starts f z) v
  unfolding turned_form with_pair pair_of
  turned-starts-pair v = step-at (rotated_starts f z) v

  turned-good : rotated_length f z ≤ 512 → WellFormed (turned_form f z)
  unfolding turned_form with_pair rotated_length rotated_starts loop_of graph_of pair_of
  turned-good short = record {
    classes = w.classes;
    nodes = w.nodes;
    edges = w.edges;
    length = short;
    class = w.class;
    node = w.node;
    edge = w.edge;
    schedule = λ _. record {
      starts = λ v l. record {
        begins =
            omega (
              arith,
              step-at (rotated_starts f z) v,
              (turned-filled (loop_of f) (pair_of f) z (times_of f).start (sound-form f w) (plain_form f) k.legal (tabled f w) (staffed-form f w) k.some k.below w.length).placed v l,
            );
        ends = omega (arith, step-at (rotated_starts f z) v, length-ends (loop_of f) (rotated_starts f z) v l);
        retiming = omega (arith, zeros-at 64 v);
      };
      least = (0, w.nodes.0, refl);
    };
  }

  turned-settled : Settles (loop_of f) (pair_of (turned_form f z))
  unfolding rotated_starts rotated_length pair_of turned_form with_pair
  turned-settled =
      turned-settles (loop_of f) (pair_of f) z (times_of f).start (sound-form f w) (plain_form f) k.legal (tabled f w) (staffed-form f w) k.some k.below w.length
      (pair_of (turned_form f z)) (λ v l. turned-starts-pair v) refl refl

  -- the pair that the retiming is fitted to
  unfoldable turned_by : Pair
  turned_by = record { kind = plain; start = start_number (rotated_starts f z); length = rotated_length f z; retiming = gained_by (pair_of f) z }

  module _ (u : Timetable) (is : u ≡ times_of (turned_form f z)) where
    length-is : u.length ≡ rotated_length f z
    unfolding times_with
    length-is = ap (λ (x : Timetable). x.length) (is ∙ turned-times)

    -- too long
    pub rotate-long : 512 < u.length → u ≡ times_of (rotated_or f z)
    unfolding rotated_or too_long
    rotate-long l =
        is ∙ ap times_of (sym (pick_true (ltb 512 (rotated_length f z)) _ _ (lt-ltb 512 (rotated_length f z) (omega (arith, length-is)))))

    module _ (short : u.length ≤ 512) where
      -- a retiming can be fitted
      pub rotate-lent : Lent (turned_form f z) edges from to delays u
      unfolding turned_form
      rotate-lent = lent-next f (turned_form f z) edges from to delays t u k.tabled.lent (pair-loop f _ _ _) (turned-good (omega (arith, length-is))) is

      pub rotate-some : u.length ≢ 0
      rotate-some e = omega (arith, e, length-is, rotated-length.0)

      module _ (x : Fitting) (fit : StartsFitted (loop_of (turned_form f z)) (pair_of (turned_form f z)) x) where
        here : StartsFitted (loop_of f) (pair_of (turned_form f z)) x
        unfolding turned_form
        here = subst (λ g. StartsFitted g (pair_of (turned_form f z)) x) (pair-loop f _ _ _) fit

        retiming-is : x.retiming ≡ retimings (loop_of f) turned_by
        unfolding turned_by turned_form with_pair pair_of
        retiming-is =
            here.retiming (here.fits ∙ turned-settled)
            ∙ start-alone (loop_of f) (pair_of (turned_form f z)) turned_by (λ i v. turned-starts-pair v i) refl

        -- the timetable with it is that of the form rotated
        pub rotate-is : times_with u u.start u.length x.retiming ≡ times_of (rotated_or f z)
        unfolding rotated_or too_long rotated turned_by times_with
        rotate-is =
            ap (λ (y : Timetable). times_with y y.start y.length x.retiming) (is ∙ turned-times)
            ∙ ap (times_with (times_of f) (rotated_starts f z) (rotated_length f z)) retiming-is
            ∙ sym (pair-times f w.nodes.1 (rotated_starts f z) (rotated-table f w k.legal z k.some k.below) (rotated_length f z) (retimings (loop_of f) turned_by))
            ∙ ap times_of (sym (pick-false (ltb 512 (rotated_length f z)) _ _ (le-ltb 512 (rotated_length f z) (omega (arith, length-is)))))

-- starts that no retiming fits get retimings 0
pub unfit-zero : (r : Result (List ℕ) Cycle) → result_unwrap_or r (replicate 64 0) ≡ (fitting_in r).retiming
unfit-zero (Ok retiming) = refl
unfit-zero (Err cycle) = refl
