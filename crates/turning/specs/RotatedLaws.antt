-- A form rotated, where that is not too long: well-formed, held, written without refusal but Room, legal.
-- Assumes nothing.
use Rattle.std.specs.Prelude.{◌≡◌, false, ◌⊎◌, ◌≢◌, ℕ, ◌+◌, ◌≤◌, ◌<◌, ltb, None, Some}
use Rattle.std.proofs.Math.Path.{refl, ap, subst}
use Rattle.std.proofs.Common.{sym, ◌∙◌}
use Rattle.std.proofs.Math.Bool.{true}
use Rattle.std.proofs.Math.Logic.{inl, inr}
use Rattle.std.proofs.Math.Decide.{dec_lt}
use native.Mathlib.Omega.{arith}
use borrow.Author.Tests.{ltb-false}
use Rattle.std.proofs.Math.ListN.{length, get_or, length-map}
use Rattle.lists.specs.Pick.{pick, pick_ind, pick_true}
use Rattle.lists.specs.Filled.{filled_at, filled-past, filled-length}
use Rattle.answer.specs.Refused.{Verdict, fine}
use Rattle.answer.specs.declared.Refusal.TheVariants.{Room}
use Rattle.form.specs.declared.Form.{Form}
use Rattle.form.specs.Places.{start_of, latency_of}
use Rattle.form.specs.Ranges.{WellFormed}
use Rattle.reader.specs.Reading.{read_form}
use Rattle.reader.specs.Outcome.{Record}
use Rattle.writer.specs.Layout.{layout}
use Rattle.writer.specs.Writing.{refusal_of}
use Rattle.record.specs.Held.{Held}
use Rattle.record.specs.Written.{well-formed-written}
use Rattle.legal.specs.Loop.{plain, bodies, Loop, Pair, graph_of, loop_of, pair_of}
use Rattle.legal.specs.Legal.{Legal}
use Rattle.legal.specs.Fitted.{Settles}
use Rattle.legal.specs.Judging.{judge_of}
use Rattle.legal.specs.Judged.{accepts-judge}
use Rattle.legal.specs.Shape.{sound-form, plain_form, WithinBodies, bodied-within}
use Rattle.tables.specs.Times.{times_of}
use Rattle.fit.specs.Retimed.{retimings}
use Rattle.fit.specs.Retimings.{retimings-length, retimings-small, retimings-zero, retimed_pair, retimings-legal}
use Rattle.list_rule.specs.Rule.{start_number}
use Rattle.list_rule.specs.Ends.{length-ends}
use Rattle.list_rule.specs.Filling.{staffed-form}
use Rattle.turning.specs.Turned.{gained_by, dropped_by, dropped-at}
use Rattle.turning.specs.TurnedLegal.{rule-past, turned_starts, StartsTabled, turned-long, turned-filled, turned-length, turned-settles, turned-bodied, turned-unit-rule}
use Rattle.plans.specs.Pairs.{as_body_step, with_pair, SameButPair, StartTable, step-at, pair-back, pair-next}
use Rattle.turning.specs.Rotation.{rotated_starts, rotated_length, rotated, too_long}

-- a form's timetable holds the starts of its pair
pub tabled : (f : Form) → WellFormed f → StartsTabled (loop_of f) (pair_of f) (times_of f).start
unfolding times_of pair_of loop_of graph_of
tabled f w = record { long = filled-length 64 (start_of f) f.header.nodes w.nodes.1; is = λ v l. filled_at 64 (start_of f) f.header.nodes v l }

-- the pair that the retiming is fitted to
unfoldable turned_by : Form → ℕ → Pair
turned_by f z = record { kind = plain; start = start_number (rotated_starts f z); length = rotated_length f z; retiming = gained_by (pair_of f) z }

module _ (f : Form) (w : WellFormed f) (legal : Legal (loop_of f) (pair_of f)) (z : ℕ) (one : 1 ≤ z) (below : z < f.header.length) where
  placed : (v : ℕ) → v < (loop_of f).graph.nodes → 0 < start_number (rotated_starts f z) v
  unfolding rotated_starts pair_of
  placed v l = (turned-filled (loop_of f) (pair_of f) z (times_of f).start (sound-form f w) (plain_form f) legal (tabled f w) (staffed-form f w) one below w.length).placed v l

  settles : Settles (loop_of f) (turned_by f z)
  unfolding turned_by rotated_starts rotated_length pair_of
  settles = turned-settles (loop_of f) (pair_of f) z (times_of f).start (sound-form f w) (plain_form f) legal (tabled f w) (staffed-form f w) one below w.length (turned_by f z) (λ v l. refl) refl refl

  -- the pair's operations end in the body
  turned-within : WithinBodies (loop_of f) (turned_by f z) 1
  unfolding turned_by rotated_starts rotated_length pair_of bodies
  turned-within =
      bodied-within (loop_of f) (turned_by f z) (sound-form f w)
      (turned-bodied (loop_of f) (pair_of f) z (times_of f).start (sound-form f w) (plain_form f) legal (tabled f w) (staffed-form f w) one below w.length (turned_by f z) (λ v l. refl) refl refl)

  ends_at : (v : ℕ) → v < f.header.nodes → start_of (rotated f z) v + latency_of (rotated f z) v ≤ rotated_length f z + 1
  unfolding rotated with_pair rotated_length loop_of graph_of
  ends_at v l = omega (arith, step-at (rotated_starts f z) v, length-ends (loop_of f) (rotated_starts f z) v l)

  -- the table of starts has its places, and 0 past the nodes
  pub rotated-table : StartTable f.header.nodes (rotated_starts f z)
  unfolding rotated_starts turned_starts times_of loop_of graph_of
  rotated-table = record {
    long = turned-long (loop_of f) (pair_of f) z (times_of f).start (sound-form f w) (plain_form f) legal (tabled f w);
    past = λ v h.
        omega (
          arith,
          rule-past (loop_of f) (gained_by (pair_of f) z) v h (dropped_by z (times_of f).start),
          dropped-at z (times_of f).start v,
          filled-past 64 (start_of f) f.header.nodes v h,
        );
  }

  -- only its pair is another
  pub rotated-same : SameButPair f (rotated f z)
  unfolding rotated
  rotated-same = pair-back f w.nodes.1 (rotated_starts f z) rotated-table (rotated_length f z) _

  -- and so it is of a form that was another's but for its pair
  pub rotated-next : (h : Form) → SameButPair h f → SameButPair h (rotated f z)
  unfolding rotated
  rotated-next h = pair-next h f w.nodes.1 (rotated_starts f z) rotated-table (rotated_length f z) _

  -- its length is not 0
  pub rotated-form-some : 1 ≤ (rotated f z).header.length
  unfolding rotated with_pair rotated_length rotated_starts pair_of
  rotated-form-some = (turned-length (loop_of f) (pair_of f) z (times_of f).start (sound-form f w) (plain_form f) legal (tabled f w) (staffed-form f w) one below w.length).0

  -- its pair is legal, unless it has more than 512 steps
  pub rotated-form-legal : rotated_length f z ≤ 512 → Legal (loop_of (rotated f z)) (pair_of (rotated f z))
  unfolding rotated with_pair loop_of graph_of pair_of turned_by rotated_starts rotated_length
  rotated-form-legal short =
      let g : Loop = loop_of f in
      let q : Pair = turned_by f z in
      let same : pair_of (rotated f z) ≡ retimed_pair g q = λ i. record { kind = plain; start = λ v. step-at (rotated_starts f z) v i; length = rotated_length f z; retiming = λ v. get_or (retimings g q) v 0 } in
      subst (Legal g) (sym same)
      (retimings-legal g q (sound-form f w) settles (rotated-form-some, short)
      (turned-bodied g (pair_of f) z (times_of f).start (sound-form f w) (plain_form f) legal (tabled f w) (staffed-form f w) one below w.length q (λ v l. refl) refl refl)
      (turned-unit-rule g (pair_of f) z (times_of f).start (sound-form f w) (plain_form f) legal (tabled f w) (staffed-form f w) one below w.length q (λ v l. refl) refl refl))

  module _ (fits : too_long f z ≡ false) where
    pub rotated-form-short : rotated_length f z ≤ 512
    unfolding too_long
    rotated-form-short = ltb-false 512 (rotated_length f z) fits

    -- it is well-formed
    pub rotated-well-formed : WellFormed (rotated f z)
    unfolding rotated with_pair loop_of graph_of turned_by
    rotated-well-formed = record {
      classes = w.classes;
      nodes = w.nodes;
      edges = w.edges;
      length = rotated-form-short;
      class = w.class;
      node = w.node;
      edge = w.edge;
      schedule = λ _. record {
        starts = λ v l. record {
          begins = omega (arith, step-at (rotated_starts f z) v, placed v l);
          ends = ends_at v l;
          retiming = retimings-small (loop_of f) (turned_by f z) (sound-form f w) settles 1 turned-within v;
        };
        least = retimings-zero (loop_of f) (turned_by f z) (sound-form f w) settles;
      };
    }

    -- and the judge accepts it
    pub rotated-judged : judge_of (rotated f z) ≡ None
    rotated-judged =
        let some : (rotated f z).header.length ≢ 0 = λ e. omega (arith, rotated-form-some) in
        accepts-judge (rotated f z) rotated-well-formed some (rotated-form-legal rotated-form-short)

    small-start : (v : ℕ) → start_number (rotated_starts f z) v < 65536
    unfolding rotated_length loop_of graph_of
    small-start v =
        elim (dec_lt v f.header.nodes) [
          | yes l ↦ omega (arith, rotated-form-short, length-ends (loop_of f) (rotated_starts f z) v l)
          | no l ↦ omega (arith, rotated-table.past v (omega arith))
        ]

    -- it can be held where the form can
    pub rotated-held : Held f → Held (rotated f z)
    unfolding rotated with_pair turned_by
    rotated-held h = record {
      sized = record {
        class = h.sized.class;
        node = h.sized.node;
        from = h.sized.from;
        to = h.sized.to;
        delays = h.sized.delays;
        start = length-map (rotated_starts f z) as_body_step ∙ rotated-table.long;
        retiming = retimings-length (loop_of f) (turned_by f z) (sound-form f w).few;
      };
      classes = h.classes;
      nodes = h.nodes;
      edges = h.edges;
      length = omega (arith, rotated-form-short);
      class = h.class;
      node = h.node;
      edge = h.edge;
      start = λ v l. omega (arith, step-at (rotated_starts f z) v, small-start v);
      retiming = λ v l. omega (arith, retimings-small (loop_of f) (turned_by f z) (sound-form f w) settles 1 turned-within v);
    }

    -- writing it refuses nothing, or Room
    pub rotated-written : Held f → (room : ℕ) → (refusal_of (rotated f z) room ≡ None) ⊎ (refusal_of (rotated f z) room ≡ Some (Room 0))
    unfolding refusal_of fine
    rotated-written h room =
        let g : Form = rotated f z in
        let P : Verdict → Type 0 = λ r. (r ≡ None) ⊎ (r ≡ Some (Room 0)) in
        let reads : fine (read_form (layout g)).refusal ≡ true = ap (λ (x : Record). fine x.refusal) (well-formed-written g (rotated-held h) rotated-well-formed) in
        subst P (sym (pick_true (fine (read_form (layout g)).refusal) (pick (ltb room (length (layout g))) (Some (Room 0)) None) _ reads))
        (pick_ind P (ltb room (length (layout g))) (Some (Room 0)) None (λ _. inr refl) (λ _. inl refl))
