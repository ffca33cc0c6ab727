-- The form with its first schedule: well-formed, held, written without refusal but Room, legal.
-- Assumes nothing.
use Rattle.std.specs.Prelude.{◌≡◌, refl, false, ◌⊎◌, ◌≢◌, ℕ, ◌≤◌, ◌<◌, ltb, replicate, None, Some}
use Rattle.std.proofs.Common.{sym, ◌∙◌, arith}
use Rattle.std.proofs.Math.Path.{ap, subst}
use Rattle.std.proofs.Math.Bool.{true}
use Rattle.std.proofs.Math.Logic.{inl, inr}
use Rattle.std.proofs.Math.Decide.{dec_lt}
use Rattle.std.proofs.Math.ListN.{length, length-map}
use Rattle.std.proofs.lemmas.List.{length-replicate}
use Rattle.lists.specs.Pick.{pick, pick_ind, pick_true}
use Rattle.lists.specs.Place.{zeros-at}
use Rattle.answer.specs.Refused.{Verdict, fine}
use Rattle.answer.specs.declared.Refusal.TheVariants.{Room}
use Rattle.form.specs.declared.Form.{Form}
use Rattle.form.specs.Ranges.{WellFormed}
use Rattle.reader.specs.Reading.{read_form}
use Rattle.reader.specs.Outcome.{Record}
use Rattle.writer.specs.Layout.{layout}
use Rattle.writer.specs.Writing.{refusal_of}
use Rattle.record.specs.Held.{Held}
use Rattle.record.specs.Written.{well-formed-written}
use Rattle.legal.specs.Loop.{plain, Loop, graph_of, loop_of, pair_of}
use Rattle.legal.specs.Legal.{Legal}
use Rattle.legal.specs.Systems.{knotted}
use Rattle.legal.specs.Judging.{judge_of}
use Rattle.legal.specs.Judged.{accepts-judge}
use Rattle.legal.specs.Shape.{sound-form}
use Rattle.list_rule.specs.Rule.{start_number, list_rule_of, length_of}
use Rattle.list_rule.specs.Kept.{fill-length}
use Rattle.list_rule.specs.Ends.{length-ends}
use Rattle.list_rule.specs.Filling.{Filled, staffed-form}
use Rattle.list_rule.specs.FirstLegal.{unretimed, first_starts, first_pair, first-filled, first-length, first-legal}
use Rattle.turning.specs.TurnedLegal.{rule-past}
use Rattle.plans.specs.Pairs.{as_body_step, with_pair, SameButPair, StartTable, step-at, pair-back}
use Rattle.turning.specs.Rotation.{first_form}

-- the table of first starts has its places, and 0 past the nodes
pub first-table : (g : Loop) → StartTable g.graph.nodes (first_starts g)
unfolding first_starts list_rule_of
first-table g =
    let z : ℕ = 0 in
    record {
      long = fill-length g unretimed _ 1023 1 (replicate 64 0) ∙ length-replicate 64 z;
      past = λ v h. rule-past g unretimed v h (replicate 64 0) ∙ zeros-at 64 v;
    }

module _ (f : Form) (w : WellFormed f) (free : knotted (loop_of f) ≡ false) where
  filled : Filled (loop_of f) (first_starts (loop_of f)) 512
  filled = first-filled (loop_of f) (sound-form f w) (staffed-form f w) free

  -- its length is 1 to 512
  pub first-form-length : (1 ≤ (first_form f).header.length) × ((first_form f).header.length ≤ 512)
  unfolding first_form with_pair
  first-form-length = first-length (loop_of f) (sound-form f w) (staffed-form f w) free

  -- only its pair is another
  pub first-same : SameButPair f (first_form f)
  unfolding first_form loop_of graph_of
  first-same = pair-back f w.nodes.1 (first_starts (loop_of f)) (first-table (loop_of f)) (length_of (loop_of f) (first_starts (loop_of f))) (replicate 64 0)

  -- no start is late
  pub first-soon : (v : ℕ) → v < f.header.nodes → start_number (first_starts (loop_of f)) v ≤ 513
  unfolding loop_of graph_of
  first-soon v l = omega (arith, filled.ends v l)

  -- it is well-formed
  pub first-well-formed : WellFormed (first_form f)
  unfolding first_form with_pair loop_of graph_of
  first-well-formed = record {
    classes = w.classes;
    nodes = w.nodes;
    edges = w.edges;
    length = first-form-length.1;
    class = w.class;
    node = w.node;
    edge = w.edge;
    schedule = λ _. record {
      starts = λ v l. record {
        begins = omega (arith, step-at (first_starts (loop_of f)) v, filled.placed v l);
        ends = omega (arith, step-at (first_starts (loop_of f)) v, length-ends (loop_of f) (first_starts (loop_of f)) v l);
        retiming = omega (arith, zeros-at 64 v);
      };
      least = (0, w.nodes.0, refl);
    };
  }

  small-start : (v : ℕ) → start_number (first_starts (loop_of f)) v < 65536
  unfolding loop_of graph_of
  small-start v =
      elim (dec_lt v f.header.nodes) [
        | yes l ↦ omega (arith, first-soon v l)
        | no l ↦ omega (arith, (first-table (loop_of f)).past v (omega arith))
      ]

  -- it can be held where the form can
  pub first-held : Held f → Held (first_form f)
  unfolding first_form with_pair
  first-held h = record {
    sized = record {
      class = h.sized.class;
      node = h.sized.node;
      from = h.sized.from;
      to = h.sized.to;
      delays = h.sized.delays;
      start = length-map (first_starts (loop_of f)) as_body_step ∙ (first-table (loop_of f)).long;
      retiming = refl;
    };
    classes = h.classes;
    nodes = h.nodes;
    edges = h.edges;
    length = omega (arith, first-form-length.1);
    class = h.class;
    node = h.node;
    edge = h.edge;
    start = λ v l. omega (arith, step-at (first_starts (loop_of f)) v, small-start v);
    retiming = λ v l. omega (arith, zeros-at 64 v);
  }

  -- writing it refuses nothing, or Room
  pub first-written : Held f → (room : ℕ) → (refusal_of (first_form f) room ≡ None) ⊎ (refusal_of (first_form f) room ≡ Some (Room 0))
  unfolding refusal_of fine
  first-written h room =
      let g : Form = first_form f in
      let P : Verdict → Type 0 = λ r. (r ≡ None) ⊎ (r ≡ Some (Room 0)) in
      let reads : fine (read_form (layout g)).refusal ≡ true = ap (λ (x : Record). fine x.refusal) (well-formed-written g (first-held h) first-well-formed) in
      subst P (sym (pick_true (fine (read_form (layout g)).refusal) (pick (ltb room (length (layout g))) (Some (Room 0)) None) _ reads))
      (pick_ind P (ltb room (length (layout g))) (Some (Room 0)) None (λ _. inr refl) (λ _. inl refl))

  -- its pair is the first pair
  first-pair-is : pair_of (first_form f) ≡ first_pair (loop_of f)
  unfolding first_form with_pair pair_of first_pair
  first-pair-is = λ i. record {
    kind = plain;
    start = λ v. step-at (first_starts (loop_of f)) v i;
    length = length_of (loop_of f) (first_starts (loop_of f));
    retiming = λ v. zeros-at 64 v i;
  }

  -- which is legal
  pub first-form-legal : Legal (loop_of (first_form f)) (pair_of (first_form f))
  unfolding first_form with_pair loop_of graph_of
  first-form-legal = subst (Legal (loop_of f)) (sym first-pair-is) (first-legal (loop_of f) (sound-form f w) (staffed-form f w) free)

  -- and the judge accepts it
  pub first-judged : judge_of (first_form f) ≡ None
  first-judged =
      let n : (first_form f).header.length ≢ 0 = λ z. omega (arith, first-form-length.0) in
      accepts-judge (first_form f) first-well-formed n first-form-legal
