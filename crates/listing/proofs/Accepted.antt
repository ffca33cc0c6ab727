-- A record that the judge accepts can be shown: its numbers are small, and the floor worked out is its loop's.
-- Assumes nothing.
use Rattle.std.specs.Prelude.{Ok, Err, None, Some}
use mathlib.Core.Path.{◌≡◌, refl, sym, ◌∙◌}
use mathlib.Core.List.{List}
use Prim.Native.Nat.{ℕ, ◌≤◌}
use native.Mathlib.Omega.{arith}
use Rattle.lists.specs.Pick.{pick, pick-false}
use Rattle.answer.specs.Refused.{number_of, fine, refused_fine}
use Rattle.answer.specs.declared.Refusal.{Refusal}
use Rattle.answer.specs.declared.Refusal.TheVariants.{Short, Mark, Version, Count, Machine, Node, Edge, Start, Retiming, Tail, Bare, Knot, Dependence, NoRetiming, Units, Size, Long, Room, Early, Busy}
use Rattle.answer.specs.declared.Refused.{Refused}
use Rattle.form.specs.declared.Form.{Form}
use Rattle.form.specs.Ranges.{WellFormed}
use Rattle.reader.specs.Outcome.{record_in}
use Rattle.reader.specs.Reading.{read_form}
use Rattle.record.specs.ReadFirst.{first-refused, first-asked}
use Rattle.legal.specs.Loop.{loop_of, pair_of}
use Rattle.legal.specs.Shape.{sound-form, plain_form}
use Rattle.legal.specs.Knots.{free-unknotted}
use Rattle.legal.specs.Legal.{Legal}
use Rattle.legal.specs.Paced.{legal-free}
use Rattle.legal.specs.Judging.{judge_of}
use Rattle.legal.specs.Judged.{judge-accepts}
use Rattle.judge.specs.Judgement.{judge_record}
use Rattle.floor.specs.declared.Attained.{Attained}
use Rattle.floor.specs.Outcome.{floored_in}
use Rattle.floor.specs.Bounds.{floor-bound}
use Rattle.floor.specs.Floor.{floor_refusal, FormFloored}
use Rattle.listing.specs.Lines.{listing_of}
use Rattle.listing.specs.Shown.{Viewed, view_text}

-- a refusal's number is small
pub small_number : (e : Refusal) → number_of (Some e) ≤ 20
small_number (Short a) = omega arith
small_number (Mark a) = omega arith
small_number (Version a) = omega arith
small_number (Count a) = omega arith
small_number (Machine a) = omega arith
small_number (Node a) = omega arith
small_number (Edge a) = omega arith
small_number (Start a) = omega arith
small_number (Retiming a) = omega arith
small_number (Tail a) = omega arith
small_number Bare = omega arith
small_number Knot = omega arith
small_number (Dependence a) = omega arith
small_number NoRetiming = omega arith
small_number (Units a b) = omega arith
small_number (Size a) = omega arith
small_number Long = omega arith
small_number (Room a) = omega arith
small_number (Early a b c) = omega arith
small_number (Busy a b c) = omega arith

-- ---- what a record shows

-- a refusal shows its number alone
refused-viewed : (s : List ℕ) (e : Refused) → judge_record s ≡ Some e.refusal → Viewed s (Err e)
unfolding view_text listing_of pick
refused-viewed s e is = record { text = rw (is, refused_fine e.refusal); seen = tt }

-- the reader's
pub read-viewed : (s : List ℕ) (e : Refused) → record_in (Err e.refusal) ≡ read_form s → Viewed s (Err e)
unfolding judge_record
read-viewed s e back = refused-viewed s e (first-refused s _ back judge_of (refused_fine e.refusal))

-- the judge's, and a form that it accepts
module _ (s : List ℕ) (f : Form) (back : record_in (Ok f) ≡ read_form s) where
  judged : judge_record s ≡ judge_of f
  unfolding judge_record fine
  judged = first-asked s _ back judge_of refl

  pub judged-viewed : (e : Refused) → Some e.refusal ≡ judge_of f → Viewed s (Err e)
  judged-viewed e is = refused-viewed s e (judged ∙ sym is)

  module _ (w : WellFormed f) (accepts : None ≡ judge_of f) where
    legal : Legal (loop_of f) (pair_of f)
    legal = (judge-accepts f w (sym accepts)).1

    -- a loop without a knot is not refused its floor
    unrefused : floor_refusal f ≡ None
    unfolding floor_refusal
    unrefused =
        pick-false _ _ _ (free-unknotted (loop_of f) (sound-form f w) (legal-free (loop_of f) (pair_of f) (sound-form f w) legal))

    pub floor-viewed : (e : Refused) → FormFloored f (floored_in (Err e)) → Viewed s (Err e)
    floor-viewed e floored = let z : Some e.refusal ≡ None = floored.refusal ∙ unrefused in cc

    pub form-viewed : (a : Attained) → FormFloored f (floored_in (Ok a)) → Viewed s (Ok (record { form = f; floor = a.floor }))
    unfolding view_text listing_of fine pick pair_of
    form-viewed a floored = record {
      text = rw (judged ∙ sym accepts, ← back);
      seen = record {
        good = w;
        nodes = w.nodes.1;
        edges = w.edges;
        length = w.length;
        near = omega (arith, floored.floor, floor-bound (loop_of f) (pair_of f) (sound-form f w) legal (plain_form f));
        is = floored.floor;
      };
    }
