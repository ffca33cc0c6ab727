-- The plain loop's contract leaves one possibility for the values: two buffers that meet it are the same.
-- Assumes nothing.
use Rattle.std.specs.Prelude.{◌≡◌, refl, Bool, true, false, List, ℕ, ◌*◌, ◌/◌, ◌%◌, ◌<◌, length, get_or}
use Rattle.std.proofs.Common.{sym, ◌∙◌, ap, subst, arith, ext_get_or}
use Rattle.std.proofs.Math.Decide.{dec_lt}
use Rattle.lists.specs.Pick.{pick_ind, both_ways}
use Rattle.lists.specs.Quotient.{row_of}
use Rattle.answer.specs.Refused.{Verdict, fine}
use Rattle.field.specs.Number.{Bytes}
use Rattle.reader.specs.Reading.{read_form}
use Rattle.record.specs.Read.{read-well-formed}
use Rattle.record.specs.ReadFirst.{neither-refused}
use Rattle.legal.specs.Loop.{Loop, loop_of}
use Rattle.legal.specs.Shape.{Sound, sound-form}
use Rattle.legal.specs.Systems.{knotted}
use Rattle.legal.specs.Knots.{Free, unknotted-free}
use Rattle.machine.specs.Unique.{unique}
use Rattle.plain.specs.Outcome.{Looped}
use Rattle.plain.specs.Answer.{plain_of, plain_record, LoopRan, RecordLooped}

-- where nothing is refused the loop has no knot
plain-free : (g : Loop) (k starts values : ℕ) → fine (plain_of g k starts values) ≡ true → knotted g ≡ false
unfolding plain_of fine
plain-free g k starts values =
    pick_ind (λ (r : Verdict). fine r ≡ true → knotted g ≡ false) (knotted g) _ _ (λ e f. both_ways f refl) (λ e f. e)

-- two buffers after the same loop are the same
ran-once : (g : Loop) → Sound g → Free g → (k : ℕ) (starts before xs ys : List ℕ) → LoopRan g k starts before xs → LoopRan g k starts before ys → xs ≡ ys
ran-once g sound free k starts before xs ys a b = ext_get_or 0 xs ys (a.kept.long ∙ sym b.kept.long) at
  where
    at : (x : ℕ) → x < length xs → get_or xs x 0 ≡ get_or ys x 0
    at x l =
        elim (dec_lt x (k * g.graph.nodes)) [
          | yes h ↦ let t = row_of x k g.graph.nodes h sound.some in
              subst (λ (y : ℕ). get_or xs y 0 ≡ get_or ys y 0) t.2 (unique g sound starts k xs ys a.plain b.plain free (x / g.graph.nodes) (x % g.graph.nodes) t.0 t.1)
          | no h ↦ a.kept.rest x (omega arith) ∙ sym (b.kept.rest x (omega arith))
        ]

-- the record, the number of iterations and the lent tables settle the refusal and the values
pub settled : (s : List ℕ) → Bytes s → (k : ℕ) (starts before xs ys : List ℕ) (r q : Looped)
    → RecordLooped s k starts before xs r → RecordLooped s k starts before ys q → (r.refusal ≡ q.refusal) × (xs ≡ ys)
unfolding plain_record
settled s bytes k starts before xs ys r q a b = (same, go (fine r.refusal) refl)
  where
    same : r.refusal ≡ q.refusal
    same = a.refusal ∙ sym b.refusal

    go : (t : Bool) → fine r.refusal ≡ t → xs ≡ ys
    go true f =
        let good = neither-refused s (λ f. plain_of (loop_of f) k (length starts) (length before)) (sym (ap fine a.refusal) ∙ f) in
        let sound = sound-form (read_form s).form (read-well-formed s bytes good.0) in
        ran-once (loop_of (read_form s).form) sound (unknotted-free (loop_of (read_form s).form) (plain-free (loop_of (read_form s).form) k (length starts) (length before) good.1)) k starts before xs ys (a.done f) (b.done (sym (ap fine same) ∙ f))
    go false f = a.untouched f ∙ sym (b.untouched (sym (ap fine same) ∙ f))
