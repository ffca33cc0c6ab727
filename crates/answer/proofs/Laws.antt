-- The stores of an answer: a run that a function fills, and a cycle's edges.
-- Assumes nothing.
use Rattle.std.specs.Prelude.{Option, None, Some, unwrap_or}
use mathlib.Core.Path.{◌≡◌, refl, sym, ◌∙◌}
use mathlib.Core.List.{List, [], ◌∷◌, map}
use Prim.Native.Nat.{ℕ, ◌+◌}
use native.Mathlib.Nat.{zero-add}
use native.Mathlib.Numerals.{add-one}
use native.Mathlib.Omega.{arith}
use lib.ListN.{length, length-map}
use lib.Seq.{sets, length-sets, take_all}
use Rattle.lists.specs.Span.{span, span-length}
use Rattle.lists.specs.Mapped.{map_snoc}
use Rattle.lists.specs.Stored.{sets-append, sets-front}
use Rattle.answer.specs.declared.Cycle.{Cycle}
use Rattle.lists.specs.Pick.{pick}
use Rattle.answer.specs.Refused.{Verdict, fine, details_of, refused_fine}
use Rattle.answer.specs.declared.Refusal.{Refusal}
use Rattle.answer.specs.declared.Details.{Details}
use Rattle.answer.specs.Outcome.{no_cycle, cycle_or, told_of, cycle_edge, cycle_list, outcome_list, told_list}

-- a list as long as the one that it is stored into
pub sets-whole : (l vs : List ℕ) → length vs ≡ length l → sets l 0 vs ≡ vs
sets-whole l vs h = sym (take_all (length vs) _ (omega (arith, length-sets l 0 vs))) ∙ sets-front l vs (omega arith)

-- one place more of a run that a function fills
pub place-more : (l out : List ℕ) (g : ℕ → ℕ) (at i a : ℕ) → out ≡ sets l at (map g (span 0 i)) → a ≡ g i → sets out (at + i) (a ∷ []) ≡ sets l at (map g (span 0 (i + 1)))
place-more l out g at i a e h =
    let n : length (map g (span 0 i)) ≡ i = length-map (span 0 i) g ∙ span-length 0 i in
    rw (e, h, add-one, map_snoc g 0 i, sets-append (map g (span 0 i)), n, zero-add)

cycle-length : (c : Cycle) → length (cycle_list c) ≡ 64
unfolding cycle_list
cycle-length c = length-map (span 0 64) (cycle_edge c) ∙ span-length 0 64

-- an answer has 69 places
pub answer-long : (r : Verdict) (told : Details) (c : Cycle) → length (told_list r told c) ≡ 69
unfolding told_list outcome_list
answer-long r told c = omega (arith, cycle-length c)

-- the first five places, then the cycle's, are the whole answer
pub answer-whole : (l first last : List ℕ) (r : Verdict) (told : Details) (c : Cycle) → length l ≡ 69
    → first ≡ sets l 0 (outcome_list r told c.count) → last ≡ sets first 5 (cycle_list c) → last ≡ told_list r told c
unfolding told_list outcome_list
answer-whole l first last r told c h ef el =
    rw (el, ef) (sym (sets-append (outcome_list r told c.count) (cycle_list c) l 0) ∙ sets-whole l (told_list r told c) (answer-long r told c ∙ sym h))

-- what is told where nothing is refused, and where a refusal is
pub told-fine : (numbers : Details) → told_of None numbers ≡ numbers
unfolding told_of fine pick
told-fine numbers = refl

pub told-refused : (e : Refusal) (numbers : Details) → told_of (Some e) numbers ≡ details_of (Some e)
unfolding told_of pick
told-refused e numbers = rw (refused_fine e)

-- the cycle handed over, or none
pub handed_or : (cycle : Option Cycle) → unwrap_or cycle no_cycle ≡ cycle_or cycle
handed_or None = refl
handed_or (Some c) = refl
