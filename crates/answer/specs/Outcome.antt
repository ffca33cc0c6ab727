-- The list of an answer, as others link it: the refusal's number, three details or numbers, and the cycle handed over.
-- Assumes nothing.
use Rattle.std.specs.Prelude.{List, [], ◌∷◌, ◌++◌, map, ℕ, ltb, get_or, take, replicate, Option, None, Some, Result, Ok, Err, IsErrAnd}
use Rattle.std.proofs.Common.{◌≡◌, ap}
use Rattle.lists.specs.Pick.{pick}
use Rattle.lists.specs.Span.{span}
use Rattle.answer.specs.Refused.{Verdict, number_of, fine, details_of}
use Rattle.answer.specs.declared.Refusal.{Refusal}
use Rattle.answer.specs.declared.Details.{Details}
use Rattle.answer.specs.declared.Cycle.{Cycle}

abbrev pub no_cycle : Cycle
no_cycle = record { count = 0; edges = replicate 64 0 }

-- the edges that a cycle hands over
abbrev pub edges_of : Cycle → List ℕ
edges_of c = take c.count c.edges

-- the cycle handed over, if one is
abbrev pub cycle_or : Option Cycle → Cycle
cycle_or None = no_cycle
cycle_or (Some c) = c

-- what an outcome refuses, if anything
abbrev pub refusal_in : {T : Type 0} → Result T Refusal → Verdict
refusal_in (Ok value) = None
refusal_in (Err refusal) = Some refusal

-- the error that `?` hands on
pub err-is : {T E : Type 0} (r : Result T E) (e : E) → IsErrAnd r (λ x. x ≡ e) → r ≡ Err e
err-is (Ok value) e h = absurd h
err-is (Err x) e h = ap Err h

-- the details of what is refused; where nothing is, the answer's numbers
unfoldable pub told_of : Verdict → Details → Details
told_of r numbers = pick (fine r) numbers (details_of r)

-- edge i of a cycle, 0 past its count
unfoldable pub cycle_edge : Cycle → ℕ → ℕ
cycle_edge c i = pick (ltb i c.count) (get_or c.edges i 0) 0

-- the places after a cycle's count
unfoldable pub cycle_list : Cycle → List ℕ
cycle_list c = map (cycle_edge c) (span 0 64)

-- the places up to a cycle's count
unfoldable pub outcome_list : Verdict → Details → ℕ → List ℕ
outcome_list r told count = number_of r ∷ told.first ∷ told.second ∷ told.third ∷ count ∷ []

-- all places, whatever is told beside the refusal's number
unfoldable pub told_list : Verdict → Details → Cycle → List ℕ
told_list r told c = outcome_list r told c.count ++ cycle_list c

-- of an answer that tells its numbers only where nothing is refused
abbrev pub answer_list : Verdict → Details → Cycle → List ℕ
answer_list r numbers = told_list r (told_of r numbers)
