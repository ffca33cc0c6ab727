-- Demand 1, the cycle beside an answer. Each linked function tells at place 4 how many edges it hands over, and from place 5 on these edges:
-- with Knot a knot, with NoRetiming a cycle with negative limit sum, with the floor by part c a cycle that breaks the length below.
-- Assumes nothing.
use Rattle.std.proofs.Math.Path.{◌≡◌, refl, ap}
use Rattle.std.proofs.Common.{sym, subst, ◌∙◌, arith}
use Rattle.std.specs.Prelude.{Bool, ◌≢◌, ℕ, ◌-◌, length, None, Some}
use Rattle.std.proofs.Math.Bool.{true, false}
use mathlib.Core.List.{List, []}
use Rattle.std.proofs.Math.ListN.{get_or}
use borrow.Author.Tests.{eqb-true, eq-eqb}
use Rattle.lists.specs.Pick.{pick, pick_true, pick-false}
use Rattle.answer.specs.Refused.{Verdict, number_of, fine, details}
use Rattle.answer.specs.Outcome.{edges_of, outcome_list, told_list, answer_list, told_of}
use Rattle.answer.specs.Tally.{Tallies, told_cycle, told-edges, told-count}
use Rattle.answer.specs.declared.Cycle.{Cycle}
use Rattle.answer.specs.declared.Details.{Details}
use Rattle.answer.specs.declared.Refusal.TheVariants as refusal
use Rattle.reader.specs.Reading.{read_form}
use Rattle.system.specs.System.{Losing}
use Rattle.legal.specs.Loop.{Loop, Pair, loop_of, pair_of}
use Rattle.legal.specs.Legal.{Knot}
use Rattle.legal.specs.Systems.{Impossible, paces}
use Rattle.legal.specs.Handed.{Handed}
use Rattle.floor.specs.Outcome.{Floored}
use Rattle.floor_part.specs.Parts.{Part}
use Rattle.floor_part.specs.Parts as part
use Rattle.floor.specs.Parts.{floor_length}
use Rattle.floor_part.specs.Numbers.{part_number, part_class}
use Rattle.floor.specs.Floor.{RecordFloored}
use Rattle.rsk_c.specs.Answered.{Answered, JudgeAnswered, FitAnswered, FirstAnswered, RotateAnswered, SearchAnswered, PlainAnswered, FloorAnswered, RunAnswered}

-- ---- which refusal a number is, of those that a cycle stands beside

record Cycled (r : Verdict) : Type 0 where
  is_knot : number_of r ≡ 12 → r ≡ Some refusal.Knot
  is_unfit : number_of r ≡ 14 → r ≡ Some refusal.NoRetiming

others : (r : Verdict) → number_of r ≢ 12 → number_of r ≢ 14 → Cycled r
others r a b = record { is_knot = λ e. absurd (a e); is_unfit = λ e. absurd (b e) }

cycled : (r : Verdict) → Cycled r
cycled None = others None (omega arith) (omega arith)
cycled (Some (refusal.Short a)) = others (Some (refusal.Short a)) (omega arith) (omega arith)
cycled (Some (refusal.Mark a)) = others (Some (refusal.Mark a)) (omega arith) (omega arith)
cycled (Some (refusal.Version a)) = others (Some (refusal.Version a)) (omega arith) (omega arith)
cycled (Some (refusal.Count a)) = others (Some (refusal.Count a)) (omega arith) (omega arith)
cycled (Some (refusal.Machine a)) = others (Some (refusal.Machine a)) (omega arith) (omega arith)
cycled (Some (refusal.Node a)) = others (Some (refusal.Node a)) (omega arith) (omega arith)
cycled (Some (refusal.Edge a)) = others (Some (refusal.Edge a)) (omega arith) (omega arith)
cycled (Some (refusal.Start a)) = others (Some (refusal.Start a)) (omega arith) (omega arith)
cycled (Some (refusal.Retiming a)) = others (Some (refusal.Retiming a)) (omega arith) (omega arith)
cycled (Some (refusal.Tail a)) = others (Some (refusal.Tail a)) (omega arith) (omega arith)
cycled (Some refusal.Bare) = others (Some refusal.Bare) (omega arith) (omega arith)
cycled (Some refusal.Knot) = record { is_knot = λ e. refl; is_unfit = λ e. absurd (omega arith) }
cycled (Some (refusal.Dependence a)) = others (Some (refusal.Dependence a)) (omega arith) (omega arith)
cycled (Some refusal.NoRetiming) = record { is_knot = λ e. absurd (omega arith); is_unfit = λ e. refl }
cycled (Some (refusal.Units a b)) = others (Some (refusal.Units a b)) (omega arith) (omega arith)
cycled (Some (refusal.Size a)) = others (Some (refusal.Size a)) (omega arith) (omega arith)
cycled (Some refusal.Long) = others (Some refusal.Long) (omega arith) (omega arith)
cycled (Some (refusal.Room a)) = others (Some (refusal.Room a)) (omega arith) (omega arith)
cycled (Some (refusal.Early a b c)) = others (Some (refusal.Early a b c)) (omega arith) (omega arith)
cycled (Some (refusal.Busy a b c)) = others (Some (refusal.Busy a b c)) (omega arith) (omega arith)

-- ---- what is told of a cycle

-- place 4 is the number of edges told: with 12 they are a knot, with 14 a cycle with negative limit sum, else there are none
pub record CycleTold (g : Loop) (p : Pair) (number : ℕ) (list : List ℕ) : Type 0 where
  pub count : get_or list 4 0 ≡ length (told_cycle list)
  pub knot : number ≡ 12 → Knot g (told_cycle list)
  pub impossible : number ≡ 14 → Impossible g p (told_cycle list)
  pub none : number ≢ 12 → number ≢ 14 → told_cycle list ≡ []

module _ (A : Type 0) (meets : A → Type 0) (refused : A → Verdict) (told : A → Details) (cycle : A → Cycle) (number : ℕ) (list : List ℕ)
    (a : Answered A meets refused told cycle number list) where
  module _ (tallies : (x : A) → meets x → Tallies (cycle x)) where
    told_is : told_cycle list ≡ edges_of (cycle a.given)
    told_is = ap told_cycle a.list_is ∙ told-edges (cycle a.given) (tallies a.given a.met) (refused a.given) (told a.given)

    count-is : get_or list 4 0 ≡ length (told_cycle list)
    count-is =
        ap (λ (xs : List ℕ). get_or xs 4 0) a.list_is
        ∙ told-count (cycle a.given) (tallies a.given a.met) (refused a.given) (told a.given)
        ∙ ap length (sym told_is)

  -- whatever the function, where its contract hands a cycle over
  handed-told : (g : Loop) (p : Pair) → ((x : A) → meets x → Handed g p (refused x) (cycle x)) → CycleTold g p number list
  handed-told g p handed =
      let h = handed a.given a.met in
      let is = told_is (λ x m. (handed x m).tallies) in
      let c = cycled (refused a.given) in
      record {
        count = count-is (λ x m. (handed x m).tallies);
        knot = λ e. subst (Knot g) (sym is) (h.knot (c.is_knot (sym a.number_is ∙ e)));
        impossible = λ e. subst (Impossible g p) (sym is) (h.impossible (c.is_unfit (sym a.number_is ∙ e)));
        none = λ k n. is ∙ ap edges_of (h.none (λ e. k (a.number_is ∙ ap number_of e)) (λ e. n (a.number_is ∙ ap number_of e)));
      }

-- ---- the linked functions

module _ (s : List ℕ) where
  abbrev read_loop : Loop
  read_loop = loop_of (read_form s).form

  abbrev read_pair : Pair
  read_pair = pair_of (read_form s).form

  pub judge-cycle : (number : ℕ) (list : List ℕ) → JudgeAnswered s number list → CycleTold read_loop read_pair number list
  judge-cycle number list a = handed-told _ _ _ _ _ number list a read_loop read_pair (λ x m. m.handed)

  pub fit-cycle : (out after : List ℕ) (number : ℕ) (list : List ℕ) → FitAnswered s out after number list → CycleTold read_loop read_pair number list
  fit-cycle out after number list a = handed-told _ _ _ _ _ number list a read_loop read_pair (λ x m. m.handed)

  pub first-cycle : (out after : List ℕ) (number : ℕ) (list : List ℕ) → FirstAnswered s out after number list → CycleTold read_loop read_pair number list
  first-cycle out after number list a = handed-told _ _ _ _ _ number list a read_loop read_pair (λ x m. m.handed)

  pub rotate-cycle : (z : ℕ) (out after : List ℕ) (number : ℕ) (list : List ℕ) → RotateAnswered z s out after number list → CycleTold read_loop read_pair number list
  rotate-cycle z out after number list a = handed-told _ _ _ _ _ number list a read_loop read_pair (λ x m. m.handed)

  pub search-cycle : (c z : ℕ) (out after : List ℕ) (number : ℕ) (list : List ℕ) → SearchAnswered c z s out after number list → CycleTold read_loop read_pair number list
  search-cycle c z out after number list a = handed-told _ _ _ _ _ number list a read_loop read_pair (λ x m. m.handed)

  pub plain-cycle : (k : ℕ) (starts before after : List ℕ) (number : ℕ) (list : List ℕ) → PlainAnswered k s starts before after number list → CycleTold read_loop read_pair number list
  plain-cycle k starts before after number list a = handed-told _ _ _ _ _ number list a read_loop read_pair (λ x m. m.handed)

  -- a run hands none over
  pub run-cycle : (k : ℕ) (starts values₀ finish₀ values finish : List ℕ) (number : ℕ) (list : List ℕ) → RunAnswered k s starts values₀ finish₀ values finish number list
      → (get_or list 4 0 ≡ 0) × (told_cycle list ≡ [])
  unfolding told_list outcome_list
  run-cycle k starts values₀ finish₀ values finish number list a = (ap (λ (xs : List ℕ). get_or xs 4 0) a.list_is, ap told_cycle a.list_is)

  -- the floor: with part 3 a cycle that the length below the floor is too short for
  pub record FloorCycleTold (number : ℕ) (list : List ℕ) : Type 0 where
    pub count : get_or list 4 0 ≡ length (told_cycle list)
    pub knot : number ≡ 12 → Knot read_loop (told_cycle list)
    pub breaks : number ≡ 0 → get_or list 2 0 ≡ 3 → Losing (paces read_loop (get_or list 1 0 - 1)) (told_cycle list)
    pub none : number ≢ 12 → (number ≡ 0 → get_or list 2 0 ≢ 3) → told_cycle list ≡ []

  -- which part a number is
  part-cycle : (x : Part) → part_number x ≡ 3 → x ≡ part.Cycle
  part-cycle part.None e = absurd (omega arith)
  part-cycle part.Latency e = absurd (omega arith)
  part-cycle (part.Units c) e = absurd (omega arith)
  part-cycle part.Cycle e = refl

  module _ (number : ℕ) (list : List ℕ) (a : FloorAnswered s number list) where
    abbrev floored : Floored
    floored = a.given

    tallied : (x : Floored) → RecordFloored s x → Tallies x.cycle
    tallied x m = m.cycle.tallies

    told_here : told_cycle list ≡ edges_of floored.cycle
    told_here = told_is _ _ _ _ _ number list a tallied

    -- where nothing is refused the first two numbers are the floor and its part's
    fine-here : number ≡ 0 → fine floored.refusal ≡ true
    unfolding fine
    fine-here e = eq-eqb _ _ (sym a.number_is ∙ e)

    number_at : (i : ℕ) → get_or list i 0 ≡ get_or (answer_list floored.refusal (details floored.floor (part_number floored.part) (part_class floored.part)) floored.cycle) i 0
    number_at i = ap (λ (xs : List ℕ). get_or xs i 0) a.list_is

    floor-told : number ≡ 0 → get_or list 1 0 ≡ floor_length read_loop
    unfolding told_list outcome_list told_of pick
    floor-told e = number_at 1 ∙ rw (fine-here e) refl ∙ a.met.floor ∙ pick_true _ _ _ (fine-here e)

    part-told : number ≡ 0 → get_or list 2 0 ≡ part_number floored.part
    unfolding told_list outcome_list told_of pick
    part-told e = number_at 2 ∙ rw (fine-here e) refl

    -- a part is named only where nothing is refused
    cycle-fine : floored.part ≡ part.Cycle → number ≡ 0
    unfolding fine
    cycle-fine e = go (fine floored.refusal) refl
      where
        go : (b : Bool) → fine floored.refusal ≡ b → number ≡ 0
        go true q = a.number_is ∙ eqb-true _ _ q
        go false q = let clash : ◌≡◌ {A = ℕ} 3 0 = ap part_number (sym e ∙ a.met.part ∙ pick-false _ _ _ q) in absurd (omega arith)

    pub floor-cycle : FloorCycleTold number list
    floor-cycle = record {
      count = count-is _ _ _ _ _ number list a tallied;
      knot = λ e. subst (Knot read_loop) (sym told_here) (a.met.cycle.knot ((cycled floored.refusal).is_knot (sym a.number_is ∙ e)));
      breaks = λ e p. rw (told_here, floor-told e) (a.met.cycle.breaks (part-cycle floored.part (sym (part-told e) ∙ p)));
      none = λ k n. told_here ∙ ap edges_of (a.met.cycle.none (λ e. k (a.number_is ∙ ap number_of e)) (λ e. n (cycle-fine e) (part-told (cycle-fine e) ∙ ap part_number e)));
    }
