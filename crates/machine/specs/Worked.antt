-- The small loop's run: three iterations, node 2 starting at 5 and 7.
-- Assumes nothing.
use Rattle.std.specs.Prelude.{◌≡◌, refl, List, [], ◌∷◌, ℕ, get_or, set, replicate, None}
use Rattle.lists.specs.Pick.{pick}
use Rattle.lists.specs.Span.{span}
use Rattle.lists.specs.Fold.{count, fold, top}
use Rattle.lists.specs.First.{first_from}
use Rattle.answer.specs.Refused.{fine}
use Rattle.form.specs.Hold.{hold}
use Rattle.legal.specs.Loop.{plain, Pair}
use Rattle.legal.specs.Small.{small}
use Rattle.machine.specs.Values.{plus, minus, times, difference, applied, edges_into, operand_by, computed_by}
use Rattle.machine.specs.Run.{depth, issues, late, late_edge, holds, held_now, issue, visit, step_of, run_steps, ran, cleared, run_of}

unfoldable pub small_pair : Pair
small_pair = record { kind = plain; start = λ v. get_or (1 ∷ 1 ∷ 2 ∷ []) v 0; length = 2; retiming = λ v. get_or (1 ∷ 0 ∷ 0 ∷ []) v 0 }

unfoldable pub small_starts : List ℕ
small_starts = set (set (replicate 45 0) 30 5) 31 7

pub worked : (run_of small small_pair small_starts 3 (replicate 9 7) (replicate 10 7)
    ≡ record {
      values = 21 ∷ 22 ∷ 22 ∷ 15 ∷ 16 ∷ 16 ∷ 66 ∷ 67 ∷ 67 ∷ [];
      finish = 3 ∷ 4 ∷ 5 ∷ 5 ∷ 6 ∷ 7 ∷ 7 ∷ 8 ∷ 9 ∷ 7 ∷ [];
      refusal = None;
    })
    × (run_steps small small_pair small_starts 3 ≡ 8)
    × (run_steps small small_pair small_starts 0 ≡ 2)
unfolding small small_pair small_starts pick span count fold top first_from fine hold plus minus times difference applied edges_into operand_by computed_by depth issues late late_edge holds held_now issue visit step_of run_steps ran cleared run_of
worked = (refl, refl, refl)
