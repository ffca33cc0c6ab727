-- The small loop: what every entry point answers of it, as one table under one statement, computed over the contracts' definitions.
-- Assumes nothing.
use Rattle.std.specs.Prelude.{◌≡◌, refl, List, [], ◌∷◌, ◌++◌, map, ℕ, replicate, set}
use Rattle.lists.specs.Pick.{pick}
use Rattle.lists.specs.Span.{span}
use Rattle.lists.specs.Filled.{filled}
use Rattle.lists.specs.Fold.{sum_of, count, fold, top}
use Rattle.lists.specs.First.{first_from}
use Rattle.answer.specs.Refused.{Verdict, number_of, details_of, fine}
use Rattle.form.specs.declared.Form.{Form}
use Rattle.form.specs.Places.{empty_form}
use Rattle.system.specs.Rounds.{asks, raise, raise_all, raises, every_edge, round, settle_from, settled_of}
use Rattle.system.specs.Turned.{top_of, turned_at}
use Rattle.form.specs.Hold.{hold}
use Rattle.legal.specs.Loop.{graph_of, loop_of, pair_of}
use Rattle.legal.specs.Legal.{busy}
use Rattle.legal.specs.Held as body
use Rattle.legal.specs.Systems.{knots, knotted, lateness, limits, paces}
use Rattle.legal.specs.Judging.{breaks, broken_edge, over, over_class, over_step, units_of, rules_of, judge_of}
use Rattle.tables.specs.Times.{times_of}
use Rattle.fit.specs.Retimed.{retimings, with_retiming, fitted_form}
use Rattle.fit.specs.Fitting.{fit_of}
use Rattle.floor.specs.Parts.{latency_part, nodes_on, units_part, units_parts, cycle_part, floor_length}
use Rattle.floor_part.specs.Numbers.{part_number, part_class}
use Rattle.floor.specs.Floor.{part_of, floor_refusal}
use Rattle.reach.specs.Weight.{tight, spread, sweep, reach, reached_from, weight}
use Rattle.list_rule.specs.Order.{insert, order_of}
use Rattle.list_rule.specs.Rule.{uses, use_of, free, blocks, ready, place, fill_step, are_all_placed, fill_from, list_rule_of, length_of}
use Rattle.list_rule.specs.FirstLegal.{first_starts}
use Rattle.turning.specs.Turned.{gained_by, dropped_by}
use Rattle.turning.specs.TurnedLegal.{turned_starts}
use Rattle.plans.specs.Pairs.{with_pair}
use Rattle.turning.specs.Rotation.{first_form, rotated_starts, rotated_length, rotated, too_long}
use Rattle.rotation.specs.Rotating.{first_asked, turns, rotate_asked}
use Rattle.turning.specs.Worked.{small_form, pair_in}
use Rattle.search.specs.Search.{halved, stops, shorter, turn, begun, search_from, searched}
use Rattle.search.specs.Searching.{search_asked, search_form, search_turns}
use Rattle.machine.specs.Values.{plus, minus, times, difference, applied, edges_into, operand_by, computed_by}
use Rattle.machine.specs.Run.{Machine, depth, issues, late, late_edge, holds, held_now, issue, visit, step_of, run_steps, ran, cleared, run_of}

-- the small loop with a pair: starts, length and retimings of its three nodes
unfoldable pub small_with : List ℕ → ℕ → List ℕ → Form
small_with s l r = with_pair small_form (s ++ replicate 61 0) l (r ++ replicate 61 0)

-- node 2 starts at 5 (one iteration before the first) and 7 (two before)
unfoldable pub start_table : List ℕ
start_table = set (set (replicate 45 0) 30 5) 31 7

-- what is asked
pub data Asked : Type 0 where
  first : Asked
  rotate : ℕ → Form → Asked
  search : ℕ → ℕ → Asked
  floor : Asked
  fit : Form → Asked
  judge : Form → Asked
  run : ℕ → Form → Asked

-- a refusal: its number and its details
unfoldable pub told : Verdict → List ℕ
told r = number_of r ∷ (details_of r).first ∷ (details_of r).second ∷ (details_of r).third ∷ []

-- what is refused, then, where nothing is, the rest of the answer
unfoldable pub answer : Verdict → List ℕ → List ℕ
answer r rest = told r ++ pick (fine r) rest []

-- each edge's delays, and what its limit is less than these
unfoldable pub limits_in : Form → List ℕ
limits_in f = map (loop_of f).delay (span 0 3) ++ map (lateness (loop_of f) (pair_of f)) (span 0 3)

-- first, rotate: length, starts, retimings; search: rotations before them; floor: floor, part, class; fit: the limits before the refusal
unfoldable pub answer_to : Asked → List ℕ
answer_to first = answer (first_asked small_form) (pair_in (first_form small_form))
answer_to (rotate z f) = answer (rotate_asked z f) (pair_in (rotated f z))
answer_to (search c z) = answer (search_asked z small_form) (search_turns c z small_form ∷ pair_in (search_form c z small_form))
answer_to floor =
    answer (floor_refusal small_form)
    (floor_length (loop_of small_form) ∷ part_number (part_of (loop_of small_form)) ∷ part_class (part_of (loop_of small_form)) ∷ [])
answer_to (fit f) = limits_in f ++ answer (fit_of f) (pair_in (fitted_form f))
answer_to (judge f) = answer (judge_of f) []
answer_to (run k f) =
    let m : Machine = run_of (loop_of f) (pair_of f) start_table k (replicate 9 7) (replicate 10 7) in
    answer m.refusal (run_steps (loop_of f) (pair_of f) start_table k ∷ (m.values ++ m.finish))

pub record Case : Type 0 where
  pub asked : Asked
  pub given : List ℕ

unfoldable pub worked : List Case
worked =
    record { asked = first; given = 0 ∷ 0 ∷ 0 ∷ 0 ∷ 4 ∷ 1 ∷ 3 ∷ 4 ∷ 0 ∷ 0 ∷ 0 ∷ [] }
    ∷ record { asked = rotate 1 (small_with (1 ∷ 3 ∷ 4 ∷ []) 4 (0 ∷ 0 ∷ 0 ∷ [])); given = 0 ∷ 0 ∷ 0 ∷ 0 ∷ 3 ∷ 1 ∷ 2 ∷ 3 ∷ 1 ∷ 0 ∷ 0 ∷ [] }
    ∷ record { asked = rotate 1 (small_with (1 ∷ 2 ∷ 3 ∷ []) 3 (1 ∷ 0 ∷ 0 ∷ [])); given = 0 ∷ 0 ∷ 0 ∷ 0 ∷ 4 ∷ 3 ∷ 1 ∷ 2 ∷ 1 ∷ 0 ∷ 0 ∷ [] }
    ∷ record { asked = rotate 2 (small_with (1 ∷ 2 ∷ 3 ∷ []) 3 (1 ∷ 0 ∷ 0 ∷ [])); given = 0 ∷ 0 ∷ 0 ∷ 0 ∷ 3 ∷ 2 ∷ 2 ∷ 1 ∷ 2 ∷ 1 ∷ 0 ∷ [] }
    ∷ record { asked = search 1 5; given = 0 ∷ 0 ∷ 0 ∷ 0 ∷ 1 ∷ 2 ∷ 1 ∷ 1 ∷ 2 ∷ 1 ∷ 0 ∷ 0 ∷ [] }
    ∷ record { asked = search 0 5; given = 0 ∷ 0 ∷ 0 ∷ 0 ∷ 0 ∷ 4 ∷ 1 ∷ 3 ∷ 4 ∷ 0 ∷ 0 ∷ 0 ∷ [] }
    ∷ record { asked = floor; given = 0 ∷ 0 ∷ 0 ∷ 0 ∷ 2 ∷ 1 ∷ 0 ∷ [] }
    ∷ record { asked = fit (small_with (1 ∷ 1 ∷ 1 ∷ []) 2 (0 ∷ 0 ∷ 0 ∷ [])); given = 0 ∷ 0 ∷ 2 ∷ 1 ∷ 1 ∷ 1 ∷ 14 ∷ 0 ∷ 0 ∷ 0 ∷ [] }
    ∷ record { asked = fit (small_with (1 ∷ 1 ∷ 2 ∷ []) 2 (0 ∷ 0 ∷ 0 ∷ [])); given = 0 ∷ 0 ∷ 2 ∷ 1 ∷ 0 ∷ 1 ∷ 0 ∷ 0 ∷ 0 ∷ 0 ∷ 2 ∷ 1 ∷ 1 ∷ 2 ∷ 1 ∷ 0 ∷ 0 ∷ [] }
    ∷ record { asked = judge (small_with (1 ∷ 1 ∷ 2 ∷ []) 2 (0 ∷ 0 ∷ 0 ∷ [])); given = 13 ∷ 0 ∷ 0 ∷ 0 ∷ [] }
    ∷ record { asked = rotate 2 (small_with (1 ∷ 1 ∷ 2 ∷ []) 2 (1 ∷ 0 ∷ 0 ∷ [])); given = 16 ∷ 2 ∷ 0 ∷ 0 ∷ [] }
    ∷ record {
      asked = run 3 (small_with (1 ∷ 1 ∷ 2 ∷ []) 2 (1 ∷ 0 ∷ 0 ∷ []));
      given =
          0 ∷ 0 ∷ 0 ∷ 0 ∷ 8
          ∷ 21 ∷ 22 ∷ 22 ∷ 15 ∷ 16 ∷ 16 ∷ 66 ∷ 67 ∷ 67
          ∷ 3 ∷ 4 ∷ 5 ∷ 5 ∷ 6 ∷ 7 ∷ 7 ∷ 8 ∷ 9 ∷ 7 ∷ [];
    }
    ∷ record {
      asked = run 0 (small_with (1 ∷ 1 ∷ 2 ∷ []) 2 (1 ∷ 0 ∷ 0 ∷ []));
      given = 0 ∷ 0 ∷ 0 ∷ 0 ∷ 2 ∷ (replicate 9 7 ++ replicate 10 7);
    }
    ∷ []

pub small-loop : map (λ (c : Case). answer_to c.asked) worked ≡ map (λ (c : Case). c.given) worked
unfolding small_with start_table told answer limits_in answer_to worked small_form pair_in empty_form pick span count fold top first_from fine hold graph_of loop_of pair_of busy body.held sum_of knots knotted lateness limits paces breaks broken_edge over over_class over_step units_of rules_of judge_of asks raise raise_all raises every_edge round settle_from settled_of top_of turned_at filled retimings with_retiming fitted_form fit_of latency_part nodes_on units_part units_parts cycle_part floor_length part_of floor_refusal tight spread sweep reach reached_from weight insert order_of uses use_of free blocks ready place fill_step are_all_placed fill_from list_rule_of length_of first_starts times_of with_pair first_form gained_by dropped_by turned_starts rotated_starts rotated_length rotated too_long first_asked turns rotate_asked halved stops shorter turn begun search_from searched search_asked plus minus times difference applied edges_into operand_by computed_by depth issues late late_edge holds held_now issue visit step_of run_steps ran cleared run_of
small-loop = refl
