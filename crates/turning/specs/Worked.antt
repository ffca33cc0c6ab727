-- The small loop rotated.
-- Assumes nothing.
use Rattle.std.specs.Prelude.{◌≡◌, refl, List, [], ◌∷◌, ◌++◌, ℕ, take}
use Rattle.lists.specs.Pick.{pick}
use Rattle.lists.specs.Span.{span}
use Rattle.lists.specs.Filled.{filled}
use Rattle.lists.specs.Fold.{count, fold, top}
use Rattle.form.specs.declared.Form.{Form}
use Rattle.form.specs.declared.Operation.TheVariants.{Add, Mul}
use Rattle.form.specs.Places.{empty_form, with_counts, with_class, with_node, with_edge}
use Rattle.system.specs.Rounds.{asks, raise, raise_all, raises, every_edge, round, settle_from, settled_of}
use Rattle.system.specs.Turned.{top_of, turned_at}
use Rattle.form.specs.Hold.{hold}
use Rattle.legal.specs.Loop.{graph_of, loop_of, pair_of}
use Rattle.legal.specs.Systems.{lateness, limits}
use Rattle.tables.specs.Times.{times_of}
use Rattle.fit.specs.Retimed.{retimings}
use Rattle.reach.specs.Weight.{tight, spread, sweep, reach, reached_from, weight}
use Rattle.list_rule.specs.Order.{insert, order_of}
use Rattle.list_rule.specs.Rule.{uses, use_of, free, blocks, ready, place, fill_step, are_all_placed, fill_from, list_rule_of, length_of}
use Rattle.list_rule.specs.FirstLegal.{first_starts}
use Rattle.turning.specs.Turned.{gained_by, dropped_by}
use Rattle.turning.specs.TurnedLegal.{turned_starts}
use Rattle.plans.specs.Pairs.{with_pair}
use Rattle.turning.specs.Rotation.{first_form, rotated_starts, rotated_length, rotated, too_long}

-- class 0 of latency 1, class 1 of latency 2; a multiplication, then two additions, round with two delays
unfoldable pub small_form : Form
small_form =
    let counts = with_counts empty_form 2 3 3 0 in
    let classes = with_class (with_class counts 0 (record { latency = 1; units = 1; pipelined = 0 })) 1 (record { latency = 2; units = 1; pipelined = 0 }) in
    let nodes = with_node (with_node (with_node classes 0 (record { class = 1; operation = Mul 3 })) 1 (record { class = 0; operation = Add 1 })) 2 (record { class = 0; operation = Add 0 }) in
    with_edge (with_edge (with_edge nodes 0 (record { from = 0; to = 1; delays = 0 })) 1 (record { from = 1; to = 2; delays = 0 })) 2 (record { from = 2; to = 0; delays = 2 })

-- length, starts, retimings
unfoldable pub pair_in : Form → List ℕ
pair_in f = f.header.length ∷ (take 3 (times_of f).start ++ take 3 f.retiming)

pub worked : (pair_in (first_form small_form) ≡ 4 ∷ 1 ∷ 3 ∷ 4 ∷ 0 ∷ 0 ∷ 0 ∷ [])
    × (pair_in (rotated (first_form small_form) 1) ≡ 3 ∷ 1 ∷ 2 ∷ 3 ∷ 1 ∷ 0 ∷ 0 ∷ [])
    × (pair_in (rotated (rotated (first_form small_form) 1) 1) ≡ 4 ∷ 3 ∷ 1 ∷ 2 ∷ 1 ∷ 0 ∷ 0 ∷ [])
    × (pair_in (rotated (rotated (first_form small_form) 1) 2) ≡ 3 ∷ 2 ∷ 2 ∷ 1 ∷ 2 ∷ 1 ∷ 0 ∷ [])
unfolding small_form pair_in empty_form pick span count fold top hold graph_of loop_of pair_of lateness limits asks raise raise_all raises every_edge round settle_from settled_of top_of turned_at filled retimings tight spread sweep reach reached_from weight insert order_of uses use_of free blocks ready place fill_step are_all_placed fill_from list_rule_of length_of first_starts times_of with_pair first_form gained_by dropped_by turned_starts rotated_starts rotated_length rotated too_long
worked = (refl, refl, refl, refl)
