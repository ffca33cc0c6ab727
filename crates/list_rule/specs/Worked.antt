-- The small loop by the list rule: its first schedule, and the rotated nodes of its rotations.
-- Assumes nothing.
use Rattle.std.specs.Prelude.{◌≡◌, refl, List, [], ◌∷◌, ℕ, get_or, take, replicate, set}
use Rattle.lists.specs.Pick.{pick}
use Rattle.lists.specs.Span.{span}
use Rattle.lists.specs.Fold.{count, fold, top}
use Rattle.form.specs.Hold.{hold}
use Rattle.legal.specs.Small.{small}
use Rattle.reach.specs.Weight.{tight, spread, sweep, reach, reached_from, weight}
use Rattle.list_rule.specs.Order.{insert, order_of}
use Rattle.list_rule.specs.Rule.{uses, use_of, free, blocks, ready, place, fill_step, are_all_placed, fill_from, list_rule_of, length_of}

-- starts and length of the list rule, from the starts that stay, under the retimings
unfoldable pub placed : List ℕ → List ℕ → List ℕ
placed r s = let t = list_rule_of small (λ v. get_or r v 0) s in length_of small t ∷ take 3 t

pub worked : (placed (0 ∷ 0 ∷ 0 ∷ []) (replicate 64 0) ≡ 4 ∷ 1 ∷ 3 ∷ 4 ∷ [])
    × (placed (1 ∷ 0 ∷ 0 ∷ []) (set (set (replicate 64 0) 1 2) 2 3) ≡ 3 ∷ 1 ∷ 2 ∷ 3 ∷ [])
    × (placed (2 ∷ 0 ∷ 0 ∷ []) (set (set (replicate 64 0) 1 1) 2 2) ≡ 4 ∷ 3 ∷ 1 ∷ 2 ∷ [])
    × (placed (2 ∷ 1 ∷ 0 ∷ []) (set (replicate 64 0) 2 1) ≡ 3 ∷ 2 ∷ 2 ∷ 1 ∷ [])
unfolding small placed pick span count fold top hold tight spread sweep reach reached_from weight insert order_of uses use_of free blocks ready place fill_step are_all_placed fill_from list_rule_of length_of
worked = (refl, refl, refl, refl)
