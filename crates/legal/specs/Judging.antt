-- What the judge refuses of a form: Bare, Knot, Dependence with the lowest edge, Units with the lowest step and then class.
-- Assumes nothing.
use Rattle.std.specs.Prelude.{Bool, ℕ, ◌+◌, ◌*◌, eqb, leb, ltb, None, Some}
use Rattle.lists.specs.Pick.{pick}
use Rattle.lists.specs.First.{first_from}
use Rattle.answer.specs.Refused.{Verdict}
use Rattle.answer.specs.declared.Refusal.TheVariants.{Bare, Knot, Dependence, Units}
use Rattle.form.specs.declared.Form.{Form}
use Rattle.legal.specs.Loop.{Loop, Pair, loop_of, pair_of}
use Rattle.legal.specs.Legal.{finish, busy}
use Rattle.legal.specs.Systems.{knotted}

module _ (g : Loop) (p : Pair) where
  -- edge e breaks the edge rule
  unfoldable pub breaks : ℕ → Bool
  breaks e =
      ltb (p.start (g.graph.head e) + p.length * (g.delay e + p.retiming (g.graph.tail e)))
      (finish g p (g.graph.tail e) + p.length * p.retiming (g.graph.head e))

  -- the lowest edge that does, or the number of edges
  unfoldable pub broken_edge : ℕ
  broken_edge = first_from breaks g.graph.edges 0

  -- step q holds more of class c than its units
  unfoldable pub over : ℕ → ℕ → Bool
  over q c = ltb (g.class c).units (busy g p c q)

  -- the lowest class of which it does, or the number of classes
  unfoldable pub over_class : ℕ → ℕ
  over_class q = first_from (over q) g.classes 0

  -- the lowest step with such a class, or the step past the body
  unfoldable pub over_step : ℕ
  over_step = first_from (λ q. ltb (over_class q) g.classes) p.length 1

  -- the unit rule alone
  unfoldable pub units_of : Verdict
  units_of = pick (leb over_step p.length) (Some (Units over_step (over_class over_step))) None

  -- the edge rule, then the unit rule
  unfoldable pub rules_of : Verdict
  rules_of = pick (ltb broken_edge g.graph.edges) (Some (Dependence broken_edge)) units_of

unfoldable pub judge_of : Form → Verdict
judge_of f =
    pick (eqb f.header.length 0) (Some Bare) (pick (knotted (loop_of f)) (Some Knot) (rules_of (loop_of f) (pair_of f)))
