-- (b) by itself bounds the length of every pair that keeps the unit rule: the busy steps of a class, counted by operations and by steps.
-- Assumes nothing.
use Rattle.std.specs.Prelude.{◌≡◌, Bool, ℕ, zero, suc, ◌+◌, ◌-◌, ◌*◌, ◌/◌, ◌≤◌, ◌<◌}
use Rattle.std.proofs.Math.Path.{sym, ap}
use Rattle.std.proofs.Common.{◌∙◌, div-lt_iff_lt-mul, suc-mul, mul-zero, mul-one, le_of_suc-le-suc}
use Rattle.std.proofs.Math.Bool.{true, false}
use native.Mathlib.Omega.{arith}
use Rattle.std.proofs.Math.Nat.{div-zero, mul_comm}
use Rattle.std.proofs.Math.Dec.{eqb}
use Rattle.lists.specs.Pick.{pick}
use Rattle.lists.specs.Span.{span}
use Rattle.lists.specs.Fold.{sum_of, sum-times}
use Rattle.lists.specs.Sums.{bit, sum-swap, sum-zero, sum_same, sum-le, sum-each, count-sum, top-under}
use Rattle.form.specs.Hold.{hold}
use Rattle.legal.specs.Loop.{Loop, Pair, ran_on}
use Rattle.legal.specs.Held.{held, held-total}
use Rattle.legal.specs.Legal.{busy, UnitRule, Legal}
use Rattle.floor.specs.Parts.{nodes_on, units_part, units_parts}

-- what fits on so many units in so many steps takes no more steps than these
pub rounded-up : (n units steps : ℕ) → n ≤ steps * units → (n + (units - 1)) / units ≤ steps
rounded-up n zero steps h = rw div-zero (omega arith)
rounded-up n (suc k) steps h =
    let below : n + (suc k - 1) < suc steps * suc k = omega (arith, suc-mul steps (suc k)) in
    le_of_suc-le-suc ((div-lt_iff_lt-mul (omega arith)).1 below)

module _ (g : Loop) (p : Pair) (c : ℕ) (some : 1 ≤ p.length) where
  -- how often node v holds class c in step q
  abbrev taken : ℕ → ℕ → ℕ
  taken q v = pick (eqb (ran_on g v) c) (held p.length (p.start v) (hold (g.class c)) q) 0

  -- over the body a node of the class holds it as often as an operation does, another never
  steps-held : (v : ℕ) → sum_of (λ q. taken q v) (span 1 p.length) ≡ hold (g.class c) * bit (eqb (ran_on g v) c)
  unfolding pick
  steps-held v = go (eqb (ran_on g v) c)
    where
      go : (t : Bool) → sum_of (λ q. pick t (held p.length (p.start v) (hold (g.class c)) q) 0) (span 1 p.length) ≡ hold (g.class c) * bit t
      go true = held-total p.length (p.start v) some (hold (g.class c)) ∙ sym (mul-one (hold (g.class c)))
      go false = sum-zero (span 1 p.length) ∙ sym (mul-zero (hold (g.class c)))

  -- the busy steps of the class, step by step and node by node
  steps-busy : sum_of (busy g p c) (span 1 p.length) ≡ hold (g.class c) * nodes_on g c
  unfolding busy nodes_on
  steps-busy =
      sum-swap taken (span 1 p.length) (span 0 g.graph.nodes)
      ∙ sum_same (λ v. sum_of (λ q. taken q v) (span 1 p.length)) (λ v. hold (g.class c) * bit (eqb (ran_on g v) c)) 0 g.graph.nodes (λ v l m. steps-held v)
      ∙ sum-times (hold (g.class c)) (λ v. bit (eqb (ran_on g v) c)) (span 0 g.graph.nodes)
      ∙ ap (λ (n : ℕ). hold (g.class c) * n) (sym (count-sum (λ v. eqb (ran_on g v) c) (span 0 g.graph.nodes)))

  -- they fit on the units, so no body is shorter than the busy steps over the units, rounded up
  rule-bound : UnitRule g p → c < g.classes → units_part g c ≤ p.length
  unfolding units_part
  rule-bound rule l =
      rounded-up (nodes_on g c * hold (g.class c)) (g.class c).units p.length
      (omega (
        arith,
        mul_comm (nodes_on g c) (hold (g.class c)),
        steps-busy,
        sum-le (busy g p c) (λ q. (g.class c).units) 1 p.length (λ q one m. rule q c one (omega arith) l),
        sum-each (g.class c).units 1 p.length,
      ))

-- no legal pair is
pub units-bound : (g : Loop) (p : Pair) (c : ℕ) → Legal g p → c < g.classes → units_part g c ≤ p.length
units-bound g p c legal l = rule-bound g p c legal.steps.0 legal.units l

-- nor shorter than the largest of all classes
pub all-units-bound : (g : Loop) (p : Pair) → Legal g p → units_parts g ≤ p.length
unfolding units_parts
all-units-bound g p legal = top-under (units_part g) p.length g.classes (λ c l. units-bound g p c legal l)
