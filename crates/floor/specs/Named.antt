-- The part that is named attains the floor and no part before it does; with (c) some cycle breaks the length below the floor.
-- Assumes nothing.
use Rattle.std.specs.Prelude.{◌≡◌, false, ◌≢◌, ℕ, ◌-◌, ◌≤◌, ◌<◌}
use Rattle.std.proofs.Math.Path.{ap}
use Rattle.std.proofs.Common.{subst, ◌∙◌}
use native.Mathlib.Omega.{arith}
use Rattle.std.proofs.Math.Decide.{dec_lt}
use borrow.Author.Tests.{eqb-true, eqb-false, eq-eqb, ne_eqb}
use Rattle.std.proofs.Math.Dec.{eqb}
use Rattle.lists.specs.Pick.{pick_ind, pick_true, pick-false}
use Rattle.lists.specs.Sums.{top-each, top-under}
use Rattle.lists.specs.First.{first_from, first-is, first-only}
use Rattle.legal.specs.Loop.{Loop}
use Rattle.legal.specs.Shape.{Sound}
use Rattle.floor_part.specs.Parts.{Part}
use Rattle.floor_part.specs.Parts as part
use Rattle.floor.specs.Parts.{latency_part, units_part, units_parts, cycle_part, floor_length}
use Rattle.floor.specs.Least.{enough, cycle-one, cycle-below}
use Rattle.floor.specs.Bounds.{latency-one}
use Rattle.floor.specs.Floor.{part_of}

-- the part attains the floor, and no part before it does
pub data Attains (g : Loop) : Part → Type 0 where
  latency : latency_part g ≡ floor_length g → Attains g part.Latency
  units : (c : ℕ) → latency_part g ≢ floor_length g → c < g.classes → units_part g c ≡ floor_length g → ((d : ℕ) → d < c → units_part g d ≢ floor_length g)
      → Attains g (part.Units c)
  cycle : latency_part g ≢ floor_length g → ((d : ℕ) → d < g.classes → units_part g d ≢ floor_length g) → cycle_part g ≡ floor_length g → Attains g part.Cycle

module _ (g : Loop) where
  -- the floor is at least each part
  floor-over : (latency_part g ≤ floor_length g) × (units_parts g ≤ floor_length g) × (cycle_part g ≤ floor_length g)
  unfolding floor_length
  floor-over = (omega arith, omega arith, omega arith)

  -- where the others do not attain it, (c) does
  cycle-last : latency_part g ≢ floor_length g → units_parts g ≢ floor_length g → cycle_part g ≡ floor_length g
  unfolding floor_length
  cycle-last n m = omega arith

  units-each : (d : ℕ) → d < g.classes → units_part g d ≤ units_parts g
  unfolding units_parts
  units-each d l = top-each (units_part g) g.classes d l

  -- where no class attains the floor, the largest of them does not
  units_under : ((d : ℕ) → d < g.classes → units_part g d ≢ floor_length g) → units_parts g < floor_length g
  unfolding units_parts
  units_under none =
      let over = floor-over in
      let most : units_parts g ≤ floor_length g - 1 = top-under (units_part g) (floor_length g - 1) g.classes (λ d l. let ne = none d l in omega (arith, units-each d l)) in
      omega (arith, cycle-one g)

  -- the first class that attains it
  lowest : ℕ
  lowest = first_from (λ c. eqb (units_part g c) (floor_length g)) g.classes 0

  units-named : latency_part g ≢ floor_length g → units_parts g ≡ floor_length g → Attains g (part.Units lowest)
  unfolding lowest
  units-named n e =
      let t = first-is (λ c. eqb (units_part g c) (floor_length g)) g.classes 0 in
      let before : (d : ℕ) → d < lowest → units_part g d ≢ floor_length g = λ d l. eqb-false _ _ (t.before d (omega arith) l) in
      elim (dec_lt lowest g.classes) [
        | yes l ↦ units lowest n l (eqb-true _ _ (t.passes (omega arith))) before
        | no l ↦ absurd (omega (arith, units_under (λ d m. before d (omega arith))))
      ]

  pub cycle-named : latency_part g ≢ floor_length g → units_parts g ≢ floor_length g → Attains g part.Cycle
  cycle-named n m = cycle n (λ d l e. m (omega (arith, floor-over.1, units-each d l))) (cycle-last n m)

  -- what is named is so
  pub named : Attains g (part_of g)
  unfolding part_of lowest
  named =
      pick_ind (Attains g) (eqb (latency_part g) (floor_length g)) _ _ (λ e. latency (eqb-true _ _ e))
      (λ n. pick_ind (Attains g) (eqb (units_parts g) (floor_length g)) _ _ (λ e. units-named (eqb-false _ _ n) (eqb-true _ _ e))
      (λ m. cycle-named (eqb-false _ _ n) (eqb-false _ _ m)))

  -- and what is so is named
  pub named-is : (x : Part) → Attains g x → part_of g ≡ x
  unfolding part_of
  named-is x (latency e) = pick_true _ _ _ (eq-eqb _ _ e)
  named-is x (units c n l e before) =
      let most : units_parts g ≡ floor_length g = omega (arith, floor-over.1, units-each c l) in
      pick-false _ _ _ (ne_eqb _ _ n)
      ∙ pick_true _ _ _ (eq-eqb _ _ most)
      ∙ ap part.Units (first-only (λ d. eqb (units_part g d) (floor_length g)) g.classes 0 c (omega arith) (omega arith) (eq-eqb _ _ e) (λ d _ m. ne_eqb _ _ (before d m)))
  named-is x (cycle n m e) = pick-false _ _ _ (ne_eqb _ _ n) ∙ pick-false _ _ _ (ne_eqb (units_parts g) (floor_length g) (λ q. omega (arith, units_under m)))

  told-cycle : Attains g part.Cycle → (latency_part g ≢ floor_length g) × (cycle_part g ≡ floor_length g)
  told-cycle (cycle n m e) = (n, e)

  pub cycle-attained : Attains g part.Cycle → cycle_part g ≡ floor_length g
  cycle-attained a = (told-cycle a).1

  module _ (s : Sound g) (q : part_of g ≡ part.Cycle) where
    -- with (c) there is a length below the floor
    pub cycle-two : 2 ≤ floor_length g
    cycle-two =
        let t = told-cycle (subst (Attains g) q named) in
        let n = t.0 in
        omega (arith, floor-over.0, latency-one g s)

    -- which some cycle is too long for
    pub floor-short : enough g (floor_length g - 1) ≡ false
    floor-short =
        let t = told-cycle (subst (Attains g) q named) in
        cycle-below g (floor_length g - 1) (omega (arith, cycle-two)) (omega (arith, cycle-two, t.1))
