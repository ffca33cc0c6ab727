-- The retiming of given starts: it fits, is of least depth and node by node the largest of those; where there is none, some cycle has a negative limit sum.
-- Assumes nothing.
use Rattle.std.specs.Prelude.{◌≡◌, Bool, ℕ, ◌-◌, ◌*◌, ◌≤◌, ◌<◌}
use Rattle.std.proofs.Math.Path.{refl}
use Rattle.std.proofs.Math.Bool.{true, false}
use mathlib.Core.List.{List}
use native.Mathlib.Omega.{arith}
use Rattle.std.proofs.Math.Nat.{mul-le-mul_right}
use Rattle.system.specs.System.{gains, costs, Losing}
use Rattle.system.specs.Rounds.{settled_of}
use Rattle.system.specs.Laws.{values-bound, unsettled-loses}
use Rattle.system.specs.Turned.{top_of, turned_at, turned_le, turned_zero, turned-top, turned-turns, least-depth, largest}
use Rattle.legal.specs.Loop.{bodies, Loop, Pair}
use Rattle.legal.specs.Legal.{busy, UnitRule, Legal}
use Rattle.legal.specs.Systems.{lateness, limits, Fits, Impossible}
use Rattle.legal.specs.Shape.{Sound, Bodied, WithinBodies, bodied-within}
use Rattle.legal.specs.Limits.{late-bound, fit_edges}
use Rattle.legal.specs.Splits.{losing-walk, losing-cycle}
use Rattle.legal.specs.Balanced.{Balances, balanced-sound, balanced-settles}

module _ (g : Loop) (p : Pair) where
  -- the depth and the retiming of the starts
  abbrev pub fitted_depth : ℕ
  fitted_depth = top_of (limits g p)

  abbrev pub fitted : ℕ → ℕ
  fitted = turned_at (limits g p)

  -- the starts with that retiming
  abbrev pub fitted_pair : Pair
  fitted_pair = record { kind = p.kind; start = p.start; length = p.length; retiming = fitted }

  -- some retiming was found
  abbrev pub Settles : Type 0
  Settles = (settled_of (limits g p)).settled ≡ true

  -- a losing cycle of the system of limits has a negative limit sum
  pub losing-impossible : (es : List ℕ) → Losing (limits g p) es → Impossible g p es
  unfolding limits gains costs
  losing-impossible es c = record { cycle = c.cycle; negative = c.loss }

  -- and a cycle with a negative limit sum loses
  pub impossible-losing : (es : List ℕ) → Impossible g p es → Losing (limits g p) es
  unfolding limits gains costs
  impossible-losing es c = record { cycle = c.cycle; loss = c.negative }

  fits-balance : (r : ℕ → ℕ) → Fits g p r → Balances (limits g p) (λ v. 0) r
  unfolding limits
  fits-balance r h e l = omega (arith, h e l)

  -- where some cycle has a negative limit sum no retiming fits
  pub impossible-unfit : (es : List ℕ) → Impossible g p es → (r : ℕ → ℕ) → Fits g p r → ⊥
  impossible-unfit es c r h = balanced-sound (limits g p) (λ v. 0) r (fits-balance r h) es (losing-walk (limits g p) es (impossible-losing es c))

  module _ (s : Sound g) where
    -- where some retiming fits one is found
    pub fits-settles : (r : ℕ → ℕ) → Fits g p r → Settles
    unfolding limits
    fits-settles r h = balanced-settles (limits g p) (λ v. 0) r (fits-balance r h) s.joined s.some s.few

    -- where none is found some cycle has a negative limit sum
    pub unsettled-impossible : (settled_of (limits g p)).settled ≡ false → (es : List ℕ) × Impossible g p es
    unfolding limits
    unsettled-impossible q =
        let w = unsettled-loses (limits g p) s.joined s.some s.few q in
        let c = losing-cycle (limits g p) w.0 w.1 in
        (c.0, losing-impossible c.0 c.1)

    -- and no retiming fits
    pub unsettled-unfit : (settled_of (limits g p)).settled ≡ false → (r : ℕ → ℕ) → Fits g p r → ⊥
    unsettled-unfit q r h = let c = unsettled-impossible q in impossible-unfit c.0 c.1 r h

    -- any retiming that fits is at least as deep
    pub fits-depth : (r : ℕ → ℕ) (d : ℕ) → Fits g p r → ((v : ℕ) → v < g.graph.nodes → r v ≤ d) → fitted_depth ≤ d
    unfolding limits
    fits-depth r d h under = least-depth (limits g p) s.few s.joined r d h under s.some

    -- and of those as deep none is larger at any node
    pub fits_under : (r : ℕ → ℕ) (d : ℕ) → Fits g p r → ((v : ℕ) → v < g.graph.nodes → r v ≤ d) → d ≡ fitted_depth → (v : ℕ) → v < g.graph.nodes → r v ≤ fitted v
    unfolding limits
    fits_under r d h under q v l = largest (limits g p) s.few s.joined r d h under q v l

    -- where no retiming fits some cycle has a negative limit sum
    pub unfit-impossible : ((r : ℕ → ℕ) → Fits g p r → ⊥) → (es : List ℕ) × Impossible g p es
    unfolding limits
    unfit-impossible none = go (settled_of (limits g p)).settled refl
      where
        go : (b : Bool) → (settled_of (limits g p)).settled ≡ b → (es : List ℕ) × Impossible g p es
        go true q = absurd (none fitted (turned-turns (limits g p) s.few s.joined q))
        go false q = unsettled-impossible q

    module _ (q : Settles) where
      -- the retiming found fits
      pub fitted-fits : Fits g p fitted
      unfolding limits
      fitted-fits = turned-turns (limits g p) s.few s.joined q

      -- the depth never exceeds 63 for each body that an operation reaches into
      pub depth-bound : (n : ℕ) → WithinBodies g p n → fitted_depth ≤ 63 * n
      unfolding limits turned_at
      depth-bound n b =
          let z = turned_zero (limits g p) s.few s.some in
          omega (
            arith,
            z.2,
            values-bound (limits g p) s.joined q n (λ e l. late-bound g p s n b e l) z.0 z.1,
            mul-le-mul_right {m = g.graph.nodes - 1} {n = 63} n (omega (arith, s.few)),
          )

      -- no node is retimed by more than the depth
      pub fitted-depth : (v : ℕ) → fitted v ≤ fitted_depth
      fitted-depth v = turned_le (limits g p) v

      -- the smallest retiming is 0
      pub fitted-zero : (v : ℕ) × (v < g.graph.nodes) × ◌≡◌ {A = ℕ} (fitted v) 0
      unfolding limits
      fitted-zero = turned_zero (limits g p) s.few s.some

      -- the largest is the depth
      pub fitted-top : (v : ℕ) × (v < g.graph.nodes) × (fitted v ≡ fitted_depth)
      unfolding limits
      fitted-top = turned-top (limits g p) s.few s.joined s.some q

      -- starts in the body that keep the unit rule are legal with the retiming found
      pub fitted-legal : (1 ≤ p.length) × (p.length ≤ 512) → Bodied g p → UnitRule g p → Legal g fitted_pair
      unfolding lateness busy
      fitted-legal steps b units =
          let body : Bodied g fitted_pair = λ v l. record { begins = (b v l).begins; ends = (b v l).ends } in
          record {
            steps = steps;
            body = body;
            retimings = λ v l. omega (arith, fitted-depth v, depth-bound (bodies p.kind) (bodied-within g p s b));
            least = fitted-zero;
            edges = fit_edges g fitted_pair s (bodies p.kind) (bodied-within g fitted_pair s body) fitted-fits;
            units = units;
          }
