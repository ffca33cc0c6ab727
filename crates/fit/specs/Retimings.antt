-- The retiming found as a list: it fits, is of least depth and node by node the largest of those.
-- Assumes nothing.
use Rattle.std.specs.Prelude.{◌≡◌, ℕ, ◌*◌, ◌≤◌, ◌<◌, length, get_or}
use Rattle.std.proofs.Common.{◌∙◌, arith}
use Rattle.std.proofs.Math.Decide.{dec_lt}
use Rattle.lists.specs.Fold.{top, top-over, top-attained}
use Rattle.lists.specs.Filled.{filled_at, filled-past, filled-length}
use Rattle.legal.specs.Loop.{Loop, Pair, bodies}
use Rattle.legal.specs.Legal.{UnitRule, Legal, busy}
use Rattle.legal.specs.Systems.{lateness, Fits}
use Rattle.legal.specs.Shape.{Sound, Bodied, WithinBodies, bodied-within}
use Rattle.legal.specs.Limits.{fit_edges}
use Rattle.legal.specs.Fitted.{fitted_depth, fitted, Settles, fitted-fits, depth-bound, fitted-depth, fitted-zero, fitted-top, fits-depth, fits_under}
use Rattle.fit.specs.Retimed.{retimings}

module _ (g : Loop) (p : Pair) where
  pub retimings-length : g.graph.nodes ≤ 64 → length (retimings g p) ≡ 64
  unfolding retimings
  retimings-length = filled-length 64 (fitted g p) g.graph.nodes

  -- each node has what was found for it
  pub retimings-at : (v : ℕ) → v < g.graph.nodes → get_or (retimings g p) v 0 ≡ fitted g p v
  unfolding retimings
  retimings-at = filled_at 64 (fitted g p) g.graph.nodes

  -- and the places past them 0
  pub retimings-past : (v : ℕ) → g.graph.nodes ≤ v → ◌≡◌ {A = ℕ} (get_or (retimings g p) v 0) 0
  unfolding retimings
  retimings-past = filled-past 64 (fitted g p) g.graph.nodes

  -- the starts with that retiming
  abbrev pub retimed_pair : Pair
  retimed_pair = record { kind = p.kind; start = p.start; length = p.length; retiming = λ v. get_or (retimings g p) v 0 }

  module _ (s : Sound g) (q : Settles g p) where
    under-depth : (v : ℕ) → get_or (retimings g p) v 0 ≤ fitted_depth g p
    under-depth v =
        elim (dec_lt v g.graph.nodes) [
          | yes l ↦ omega (arith, retimings-at v l, fitted-depth g p s q v)
          | no l ↦ omega (arith, retimings-past v (omega arith))
        ]

    -- the largest of them is the depth
    pub retimings-top : top (retimings g p) ≡ fitted_depth g p
    retimings-top =
        let t = fitted-top g p s q in
        let a = top-attained (retimings g p) (omega (arith, retimings-length s.few)) in
        omega (arith, t.2, retimings-at t.0 t.1, top-over (retimings g p) t.0, a.2, under-depth a.0)

    -- none is above 63 for each body that an operation reaches into
    pub retimings-small : (n : ℕ) → WithinBodies g p n → (v : ℕ) → get_or (retimings g p) v 0 ≤ 63 * n
    retimings-small n b v = omega (arith, under-depth v, depth-bound g p s q n b)

    -- the smallest is 0
    pub retimings-zero : (v : ℕ) × (v < g.graph.nodes) × ◌≡◌ {A = ℕ} (get_or (retimings g p) v 0) 0
    retimings-zero = let z = fitted-zero g p s q in (z.0, z.1, retimings-at z.0 z.1 ∙ z.2)

    -- it fits the starts
    pub retimings-fit : Fits g p (λ v. get_or (retimings g p) v 0)
    retimings-fit e l =
        omega (arith, fitted-fits g p s q e l, retimings-at (g.graph.head e) (s.joined.heads e l), retimings-at (g.graph.tail e) (s.joined.tails e l))

    -- nothing that fits is less deep
    pub retimings-least : (r : ℕ → ℕ) (d : ℕ) → Fits g p r → ((v : ℕ) → v < g.graph.nodes → r v ≤ d) → top (retimings g p) ≤ d
    retimings-least r d h under = omega (arith, retimings-top, fits-depth g p s r d h under)

    -- and of what is no deeper nothing is larger at any node
    pub retimings-largest : (r : ℕ → ℕ) → Fits g p r → ((v : ℕ) → v < g.graph.nodes → r v ≤ top (retimings g p)) → (v : ℕ) → v < g.graph.nodes → r v ≤ get_or (retimings g p) v 0
    retimings-largest r h under v l = omega (arith, retimings-at v l, fits_under g p s r (top (retimings g p)) h under retimings-top v l)

    -- starts in the body that keep the unit rule are legal with it
    pub retimings-legal : (1 ≤ p.length) × (p.length ≤ 512) → Bodied g p → UnitRule g p → Legal g retimed_pair
    unfolding lateness busy
    retimings-legal steps b units =
        let body : Bodied g retimed_pair = λ v l. record { begins = (b v l).begins; ends = (b v l).ends } in
        record {
          steps = steps;
          body = body;
          retimings = λ v l. retimings-small (bodies p.kind) (bodied-within g p s b) v;
          least = retimings-zero;
          edges = fit_edges g retimed_pair s (bodies p.kind) (bodied-within g retimed_pair s body) retimings-fit;
          units = units;
        }
