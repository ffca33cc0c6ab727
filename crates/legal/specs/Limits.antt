-- The edge rule of starts in the body is the edge's limit on retimings: r(v) - r(u) is at most d less the edge's lateness.
-- Assumes nothing.
use Rattle.std.specs.Prelude.{◌≡◌, ◌⊎◌}
use Rattle.std.proofs.Common.{inl, inr, arith, div-lt_iff_lt-mul, mul-add, mul-suc, mul-zero, mul-one, mul-le-mul_left}
use Prim.Native.Nat.{ℕ, suc, ◌+◌, ◌-◌, ◌*◌, ◌/◌, ◌≤◌, ◌<◌}
use Rattle.std.proofs.Math.Decide.{dec_le}
use Rattle.std.proofs.Math.Nat.{le_of_suc-le-suc, suc-mul, mul_comm}
use Rattle.legal.specs.Loop.{plain, Loop, Pair}
use Rattle.legal.specs.Legal.{finish, EdgeRule}
use Rattle.legal.specs.Systems.{lateness, Fits}
use Rattle.legal.specs.Shape.{Sound, Bodied, WithinBodies, bodied-within, plain-ends}

module _ (g : Loop) (p : Pair) where
  -- all edges keep the edge rule
  abbrev pub EdgeRules : Type 0
  EdgeRules = (e : ℕ) → e < g.graph.edges → EdgeRule g p e

  -- edge e's limit on the retimings
  abbrev pub LimitRule : ℕ → Type 0
  LimitRule e = p.retiming (g.graph.head e) + lateness g p e ≤ p.retiming (g.graph.tail e) + g.delay e

  module _ (s : Sound g) (n : ℕ) (b : WithinBodies g p n) (e : ℕ) (l : e < g.graph.edges) where
    -- so many bodies are enough
    pub late-covers : finish g p (g.graph.tail e) ≤ p.start (g.graph.head e) + p.length * lateness g p e
    unfolding lateness
    late-covers =
        let x = b.starts (g.graph.head e) (s.joined.heads e l) in
        let top : ℕ = finish g p (g.graph.tail e) + (p.length - 1) - p.start (g.graph.head e) in
        let below : top < suc (top / p.length) * p.length = (div-lt_iff_lt-mul {k = p.length} {x = top} {y = suc (top / p.length)} (omega arith)).0 (omega arith) in
        omega (arith, below, suc-mul (top / p.length) p.length, mul_comm p.length (top / p.length))

    -- and no fewer
    pub late-least : (m : ℕ) → finish g p (g.graph.tail e) ≤ p.start (g.graph.head e) + p.length * m → lateness g p e ≤ m
    unfolding lateness
    late-least m h =
        let x = b.starts (g.graph.head e) (s.joined.heads e l) in
        let top : ℕ = finish g p (g.graph.tail e) + (p.length - 1) - p.start (g.graph.head e) in
        let below : top < suc m * p.length = omega (arith, suc-mul m p.length, mul_comm p.length m) in
        le_of_suc-le-suc ((div-lt_iff_lt-mul {k = p.length} {x = top} {y = suc m} (omega arith)).1 below)

    -- no edge is later than the bodies that an operation reaches into
    pub late-bound : lateness g p e ≤ n
    late-bound =
        late-least n (omega (arith, b.ends (g.graph.tail e) (s.joined.tails e l), b.starts (g.graph.head e) (s.joined.heads e l), mul_comm p.length n))

    -- an edge that keeps the edge rule keeps its limit
    pub edge-limit : EdgeRule g p e → LimitRule e
    edge-limit h =
        let u : ℕ = g.graph.tail e in
        let v : ℕ = g.graph.head e in
        let L : ℕ = p.length in
        let ru : ℕ = g.delay e + p.retiming u in
        let rv : ℕ = p.retiming v in
        elim (dec_le rv ru) [
          | yes q ↦
              let m : ℕ = ru - rv in
              let is : ru ≡ rv + m = omega arith in
              omega (arith, late-least m (omega (arith, (rw is at h), mul-add L rv m)))
          | no q ↦
              let works = s.works u (s.joined.tails e l) in
              let su = b.starts u (s.joined.tails e l) in
              let sv = b.starts v (s.joined.heads e l) in
              absurd (omega (arith, mul-le-mul_left {m = suc ru} {n = rv} L (omega arith), mul-suc L ru))
        ]

    -- an edge that keeps its limit keeps the edge rule
    pub limit-edge : LimitRule e → EdgeRule g p e
    limit-edge h =
        let L : ℕ = p.length in
        let ru : ℕ = g.delay e + p.retiming (g.graph.tail e) in
        let rv : ℕ = p.retiming (g.graph.head e) in
        omega (arith, late-covers, mul-add L rv (lateness g p e), mul-le-mul_left {m = rv + lateness g p e} {n = ru} L (omega arith))

  module _ (s : Sound g) (n : ℕ) (b : WithinBodies g p n) where
    -- where all edges keep the edge rule, the retiming fits the starts
    pub edges_fit : EdgeRules → Fits g p p.retiming
    edges_fit h e l = edge-limit s n b e l (h e l)

    -- where the retiming fits the starts, all edges keep the edge rule
    pub fit_edges : Fits g p p.retiming → EdgeRules
    fit_edges h e l = limit-edge s n b e l (h e l)

-- an edge of a plain pair is in time, or late by 1
pub timed : (g : Loop) (p : Pair) → Sound g → p.kind ≡ plain → Bodied g p → (e : ℕ) → e < g.graph.edges
    → ((lateness g p e ≡ 0) × (finish g p (g.graph.tail e) ≤ p.start (g.graph.head e)))
    ⊎ ((lateness g p e ≡ 1) × (p.start (g.graph.head e) < finish g p (g.graph.tail e)))
timed g p s k b e l =
    let w = bodied-within g p s b in
    let x : finish g p (g.graph.tail e) ≤ p.length + 1 = plain-ends g p k (g.graph.tail e) (b (g.graph.tail e) (s.joined.tails e l)) in
    let y = w.starts (g.graph.head e) (s.joined.heads e l) in
    elim (dec_le (finish g p (g.graph.tail e)) (p.start (g.graph.head e))) [
      | yes q ↦ inl (omega (arith, late-least g p s _ w e l 0 (omega arith)), q)
      | no q ↦
          inr (
            elim (dec_le (lateness g p e) 0) [
              | yes z ↦
                  let none : lateness g p e ≡ 0 = omega arith in
                  absurd (omega (arith, rw (none, mul-zero) at (late-covers g p s _ w e l)))
              | no z ↦ omega (arith, late-least g p s _ w e l 1 (omega (arith, mul-one p.length)))
            ],
            omega arith,
          )
    ]
