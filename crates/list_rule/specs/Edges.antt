-- Edges of retimed delay 0 into a node that the list rule places: their tails are placed too, and finished when it starts.
-- Assumes nothing.
use Rattle.std.specs.Prelude.{◌≡◌, Bool, ◌&&◌, ◌||◌, List, ℕ, ◌+◌, ◌≤◌, ◌<◌, replicate}
use Rattle.std.proofs.Math.Path.{refl}
use Rattle.std.proofs.Math.Bool.{true, false}
use Rattle.std.proofs.Common.{⊎_elim, arith, eq-zero-or-pos}
use borrow.Author.Tests.{eqb-true, eqb-false, ltb-false, eq-eqb, ne_eqb, le-ltb}
use Rattle.std.proofs.Math.Dec.{eqb, ltb}
use Rattle.lists.specs.Both.{and-fails, or-fails, fails-or}
use Rattle.lists.specs.Counted.{span_none, none-span}
use Rattle.lists.specs.Place.{zeros-at}
use Rattle.legal.specs.Loop.{Loop, latency}
use Rattle.reach.specs.Weight.{tight}
use Rattle.list_rule.specs.Rule.{start_number, blocks, ready, fill_from, list_rule_of}
use Rattle.list_rule.specs.Kept.{Keeps, ran-now, ran-keeps, fill-ran, fill-keeps}

module _ (g : Loop) where
  -- the tail of edge e is placed, and finished by step p
  pub record Finished (s : List ℕ) (p e : ℕ) : Type 0 where
    pub placed : 0 < start_number s (g.graph.tail e)
    pub by : start_number s (g.graph.tail e) + latency g (g.graph.tail e) ≤ p

  pub finished-keeps : (s t : List ℕ) → Keeps s t → (p e : ℕ) → Finished s p e → Finished t p e
  finished-keeps s t k p e f =
      let same = k (g.graph.tail e) f.placed in
      record { placed = omega (arith, f.placed); by = omega (arith, f.by) }

  module _ (r : ℕ → ℕ) where
    open_told : (s : List ℕ) (p e : ℕ) → tight g r e ≡ true → blocks g r s p e ≡ false → Finished s p e
    unfolding blocks
    open_told s p e t b =
        let o = or-fails _ _ (and-fails _ _ b t) in
        let unset : start_number s (g.graph.tail e) ≡ 0 → ⊥ = eqb-false _ _ o.0 in
        record { placed = omega arith; by = ltb-false _ _ o.1 }

    told-open : (s : List ℕ) (p e : ℕ) → (tight g r e ≡ true → Finished s p e) → blocks g r s p e ≡ false
    unfolding blocks
    told-open s p e h = go (tight g r e) refl
      where
        go : (b : Bool) → tight g r e ≡ b → b && (eqb (start_number s (g.graph.tail e)) 0 || ltb p (start_number s (g.graph.tail e) + latency g (g.graph.tail e))) ≡ false
        go true t =
            let f = h t in
            fails-or _ _ (ne_eqb (start_number s (g.graph.tail e)) 0 (λ z. omega (arith, f.placed))) (le-ltb _ _ f.by)
        go false t = refl

    -- a node is ready where all its tight edges are finished
    abbrev pub TightFinished : List ℕ → ℕ → ℕ → Type 0
    TightFinished s p v = (e : ℕ) → e < g.graph.edges → tight g r e ≡ true → g.graph.head e ≡ v → Finished s p e

    pub ready-told : (s : List ℕ) (p v : ℕ) → ready g r s p v ≡ true → TightFinished s p v
    unfolding ready
    ready-told s p v q e l t h =
        open_told s p e t (and-fails _ _ (none-span _ 0 g.graph.edges (eqb-true _ _ q) e (omega arith) (omega arith)) (eq-eqb _ _ h))

    pub told-ready : (s : List ℕ) (p v : ℕ) → TightFinished s p v → ready g r s p v ≡ true
    unfolding ready
    told-ready s p v h = eq-eqb _ _ (span_none _ 0 g.graph.edges (λ e a l. go e (omega arith) (eqb (g.graph.head e) v) refl))
      where
        go : (e : ℕ) → e < g.graph.edges → (b : Bool) → eqb (g.graph.head e) v ≡ b → b && blocks g r s p e ≡ false
        go e l true i = told-open s p e (λ t. h e l t (eqb-true _ _ i))
        go e l false i = refl

    -- ---- the rule

    -- every tight edge into a node that is placed is finished when the node starts
    abbrev pub InTime : List ℕ → Type 0
    InTime s = (e : ℕ) → e < g.graph.edges → tight g r e ≡ true → 0 < start_number s (g.graph.head e) → Finished s (start_number s (g.graph.head e)) e

    module _ (order : List ℕ) (left p : ℕ) (one : 1 ≤ p) (s : List ℕ) where
      -- so is every one into a node that the rule places
      pub new-in-time : (e : ℕ) → e < g.graph.edges → tight g r e ≡ true → start_number s (g.graph.head e) ≡ 0
          → 0 < start_number (fill_from g r order left p s) (g.graph.head e)
          → Finished (fill_from g r order left p s) (start_number (fill_from g r order left p s) (g.graph.head e)) e
      new-in-time e l t z h =
          let v = g.graph.head e in
          let u = fill_from g r order left p s in
          ⊎_elim
          (λ same. absurd (omega arith))
          (λ k.
          let f = ready-told k.table k.step v k.took.goes.is-ready e l t refl in
          rw (ran-now g r order left p s u v k one) (finished-keeps k.table u (ran-keeps g r order left p s u v k) k.step e f))
          (fill-ran g r order left p s v)

      -- and all are, where they were among the starts given
      pub fill-in-time : InTime s → InTime (fill_from g r order left p s)
      fill-in-time ok e l t h =
          let v = g.graph.head e in
          let keeps = fill-keeps g r order left p s in
          ⊎_elim
          (λ z. new-in-time e l t z h)
          (λ h. rw (keeps v h) (finished-keeps s (fill_from g r order left p s) keeps (start_number s v) e (ok e l t h)))
          (eq-zero-or-pos (start_number s v))

    pub rule-in-time : (s : List ℕ) → InTime s → InTime (list_rule_of g r s)
    unfolding list_rule_of
    rule-in-time s ok = fill-in-time _ 1023 1 (omega arith) s ok

    pub zeros-in-time : (n : ℕ) → InTime (list_rule_of g r (replicate n 0))
    zeros-in-time n = rule-in-time (replicate n 0) (λ e l t h. absurd (omega (arith, zeros-at n (g.graph.head e))))
