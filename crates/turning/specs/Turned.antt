-- Rotation by z steps of a legal pair: nodes with a start of at most z gain 1 in retiming, the others' starts drop by z, and edges of retimed delay 0 still go up in rank.
-- Assumes nothing.
use Rattle.std.specs.Prelude.{◌≡◌, refl, Bool, true, false, ◌⊎◌, List, [], ◌∷◌, map, ℕ, zero, suc, ◌+◌, ◌-◌, ◌≤◌, ◌<◌, leb}
use Rattle.std.proofs.Common.{inl, inr, arith}
use Rattle.std.proofs.Math.Logic.{⊎_elim}
use borrow.Author.Tests.{leb-true, leb-false, eqb-true}
use Rattle.lists.specs.Pick.{pick, pick_true, pick-false}
use Rattle.legal.specs.Loop.{plain, Loop, Pair, latency}
use Rattle.legal.specs.Legal.{Legal}
use Rattle.legal.specs.Shape.{Sound, bodied-within, plain-ends}
use Rattle.legal.specs.Limits.{LimitRule, edges_fit, timed}
use Rattle.reach.specs.Weight.{tight}
use Rattle.list_rule.specs.Rule.{start_number}
use Rattle.list_rule.specs.Filling.{Ranked}

-- nodes with a start of at most z gain 1
unfoldable pub gained_by : Pair → ℕ → ℕ → ℕ
gained_by p z v = p.retiming v + pick (leb (p.start v) z) 1 0

-- the others' starts drop by z; a start of at most z becomes 0, not placed
unfoldable pub dropped_by : ℕ → List ℕ → List ℕ
dropped_by z s = map (λ a. a - z) s

-- a node's rank is its start, a body later if the node is turned
unfoldable pub turned_rank : Pair → ℕ → ℕ → ℕ
turned_rank p z v = p.start v + pick (leb (p.start v) z) p.length 0

-- node v is turned
pub record NodeTurns (p : Pair) (z v : ℕ) : Type 0 where
  pub early : p.start v ≤ z
  pub gain : gained_by p z v ≡ p.retiming v + 1
  pub rank : turned_rank p z v ≡ p.start v + p.length

-- node v stays
pub record Stays (p : Pair) (z v : ℕ) : Type 0 where
  pub late : z < p.start v
  pub gain : gained_by p z v ≡ p.retiming v
  pub rank : turned_rank p z v ≡ p.start v

pub turns-or-stays : (p : Pair) (z v : ℕ) → NodeTurns p z v ⊎ Stays p z v
unfolding gained_by turned_rank
turns-or-stays p z v = go (leb (p.start v) z) refl
  where
    go : (b : Bool) → leb (p.start v) z ≡ b → NodeTurns p z v ⊎ Stays p z v
    go true e =
        inl (record { early = leb-true _ _ e; gain = omega (arith, pick_true {A = ℕ} (leb (p.start v) z) 1 0 e); rank = omega (arith, pick_true {A = ℕ} (leb (p.start v) z) p.length 0 e) })
    go false e =
        inr (record {
          late = leb-false _ _ e;
          gain = omega (arith, pick-false {A = ℕ} (leb (p.start v) z) 1 0 e);
          rank = omega (arith, pick-false {A = ℕ} (leb (p.start v) z) p.length 0 e);
        })

-- what the table holds after the drop
pub dropped-at : (z : ℕ) (s : List ℕ) (v : ℕ) → start_number (dropped_by z s) v ≡ start_number s v - z
unfolding dropped_by
dropped-at z [] v = omega arith
dropped-at z (a ∷ s) zero = refl
dropped-at z (a ∷ s) (suc v) = dropped-at z s v

module _ (g : Loop) (p : Pair) (z : ℕ) (sound : Sound g) (is_plain : p.kind ≡ plain) (legal : Legal g p) where
  -- the limits that a legal pair keeps
  limit : (e : ℕ) → e < g.graph.edges → LimitRule g p e
  limit e l = edges_fit g p sound _ (bodied-within g p sound legal.body) legal.edges e l

  -- no retimed delay is negative after the gain
  pub turned-over : (e : ℕ) → e < g.graph.edges → gained_by p z (g.graph.head e) ≤ g.delay e + gained_by p z (g.graph.tail e)
  turned-over e l =
      let k = limit e l in
      ⊎_elim
      (λ u. ⊎_elim (λ v. omega (arith, k, u.gain, v.gain)) (λ v. omega (arith, k, u.gain, v.gain)) (turns-or-stays p z (g.graph.head e)))
      (λ u.
      ⊎_elim
      (λ v. ⊎_elim (λ w. absurd (omega (arith, u.late, v.early, w.1))) (λ w. omega (arith, k, w.0, u.gain, v.gain)) (timed g p sound is_plain legal.body e l))
      (λ v. omega (arith, k, u.gain, v.gain))
      (turns-or-stays p z (g.graph.head e)))
      (turns-or-stays p z (g.graph.tail e))

  -- where it is 0 a tail that is turned has a head that is
  pub tight-turns : (e : ℕ) → e < g.graph.edges → tight g (gained_by p z) e ≡ true → NodeTurns p z (g.graph.tail e) → NodeTurns p z (g.graph.head e)
  unfolding tight
  tight-turns e l t u =
      let k = limit e l in
      let q : g.delay e + gained_by p z (g.graph.tail e) ≡ gained_by p z (g.graph.head e) = eqb-true _ _ t in
      ⊎_elim (λ v. v) (λ v. absurd (omega (arith, k, q, u.gain, v.gain))) (turns-or-stays p z (g.graph.head e))

  -- and an edge that had no delay before is in time
  in-time : (e : ℕ) → e < g.graph.edges → g.delay e + p.retiming (g.graph.tail e) ≡ p.retiming (g.graph.head e)
      → p.start (g.graph.tail e) + latency g (g.graph.tail e) ≤ p.start (g.graph.head e)
  in-time e l q =
      let k = limit e l in
      ⊎_elim (λ w. w.1) (λ w. absurd (omega (arith, k, q, w.0))) (timed g p sound is_plain legal.body e l)

  -- so is one between two nodes that stay
  pub stays-in-time : (e : ℕ) → e < g.graph.edges → tight g (gained_by p z) e ≡ true → Stays p z (g.graph.tail e) → Stays p z (g.graph.head e)
      → p.start (g.graph.tail e) + latency g (g.graph.tail e) ≤ p.start (g.graph.head e)
  unfolding tight
  stays-in-time e l t u v =
      let q : g.delay e + gained_by p z (g.graph.tail e) ≡ gained_by p z (g.graph.head e) = eqb-true _ _ t in
      in-time e l (omega (arith, q, u.gain, v.gain))

  -- edges of retimed delay 0 go up in rank
  rises : (e : ℕ) → e < g.graph.edges → tight g (gained_by p z) e ≡ true → turned_rank p z (g.graph.tail e) < turned_rank p z (g.graph.head e)
  unfolding tight
  rises e l t =
      let q : g.delay e + gained_by p z (g.graph.tail e) ≡ gained_by p z (g.graph.head e) = eqb-true _ _ t in
      let works = sound.works (g.graph.tail e) (sound.joined.tails e l) in
      let ends = plain-ends g p is_plain (g.graph.tail e) (legal.body (g.graph.tail e) (sound.joined.tails e l)) in
      let begins = (legal.body (g.graph.head e) (sound.joined.heads e l)).begins in
      ⊎_elim
      (λ u.
      let v = tight-turns e l t u in
      omega (arith, works, in-time e l (omega (arith, q, u.gain, v.gain)), u.rank, v.rank))
      (λ u.
      ⊎_elim
      (λ v. omega (arith, works, ends, begins, u.rank, v.rank))
      (λ v. omega (arith, works, in-time e l (omega (arith, q, u.gain, v.gain)), u.rank, v.rank))
      (turns-or-stays p z (g.graph.head e)))
      (turns-or-stays p z (g.graph.tail e))

  pub turned-ranked : Ranked g (gained_by p z)
  turned-ranked = record { rank = turned_rank p z; rises = rises }
