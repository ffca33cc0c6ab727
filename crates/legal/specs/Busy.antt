-- The count of a step's occupants: as a count over a table with a row for each step of an operation and a column for each node; and on a plain pair as a count of the nodes whose window the step is in.
-- Assumes nothing.
use Rattle.std.specs.Prelude.{◌≡◌, Bool, ◌&&◌, leb}
use Rattle.std.proofs.Math.Path.{refl, sym, subst}
use Rattle.std.proofs.Common.{◌∙◌, ap, ap₂, arith}
use Rattle.std.proofs.Math.Bool.{true, false}
use Prim.Native.Nat.{ℕ, ◌+◌, ◌*◌, ◌/◌, ◌%◌, ◌≤◌, ◌<◌}
use Rattle.std.proofs.Math.Dec.{eqb, ltb}
use borrow.Author.Tests.{eqb-true, eq-eqb}
use Rattle.lists.specs.Pick.{pick, pick_ind}
use Rattle.lists.specs.Both.{and_both}
use Rattle.lists.specs.Span.{span}
use Rattle.lists.specs.Fold.{count}
use Rattle.lists.specs.Count.{count_same}
use Rattle.lists.specs.Counted.{span_none}
use Rattle.lists.specs.Quotient.{divided}
use Rattle.lists.specs.Sums.{bit, count-sum, sum_same}
use Rattle.form.specs.declared.Class.{Class}
use Rattle.form.specs.Hold.{hold}
use Rattle.legal.specs.Loop.{plain, Loop, Pair, ran_on, latency}
use Rattle.legal.specs.Legal.{busy}
use Rattle.legal.specs.Shape.{Sound, Bodied, plain-ends}
use Rattle.legal.specs.Held.{lands, held, held_plain}
use Rattle.legal.specs.Columns.{count-columns}

pub hold-short : (c : Class) → 1 ≤ c.latency → hold c ≤ c.latency
unfolding hold
hold-short c h = pick_ind (λ (x : ℕ). x ≤ c.latency) (eqb c.pipelined 0) c.latency 1 (λ q. omega arith) (λ q. h)

pub hold-some : (c : Class) → 1 ≤ c.latency → 1 ≤ hold c
unfolding hold
hold-some c h = pick_ind (λ (x : ℕ). 1 ≤ x) (eqb c.pipelined 0) c.latency 1 (λ q. h) (λ q. omega arith)

module _ (g : Loop) (p : Pair) where
  -- step x / N of node x % N falls on body step q of class c
  unfoldable pub occupies : ℕ → ℕ → ℕ → Bool
  occupies c q x = eqb (ran_on g (x % g.graph.nodes)) c && eqb (lands p.length (p.start (x % g.graph.nodes)) (x / g.graph.nodes)) q

  -- what that tells of row j and column v
  pub record Occupant (c q j v : ℕ) : Type 0 where
    pub class : ran_on g v ≡ c
    pub step : lands p.length (p.start v) j ≡ q

  pub occupies-tells : (c q x : ℕ) → occupies c q x ≡ true → Occupant c q (x / g.graph.nodes) (x % g.graph.nodes)
  unfolding occupies
  occupies-tells c q x e =
      let a = and_both _ _ e in
      record { class = eqb-true _ _ a.0; step = eqb-true _ _ a.1 }

  pub occupant-occupies : (c q x : ℕ) → Occupant c q (x / g.graph.nodes) (x % g.graph.nodes) → occupies c q x ≡ true
  unfolding occupies
  occupant-occupies c q x h = rw (eq-eqb _ _ h.class, eq-eqb _ _ h.step)

  pub occupant-at : (c q j v : ℕ) → v < g.graph.nodes → Occupant c q j v → occupies c q (j * g.graph.nodes + v) ≡ true
  occupant-at c q j v l h =
      let n : ℕ = g.graph.nodes in
      let d = divided j n v (j * n + v) l refl in
      occupant-occupies c q (j * n + v) (record { class = ap (ran_on g) d.1 ∙ h.class; step = ap₂ (λ (y z : ℕ). lands p.length (p.start y) z) d.1 d.0 ∙ h.step })

  -- a column of the table
  column : (c q v : ℕ) → v < g.graph.nodes
      → count (λ j. occupies c q (j * g.graph.nodes + v)) (span 0 (hold (g.class c))) ≡ pick (eqb (ran_on g v) c) (held p.length (p.start v) (hold (g.class c)) q) 0
  unfolding held occupies pick
  column c q v l =
      count_same (λ j. occupies c q (j * n + v)) (λ j. eqb (ran_on g v) c && eqb (lands p.length (p.start v) j) q) (hold (g.class c)) (λ j _. at j) ∙ go (eqb (ran_on g v) c)
    where
      n : ℕ
      n = g.graph.nodes

      at : (j : ℕ) → occupies c q (j * n + v) ≡ eqb (ran_on g v) c && eqb (lands p.length (p.start v) j) q
      at j =
          let d = divided j n v (j * n + v) l refl in
          ap₂ (λ (y z : ℕ). eqb (ran_on g y) c && eqb (lands p.length (p.start y) z) q) d.1 d.0

      go : (b : Bool) → count (λ j. b && eqb (lands p.length (p.start v) j) q) (span 0 (hold (g.class c)))
          ≡ pick b (count (λ j. eqb (lands p.length (p.start v) j) q) (span 0 (hold (g.class c)))) 0
      go true = refl
      go false = span_none (λ j. false) 0 (hold (g.class c)) (λ i a b. refl)

  -- the count of a step's occupants is the count over the table
  pub busy-table : (c q : ℕ) → busy g p c q ≡ count (occupies c q) (span 0 (hold (g.class c) * g.graph.nodes))
  unfolding busy
  busy-table c q =
      sym (count-columns (occupies c q) (hold (g.class c)) g.graph.nodes
      ∙ sum_same (λ v. count (λ j. occupies c q (j * g.graph.nodes + v)) (span 0 (hold (g.class c)))) (λ v. pick (eqb (ran_on g v) c) (held p.length (p.start v) (hold (g.class c)) q) 0)
      0 g.graph.nodes (λ v a b. column c q v (omega arith)))

  -- ---- on a plain pair

  -- node v holds a unit of class c from its start for as long as an operation holds it, step q among these
  unfoldable pub spans : ℕ → ℕ → ℕ → Bool
  spans c q v = eqb (ran_on g v) c && (leb (p.start v) q && ltb q (p.start v + hold (g.class c)))

  module _ (s : Sound g) (is_plain : p.kind ≡ plain) (b : Bodied g p) where
    one_plain : (c q v : ℕ) → v < g.graph.nodes → bit (spans c q v) ≡ pick (eqb (ran_on g v) c) (held p.length (p.start v) (hold (g.class c)) q) 0
    unfolding spans pick
    one_plain c q v l = go (eqb (ran_on g v) c) refl
      where
        go : (t : Bool) → eqb (ran_on g v) c ≡ t
            → bit (t && (leb (p.start v) q && ltb q (p.start v + hold (g.class c)))) ≡ pick t (held p.length (p.start v) (hold (g.class c)) q) 0
        go true e =
            let short : hold (g.class c) ≤ latency g v = subst (λ k. hold (g.class k) ≤ latency g v) (eqb-true (ran_on g v) c e) (hold-short (g.class (ran_on g v)) (s.works v l)) in
            sym (held_plain p.length (p.start v) (b v l).begins (hold (g.class c)) q (omega (arith, plain-ends g p is_plain v (b v l))))
        go false e = refl

    -- it is the count of those
    pub busy-plain : (c q : ℕ) → count (spans c q) (span 0 g.graph.nodes) ≡ busy g p c q
    unfolding busy
    busy-plain c q =
        count-sum (spans c q) (span 0 g.graph.nodes)
        ∙ sum_same (λ v. bit (spans c q v)) (λ v. pick (eqb (ran_on g v) c) (held p.length (p.start v) (hold (g.class c)) q) 0) 0 g.graph.nodes (λ v a z. one_plain c q v (omega arith))
