-- The accepted half of demand 3, both kinds at once: the earlier issues that hold a unit in a run step are no more than the occupants of its body step, so under the unit rule a unit is free whenever a node is issued.
-- Assumes nothing.
use Rattle.std.specs.Prelude.{◌≡◌, refl, true, ◌≢◌, List}
use Rattle.std.proofs.Common.{sym, ◌∙◌, mod-eq_of_lt}
use Rattle.std.proofs.Math.Path.{ap, subst}
use Prim.Native.Nat.{ℕ, ◌+◌, ◌-◌, ◌*◌, ◌/◌, ◌%◌, ◌≤◌, ◌<◌}
use native.Mathlib.Omega.{arith}
use Rattle.std.proofs.Math.Decide.{dec_lt}
use Rattle.std.proofs.Math.Nat.{add-mul-mod_self_right, zero-mul}
use Rattle.lists.specs.Quotient.{divided, rows-below, rows_apart, row_of}
use Rattle.lists.specs.Inject.{without, without_other, count-without, count-inject}
use Rattle.form.specs.Hold.{hold}
use Rattle.legal.specs.Loop.{Loop, Pair, ran_on}
use Rattle.legal.specs.Shape.{Sound, WithinBodies}
use Rattle.machine.specs.Run.{depth}
use Rattle.machine.specs.Moments.{under-depth, rep_of, issue_step, moment}
use Rattle.machine.specs.Sofar.{holding, holders, Roomy}
use Rattle.machine.specs.Timing.{Holder, holding-tells}
use Rattle.legal.specs.Held.{lands}
use Rattle.legal.specs.Legal.{busy, UnitRule}
use Rattle.legal.specs.Busy.{hold-some, occupies, Occupant, occupant-at, busy-table}

-- an earlier moment is in an earlier step, or in the same
pub moment-steps : (g : Loop) (p : Pair) (i j v w : ℕ) → v < g.graph.nodes → moment g p j w < moment g p i v → issue_step g p j w ≤ issue_step g p i v
unfolding moment
moment-steps g p i j v w l h =
    elim (dec_lt (issue_step g p i v) (issue_step g p j w)) [
      | yes q ↦ absurd (omega (arith, rows-below (issue_step g p i v) (issue_step g p j w) g.graph.nodes q))
      | no q ↦ omega arith
    ]

module _ (g : Loop) (p : Pair) (s : Sound g) (r : ℕ) (b : WithinBodies g p r) where
  -- a run step and a node tell the iteration
  pub step-apart : (i j v : ℕ) → v < g.graph.nodes → issue_step g p i v ≡ issue_step g p j v → i ≡ j
  unfolding issue_step rep_of
  step-apart i j v l e =
      let x = b.starts v l in
      let u = under-depth g p v l in
      omega (
        arith,
        (rows_apart (i + depth g p - p.retiming v) (j + depth g p - p.retiming v) p.length (p.start v - 1) (p.start v - 1) (omega arith) (omega arith) (omega arith)).0,
      )

  -- so many steps after its issue a node is in the body step of that run step
  pub lands-step : (j w t d : ℕ) → w < g.graph.nodes → t ≡ issue_step g p j w + d → lands p.length (p.start w) d ≡ (t - 1) % p.length + 1
  unfolding issue_step
  lands-step j w t d m e =
      let x = b.starts w m in
      let y : p.start w - 1 + d + rep_of g p j w * p.length ≡ t - 1 = omega arith in
      omega (arith, add-mul-mod_self_right (p.start w - 1 + d) (rep_of g p j w) p.length, ap (λ (z : ℕ). z % p.length) y)

  -- a node is issued in the body step in which it starts
  own-step : (i v : ℕ) → v < g.graph.nodes → (issue_step g p i v - 1) % p.length + 1 ≡ p.start v
  unfolding issue_step
  own-step i v l =
      let x = b.starts v l in
      omega (arith, (divided (rep_of g p i v) p.length (p.start v - 1) (rep_of g p i v * p.length + p.start v - 1) (omega arith) (omega arith)).1)

  module _ (starts : List ℕ) (k : ℕ) where
    -- ---- what holds a unit of class c in run step t, and is not issued after it, is an occupant of its body step
    module _ (n c t : ℕ) (by-then : (i v : ℕ) → v < g.graph.nodes → moment g p i v < n → issue_step g p i v ≤ t) where
      -- the row of a place: how many steps ago it was issued
      abbrev ago : ℕ → ℕ
      ago at = t - issue_step g p (at / g.graph.nodes) (at % g.graph.nodes)

      to : ℕ → ℕ
      to at = ago at * g.graph.nodes + at % g.graph.nodes

      record Found (at : ℕ) : Type 0 where
        pub node : at % g.graph.nodes < g.graph.nodes
        pub again : issue_step g p (at / g.graph.nodes) (at % g.graph.nodes) + ago at ≡ t
        pub holder : Holder g p n c t (at / g.graph.nodes) (at % g.graph.nodes)
        pub occupant : Occupant g p c ((t - 1) % p.length + 1) (ago at) (at % g.graph.nodes)
        pub short : ago at < hold (g.class c)

      found : (at : ℕ) → at < k * g.graph.nodes → holding g p starts k n c t at ≡ true → Found at
      found at h e =
          let w : ℕ = at % g.graph.nodes in
          let j : ℕ = at / g.graph.nodes in
          let z = row_of at k g.graph.nodes h s.some in
          let x = holding-tells g p starts k n c t at e in
          let o : issue_step g p j w ≤ t = by-then j w z.1 x.earlier in
          let a : issue_step g p j w + (t - issue_step g p j w) ≡ t = omega arith in
          record {
            node = z.1;
            again = a;
            holder = x;
            occupant = record { class = x.class; step = lands-step j w t (t - issue_step g p j w) z.1 (sym a) };
            short = omega (arith, x.to);
          }

      into : (at : ℕ) → at < k * g.graph.nodes → holding g p starts k n c t at ≡ true
          → (to at < hold (g.class c) * g.graph.nodes) × (occupies g p c ((t - 1) % p.length + 1) (to at) ≡ true)
      unfolding to
      into at h e =
          let f = found at h e in (
            omega (arith, f.node, rows-below (ago at) (hold (g.class c)) g.graph.nodes f.short),
            occupant-at g p c _ (ago at) (at % g.graph.nodes) f.node f.occupant,
          )

      apart : (x y : ℕ) → x < k * g.graph.nodes → y < k * g.graph.nodes → holding g p starts k n c t x ≡ true → holding g p starts k n c t y ≡ true → to x ≡ to y → x ≡ y
      unfolding to
      apart x y a z e f q =
          let N : ℕ = g.graph.nodes in
          let fx = found x a e in
          let fy = found y z f in
          let r = rows_apart (ago x) (ago y) N (x % N) (y % N) fx.node fy.node q in
          let same : x / N ≡ y / N = step-apart (x / N) (y / N) (x % N) fx.node
          (omega (arith, fx.again, fy.again, r.0, ap (issue_step g p (y / N)) r.1)) in
          omega (arith, (row_of x k N a s.some).2, (row_of y k N z s.some).2, r.1, ap (λ (u : ℕ). u * N) same)

      -- so they are no more than its occupants
      pub holders-busy : holders g p starts k n c t ≤ busy g p c ((t - 1) % p.length + 1)
      unfolding holders
      holders-busy =
          omega (
            arith,
            busy-table g p c ((t - 1) % p.length + 1),
            count-inject (holding g p starts k n c t) (occupies g p c ((t - 1) % p.length + 1)) (k * g.graph.nodes) (hold (g.class c) * g.graph.nodes) to into apart,
          )

      -- and fewer where one of the occupants, in its first step, is not among them
      module _ (v : ℕ) (l : v < g.graph.nodes) (class : ran_on g v ≡ c) (now : p.start v ≡ (t - 1) % p.length + 1)
          (not_yet : (i : ℕ) → issue_step g p i v ≡ t → n ≤ moment g p i v) where
        not_own : (at : ℕ) → at < k * g.graph.nodes → holding g p starts k n c t at ≡ true → to at ≢ v
        unfolding to
        not_own at h e q =
            let N : ℕ = g.graph.nodes in
            let f = found at h e in
            let r = rows_apart (ago at) 0 N (at % N) v f.node l (omega (arith, zero-mul N)) in
            omega (
              arith,
              f.holder.earlier,
              not_yet (at / N) (omega (arith, f.again, r.0, ap (issue_step g p (at / N)) r.1)),
              ap (moment g p (at / N)) r.1,
            )

        own : occupies g p c ((t - 1) % p.length + 1) v ≡ true
        own =
            let N : ℕ = g.graph.nodes in
            let x = b.starts v l in
            let first : lands p.length (p.start v) 0 ≡ (t - 1) % p.length + 1 = omega (arith, mod-eq_of_lt {n = p.start v - 1 + 0} {m = p.length} (omega arith)) in
            ap (occupies g p c ((t - 1) % p.length + 1)) (omega (arith, zero-mul N)) ∙ occupant-at g p c _ 0 v l (record { class = class; step = first })

        pub fewer-busy : holders g p starts k n c t < busy g p c ((t - 1) % p.length + 1)
        unfolding holders
        fewer-busy =
            let q : ℕ = (t - 1) % p.length + 1 in
            let H : ℕ = hold (g.class c) in
            let some : 1 ≤ H = subst (λ (x : ℕ). 1 ≤ hold (g.class x)) class (hold-some (g.class (ran_on g v)) (s.works v l)) in
            let in_table : v < H * g.graph.nodes = omega (arith, rows-below 0 H g.graph.nodes some) in
            omega (
              arith,
              busy-table g p c q,
              count-without (occupies g p c q) (H * g.graph.nodes) v in_table own,
              count-inject (holding g p starts k n c t) (without (occupies g p c q) v) (k * g.graph.nodes) (H * g.graph.nodes) to
                  (λ at h e. ((into at h e).0, without_other (occupies g p c q) v (to at) (not_own at h e) ∙ (into at h e).1)) apart,
            )

    -- under the unit rule a unit is free whenever a node is issued
    pub units-roomy : UnitRule g p → (i v : ℕ) → v < g.graph.nodes → ran_on g v < g.classes → Roomy g p starts k i v
    units-roomy rule i v l classed =
        let x = b.starts v l in
        let t : ℕ = issue_step g p i v in
        omega (
          arith,
          own-step i v l,
          rule ((t - 1) % p.length + 1) (ran_on g v) (omega arith) (omega (arith, own-step i v l)) classed,
          fewer-busy (moment g p i v) (ran_on g v) t (λ j w m h. moment-steps g p i j v w l h) v l refl (sym (own-step i v l))
              (λ j e. omega (arith, ap (λ (y : ℕ). moment g p y v) (step-apart j i v l e))),
        )
