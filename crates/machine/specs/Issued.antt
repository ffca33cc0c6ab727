-- A visit that is not refused takes what holds at its moment to the next.
-- Assumes nothing.
use Rattle.std.specs.Prelude.{◌≡◌, true, false, ◌≢◌, List, length, get_or, set}
use Rattle.std.proofs.Math.Path.{refl, sym, ap, subst₂}
use Rattle.std.proofs.Common.{◌∙◌, ap₂, arith, eq-or-lt_of_le, le_of_suc-le-suc, get_or-set_other}
use Rattle.std.proofs.lemmas.Bool.{false≢true}
use Rattle.std.proofs.Math.Logic.{⊎_elim}
use Prim.Native.Nat.{ℕ, suc, ◌+◌, ◌-◌, ◌*◌, ◌≤◌, ◌<◌}
use Rattle.std.proofs.Math.ListN.{length-set}
use Rattle.std.proofs.Math.Seq.{get_or-set_same}
use Rattle.lists.specs.Pick.{both_ways}
use Rattle.lists.specs.Quotient.{rows_apart, rows-below}
use Rattle.answer.specs.Refused.{fine}
use Rattle.legal.specs.Loop.{Loop, Pair, ran_on, latency}
use Rattle.legal.specs.Shape.{Sound, Starting}
use Rattle.machine.specs.Values.{place_of, computed}
use Rattle.machine.specs.Run.{Machine, issues, iteration}
use Rattle.machine.specs.Reads.{computed_same}
use Rattle.machine.specs.Moments.{issue_step, moment, IssuedAt, issues-step, step-issues, moment-apart}
use Rattle.machine.specs.Visits.{Clear, after_issue, Visited, idle, early, busy, goes}
use Rattle.machine.specs.Sofar.{Ready, Issued, Sofar, step-before, held-is, timely-ready}

module _ (g : Loop) (p : Pair) (s : Sound g) (b : Starting g p) (starts : List ℕ) (k : ℕ) (m₀ : Machine) where
  -- ---- a visit that issues nothing

  -- no moment is the visit's
  not-now : (t v i w : ℕ) → i < k → v < g.graph.nodes → w < g.graph.nodes → issues g p starts k t v ≡ false → moment g p i w ≢ t * g.graph.nodes + v
  unfolding moment
  not-now t v i w one l m q e =
      let a = rows_apart (issue_step g p i w) t g.graph.nodes w v m l e in
      both_ways (step-issues g p s b starts k i w one m).0 (subst₂ (λ (x y : ℕ). issues g p starts k x y ≡ false) (sym a.0) (sym a.1) q)

  idle-keeps : (t v : ℕ) (m : Machine) → v < g.graph.nodes → issues g p starts k t v ≡ false → Sofar g p starts k m₀ (t * g.graph.nodes + v) m → Sofar g p starts k m₀ (suc (t * g.graph.nodes + v)) m
  idle-keeps t v m l q f = record {
    values_length = f.values_length;
    finish_length = f.finish_length;
    done = λ i w one n h. ⊎_elim (λ e. absurd (not-now t v i w one l n q e)) (λ e. f.done i w one n e) (eq-or-lt_of_le (le_of_suc-le-suc h));
    undone = λ i w one n h. f.undone i w one n (omega arith);
    rest_values = f.rest_values;
    rest_finish = f.rest_finish;
  }

  -- ---- a visit that issues

  -- different moments have different places
  places-apart : (i j v w : ℕ) → v < g.graph.nodes → w < g.graph.nodes → moment g p i v ≢ moment g p j w → place_of g starts i v ≢ place_of g starts j w
  places-apart i j v w l m ne e =
      let a = rows_apart i j g.graph.nodes v w l m e in
      ne (ap₂ (moment g p) a.0 a.1)

  module _ (n : ℕ) (m : Machine) (f : Sofar g p starts k m₀ n m) (i v x : ℕ) (one : i < k) (l : v < g.graph.nodes) (now : moment g p i v ≡ n) where
    -- a store at the moment's place leaves other moments' places alone
    stored_other : (xs : List ℕ) (j w : ℕ) → w < g.graph.nodes → moment g p j w ≢ n → get_or (set xs (place_of g starts i v) x) (place_of g starts j w) 0 ≡ get_or xs (place_of g starts j w) 0
    stored_other xs j w a ne = get_or-set_other xs (place_of g starts i v) (place_of g starts j w) x 0 (places-apart j i w v a l (λ e. ne (e ∙ now)))

    -- and past the run
    stored-rest : (xs : List ℕ) (y : ℕ) → k * g.graph.nodes ≤ y → get_or (set xs (place_of g starts i v) x) y 0 ≡ get_or xs y 0
    stored-rest xs y h = get_or-set_other xs (place_of g starts i v) y x 0 (λ e. omega (arith, rows-below i k g.graph.nodes one))

    -- a node whose operands are ready, issued by then, computes the same after it
    computed-stays : (xs : List ℕ) (j w : ℕ) → moment g p j w ≤ n → Ready g p starts k j w
        → computed g starts xs j w ≡ computed g starts (set xs (place_of g starts i v) x) j w
    computed-stays xs j w h r =
        computed_same g starts j w xs (set xs (place_of g starts i v) x)
        (λ e a q d.
        let u : ℕ = g.graph.tail e in
        let works = s.works u (s.joined.tails e a) in
        let at : issue_step g p (j - g.delay e) u + latency g u ≤ issue_step g p j w = r e a q d in
        let earlier : moment g p (j - g.delay e) u < moment g p j w = step-before g p (j - g.delay e) j u w (s.joined.tails e a) (omega arith) in
        sym (stored_other xs (j - g.delay e) u (s.joined.tails e a) (omega arith)))

  pub step-moment : (t v i : ℕ) → issue_step g p i v ≡ t → moment g p i v ≡ t * g.graph.nodes + v
  unfolding moment
  step-moment t v i e = ap (λ (x : ℕ). x * g.graph.nodes + v) e

  module _ (room : k * g.graph.nodes ≤ length m₀.values) (room' : k * g.graph.nodes ≤ length m₀.finish) (t v : ℕ) (m : Machine) (l : v < g.graph.nodes)
      (f : Sofar g p starts k m₀ (t * g.graph.nodes + v) m) where
    module _ (at : IssuedAt g p s b starts k t v (iteration g p starts k t v)) where
      now : moment g p (iteration g p starts k t v) v ≡ t * g.graph.nodes + v
      now = step-moment t v (iteration g p starts k t v) at.step

      -- the node's own place after its issue
      issued-now : Clear g p starts k t v m → Issued g p starts k (after_issue g p starts k t v m) (iteration g p starts k t v) v
      unfolding after_issue
      issued-now c =
          let i : ℕ = iteration g p starts k t v in
          let n : ℕ = t * g.graph.nodes + v in
          let fits = rows-below i k g.graph.nodes at.is_one in
          let r : Ready g p starts k i v = timely-ready g p s starts k m₀ n m f t v i at.is_one l refl at.step now c.timely in
          record {
            finish-is = get_or-set_same m.finish (place_of g starts i v) (t + latency g v) 0 (omega (arith, f.finish_length)) ∙ omega (arith, at.step);
            value_is = get_or-set_same m.values (place_of g starts i v) (computed g starts m.values i v) 0 (omega (arith, f.values_length))
                ∙ computed-stays n m f i v (computed g starts m.values i v) at.is_one l now m.values i v (omega (arith, now)) r;
            ready = r;
            roomy = rw (now, at.step) (omega (arith, c.unit, held-is g p s starts k m₀ n m f (ran_on g v) t));
          }

      -- what was issued before stays so
      issued-still : (j w : ℕ) → j < k → w < g.graph.nodes → moment g p j w < t * g.graph.nodes + v → Issued g p starts k (after_issue g p starts k t v m) j w
      unfolding after_issue
      issued-still j w one a h =
          let i : ℕ = iteration g p starts k t v in
          let n : ℕ = t * g.graph.nodes + v in
          let d = f.done j w one a h in
          record {
            finish-is = stored_other n m f i v _ at.is_one l now m.finish j w a (omega arith) ∙ d.finish-is;
            value_is = stored_other n m f i v _ at.is_one l now m.values j w a (omega arith)
                ∙ d.value_is
                ∙ computed-stays n m f i v _ at.is_one l now m.values j w (omega arith) d.ready;
            ready = d.ready;
            roomy = d.roomy;
          }

      goes-keeps : Clear g p starts k t v m → Sofar g p starts k m₀ (suc (t * g.graph.nodes + v)) (after_issue g p starts k t v m)
      unfolding after_issue
      goes-keeps c =
          let i : ℕ = iteration g p starts k t v in
          let n : ℕ = t * g.graph.nodes + v in
          record {
            values_length = length-set m.values _ _ ∙ f.values_length;
            finish_length = length-set m.finish _ _ ∙ f.finish_length;
            done = λ j w one a h. ⊎_elim
                (λ e. let y = moment-apart g p s b starts k j i w v a l (e ∙ sym now) in
                subst₂ (Issued g p starts k (after_issue g p starts k t v m)) (sym y.0) (sym y.1) (issued-now c))
                (λ e. issued-still j w one a e)
                (eq-or-lt_of_le (le_of_suc-le-suc h));
            undone = λ j w one a h. record {
              no_finish = stored_other n m f i v _ at.is_one l now m.finish j w a (omega arith) ∙ (f.undone j w one a (omega arith)).no_finish;
              no_value = stored_other n m f i v _ at.is_one l now m.values j w a (omega arith) ∙ (f.undone j w one a (omega arith)).no_value;
            };
            rest_values = λ y h. stored-rest n m f i v _ at.is_one l now m.values y h ∙ f.rest_values y h;
            rest_finish = λ y h. stored-rest n m f i v _ at.is_one l now m.finish y h ∙ f.rest_finish y h;
          }

    -- what a visit makes of it, unless it is refused
    pub visited-keeps : 1 ≤ t → (r : Machine) → Visited g p starts k t v m r → fine r.refusal ≡ true → Sofar g p starts k m₀ (suc (t * g.graph.nodes + v)) r
    unfolding fine
    visited-keeps one r (idle q) h = idle-keeps t v m l q f
    visited-keeps one r (early q late) h = absurd (false≢true h)
    visited-keeps one r (busy q timely full) h = absurd (false≢true h)
    visited-keeps one r (goes q c) h = goes-keeps (issues-step g p s b starts k t v one l q) c
