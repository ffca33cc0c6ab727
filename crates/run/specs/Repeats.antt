-- A run repetition by repetition, whatever a visit does, as long as a node that does not start in the step is passed over: the nodes in the order of their starts.
-- Assumes nothing.
use Rattle.std.specs.Prelude.{◌≡◌, ◌≢◌, List, [], ◌∷◌, ◌++◌, eqb}
use Rattle.std.proofs.Math.Path.{refl, sym, ap, ap₂, subst}
use Rattle.std.proofs.Common.{◌∙◌, add-zero, zero-add, add-suc, suc-add, suc-mul, eqb-true}
use Prim.Native.Nat.{ℕ, zero, suc, ◌+◌, ◌*◌, ◌≤◌}
use native.Mathlib.Omega.{arith}
use Rattle.std.proofs.Math.Nat.{zero-mul}
use Rattle.std.proofs.lemmas.Bool.{eqb-false}
use Rattle.lists.specs.Pick.{pick_ind}
use Rattle.lists.specs.Span.{span}
use Rattle.lists.specs.Fold.{fold, fold-snoc}
use Rattle.run.specs.Order.{starters_from, order_from}
use Rattle.machine.specs.Through.{step_by, ran_by}

fold-append {ℓ} : {B : Type ℓ} (f : B → ℕ → B) (b : B) (xs ys : List ℕ) → fold f b (xs ++ ys) ≡ fold f (fold f b xs) ys
unfolding fold
fold-append f b [] ys = refl
fold-append f b (x ∷ xs) ys = fold-append f (f b x) xs ys

fold-span {ℓ} : {B : Type ℓ} (f : B → ℕ → B) (b : B) (a n m : ℕ) → fold f b (span a (n + m)) ≡ fold f (fold f b (span a n)) (span (a + n) m)
unfolding fold span
fold-span f b a zero m = rw (zero-add, add-zero)
fold-span f b a (suc n) m = rw (suc-add, add-suc, ← suc-add) (fold-span f (f b a) (suc a) n m)

module _ {M : Type 0} (nodes len : ℕ) (start : ℕ → ℕ) (call : ℕ → M → ℕ → M) where
  -- node v in repetition j
  unfoldable pub call_in : ℕ → M → ℕ → M
  call_in j m v = call (j * len + start v) m v

  -- the nodes of a repetition, one after the other
  unfoldable pub repeated_by : M → ℕ → M
  repeated_by m j = fold (call_in j) m (order_from start nodes 1 len)

  -- in a run step the nodes that do not start there do nothing
  module _ (idles : (j q v : ℕ) (m : M) → 1 ≤ q → q ≤ len → start v ≢ q → call (j * len + q) m v ≡ m) where
    starters-called : (j q a n : ℕ) (m : M) → 1 ≤ q → q ≤ len
        → fold (call (j * len + q)) m (span a n) ≡ fold (call_in j) m (starters_from start q a n)
    unfolding fold span starters_from call_in
    starters-called j q a zero m one few = refl
    starters-called j q a (suc n) m one few =
        pick_ind (λ us. fold (call (j * len + q)) (call (j * len + q) m a) (span (suc a) n) ≡ fold (call_in j) m us)
        (eqb (start a) q) (a ∷ starters_from start q (suc a) n) (starters_from start q (suc a) n)
        (λ e.
        subst (λ (x : ℕ). fold (call (j * len + q)) (call (j * len + q) m a) (span (suc a) n)
        ≡ fold (call_in j) (call (j * len + x) m a) (starters_from start q (suc a) n)) (sym (eqb-true (start a) q e))
        (starters-called j q (suc a) n (call (j * len + q) m a) one few))
        (λ e.
        ap (λ (r : M). fold (call (j * len + q)) r (span (suc a) n)) (idles j q a m one few (eqb-false _ _ e))
        ∙ starters-called j q (suc a) n m one few)

    steps-called : (j q left : ℕ) (m : M) → 1 ≤ q → q + left ≤ suc len
        → fold (step_by nodes call) m (span (j * len + q) left) ≡ fold (call_in j) m (order_from start nodes q left)
    unfolding fold span order_from step_by
    steps-called j q zero m one few = refl
    steps-called j q (suc left) m one few =
        let next : suc (j * len + q) ≡ j * len + suc q = omega arith in
        let here : step_by nodes call m (j * len + q) ≡ fold (call_in j) m (starters_from start q 0 nodes) =
        starters-called j q 0 nodes m one (omega arith) in
        ap₂ (λ (r : M) (t : ℕ). fold (step_by nodes call) r (span t left)) here next
        ∙ steps-called j (suc q) left _ (omega arith) (omega arith)
        ∙ sym (fold-append (call_in j) m (starters_from start q 0 nodes) (order_from start nodes (suc q) left))

    pub ran-repeats : (n : ℕ) (m : M) → ran_by nodes call (n * len) m ≡ fold repeated_by m (span 0 n)
    unfolding ran_by fold span repeated_by
    ran-repeats zero m = rw zero-mul
    ran-repeats (suc n) m =
        let first : 1 + n * len ≡ n * len + 1 = omega arith in
        ap (λ (x : ℕ). fold (step_by nodes call) m (span 1 x)) (suc-mul n len)
        ∙ fold-span (step_by nodes call) m 1 (n * len) len
        ∙ ap₂ (λ (r : M) (t : ℕ). fold (step_by nodes call) r (span t len)) (ran-repeats n m) first
        ∙ steps-called n 1 len (fold repeated_by m (span 0 n)) (omega arith) (omega arith)
        ∙ ap (repeated_by (fold repeated_by m (span 0 n))) (sym (zero-add n))
        ∙ sym (fold-snoc repeated_by m 0 n)
