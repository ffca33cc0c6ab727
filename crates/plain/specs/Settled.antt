-- What the plain loop stores is never disturbed: its values meet their equations, and the places past them stay.
-- Assumes nothing.
use Rattle.std.specs.Prelude.{◌≡◌, ◌≢◌, ◌⊎◌, List, [], ◌∷◌, ◌++◌, length, set, take}
use Rattle.std.proofs.Math.Path.{refl, ap, subst}
use Rattle.std.proofs.Common.{sym, ◌∙◌, inl, inr, arith, zero-add, eq-or-lt_of_le, le_of_suc-le-suc, take-suc}
use Rattle.std.proofs.Math.Logic.{⊎_elim}
use Prim.Native.Nat.{ℕ, zero, suc, ◌+◌, ◌-◌, ◌*◌, ◌≤◌, ◌<◌}
use Rattle.std.proofs.Math.Decide.{dec_lt}
use Rattle.std.proofs.Math.Nat.{suc-mul}
use Rattle.std.proofs.Math.ListN.{get_or, length-set}
use Rattle.std.proofs.Math.Seq.{take-length, get_or-set_same, get_or-set_other}
use Rattle.lists.specs.Span.{span}
use Rattle.lists.specs.Fold.{fold, fold-snoc}
use Rattle.lists.specs.Quotient.{rows_apart}
use Rattle.legal.specs.Loop.{Loop}
use Rattle.legal.specs.Shape.{Sound}
use Rattle.machine.specs.Values.{place_of, computed}
use Rattle.machine.specs.Plain.{PlainLoop}
use Rattle.machine.specs.Reads.{computed_same}
use Rattle.machine.specs.Ended.{KeptFrom}
use Rattle.plain.specs.Looping.{stored, iterated, looped}
use Rattle.plain.specs.Ascending.{Sorts}

-- a fold over one element more at the end
pub fold-last {ℓ κ} : {A : Type ℓ} {B : Type κ} (f : B → A → B) (b : B) (xs : List A) (x : A) → fold f b (xs ++ x ∷ []) ≡ f (fold f b xs) x
unfolding fold
fold-last f b [] x = refl
fold-last f b (y ∷ ys) x = fold-last f (f b y) ys x

module _ (g : Loop) (s : Sound g) (starts : List ℕ) where
  -- node v of iteration i meets its equation
  abbrev Meets : List ℕ → ℕ → ℕ → Type 0
  Meets values i v = get_or values (place_of g starts i v) 0 ≡ computed g starts values i v

  place-apart : (i j v w : ℕ) → v < g.graph.nodes → w < g.graph.nodes → (i ≢ j) ⊎ (v ≢ w) → place_of g starts i v ≢ place_of g starts j w
  place-apart i j v w l m (inl ne) e = ne (rows_apart i j g.graph.nodes v w l m e).0
  place-apart i j v w l m (inr ne) e = ne (rows_apart i j g.graph.nodes v w l m e).1

  -- node v of iteration j needs nothing of node w in iteration i
  abbrev Spares : ℕ → ℕ → ℕ → ℕ → Type 0
  Spares i w j v = (e : ℕ) → e < g.graph.edges → g.graph.head e ≡ v → g.delay e ≤ j → (j - g.delay e ≢ i) ⊎ (g.graph.tail e ≢ w)

  module _ (values : List ℕ) (i w x : ℕ) (w-in : w < g.graph.nodes) where
    same-computed : (j v : ℕ) → Spares i w j v → computed g starts values j v ≡ computed g starts (set values (place_of g starts i w) x) j v
    same-computed j v spares =
        computed_same g starts j v values (set values (place_of g starts i w) x)
        (λ e l q d. sym (get_or-set_other values (place_of g starts i w) (place_of g starts (j - g.delay e) (g.graph.tail e)) x 0 (place-apart (j - g.delay e) i (g.graph.tail e) w (s.joined.tails e l) w-in (spares e l q d))))

    -- a store elsewhere that it does not need leaves a node as it is
    store_keeps : (j v : ℕ) → v < g.graph.nodes → (j ≢ i) ⊎ (v ≢ w) → Spares i w j v → Meets values j v → Meets (set values (place_of g starts i w) x) j v
    store_keeps j v l ne spares m =
        get_or-set_other values (place_of g starts i w) (place_of g starts j v) x 0 (place-apart j i v w l w-in ne) ∙ m ∙ same-computed j v spares

  -- a node that does not need itself meets its equation once it is stored
  store-meets : (values : List ℕ) (i w : ℕ) → w < g.graph.nodes → place_of g starts i w < length values → Spares i w i w → Meets (stored g starts i values w) i w
  unfolding stored
  store-meets values i w l room spares =
      get_or-set_same values (place_of g starts i w) (computed g starts values i w) 0 room
      ∙ same-computed values i w (computed g starts values i w) l i w spares

  module _ (order : List ℕ) (sorts : Sorts g order) where
    -- the nodes so far of iteration i do not need the next, nor does the next itself
    order-spares : (i a b : ℕ) → a ≤ b → b < length order → Spares i (get_or order b 0) i (get_or order a 0)
    order-spares i a b l m e h q d =
        elim (dec_lt 0 (g.delay e)) [
          | yes z ↦ inl (λ t. omega arith)
          | no z ↦ inr (sorts.needed a b l m e h (omega arith) q)
        ]

    -- nodes of earlier iterations do not either
    earlier-spares : (i w j v : ℕ) → j < i → Spares i w j v
    earlier-spares i w j v l e h q d = inl (λ t. omega arith)

    -- iteration i has come to its node number m
    record Turning (i m : ℕ) (before values : List ℕ) : Type 0 where
      long : length values ≡ length before
      now : (a : ℕ) → a < m → Meets values i (get_or order a 0)
      earlier : (j v : ℕ) → j < i → v < g.graph.nodes → Meets before j v → Meets values j v
      past : (x : ℕ) → i * g.graph.nodes + g.graph.nodes ≤ x → get_or values x 0 ≡ get_or before x 0

    turning-more : (i m : ℕ) (before values : List ℕ) → m < length order → i * g.graph.nodes + g.graph.nodes ≤ length before → Turning i m before values
        → Turning i (suc m) before (stored g starts i values (get_or order m 0))
    unfolding stored
    turning-more i m before values l room t =
        let w = get_or order m 0 in
        let x = computed g starts values i w in
        let w-in = sorts.inside m l in
        record {
          long = length-set values (place_of g starts i w) x ∙ t.long;
          now = λ a h. ⊎_elim
              (λ q. rw q (store-meets values i w w-in (omega (arith, t.long)) (order-spares i m m (omega arith) l)))
              (λ q. store_keeps values i w x w-in i (get_or order a 0) (sorts.inside a (omega arith)) (inr (sorts.apart a m q l)) (order-spares i a m (omega arith) l) (t.now a q))
              (eq-or-lt_of_le (le_of_suc-le-suc h));
          earlier = λ j v h k n. store_keeps values i w x w-in j v k (inl (λ q. omega arith)) (earlier-spares i w j v h) (t.earlier j v h k n);
          past = λ y h. get_or-set_other values (place_of g starts i w) y x 0 (λ q. omega (arith, w-in)) ∙ t.past y h;
        }

    turning : (i m : ℕ) (before : List ℕ) → m ≤ length order → i * g.graph.nodes + g.graph.nodes ≤ length before
        → Turning i m before (fold (stored g starts i) before (take m order))
    unfolding fold
    turning i zero before h room = record { long = refl; now = λ a l. absurd (omega arith); earlier = λ j v a b c. c; past = λ x l. refl }
    turning i (suc m) before h room =
        subst (Turning i (suc m) before)
        (sym (ap (fold (stored g starts i) before) (take-suc order m 0 h) ∙ fold-last (stored g starts i) before (take m order) (get_or order m 0)))
        (turning-more i m before (fold (stored g starts i) before (take m order)) h room (turning i m before (omega arith) room))

    -- the first k iterations are done
    record Done (k : ℕ) (before values : List ℕ) : Type 0 where
      long : length values ≡ length before
      meets : PlainLoop g starts k values
      past : (x : ℕ) → k * g.graph.nodes ≤ x → get_or values x 0 ≡ get_or before x 0

    done_more : (k : ℕ) (before values : List ℕ) → suc k * g.graph.nodes ≤ length before → Done k before values → Done (suc k) before (iterated g starts order values k)
    unfolding iterated
    done_more k before values room d =
        let row : suc k * g.graph.nodes ≡ k * g.graph.nodes + g.graph.nodes = suc-mul k g.graph.nodes in
        let t : Turning k (length order) values (fold (stored g starts k) values order) =
        subst (λ us. Turning k (length order) values (fold (stored g starts k) values us)) (take-length order) (turning k (length order) values (omega arith) (omega (arith, d.long))) in
        record {
          long = t.long ∙ d.long;
          meets = λ i v h l. ⊎_elim
              (λ q. rw q (here k v l t))
              (λ q. t.earlier i v q l (d.meets i v q l))
              (eq-or-lt_of_le (le_of_suc-le-suc h));
          past = λ x h. t.past x (omega arith) ∙ d.past x (omega arith);
        }
      where
        here : (k v : ℕ) → v < g.graph.nodes → Turning k (length order) values (fold (stored g starts k) values order) → Meets (fold (stored g starts k) values order) k v
        here k v l t =
            let at = sorts.has v l in
            subst (Meets (fold (stored g starts k) values order) k) at.2 (t.now at.0 at.1)

    done_all : (k : ℕ) (before : List ℕ) → k * g.graph.nodes ≤ length before → Done k before (looped g starts order k before)
    unfolding looped fold span
    done_all zero before room = record { long = refl; meets = λ i v h l. absurd (omega arith); past = λ x h. refl }
    done_all (suc k) before room =
        subst (Done (suc k) before)
        (sym (fold-snoc (iterated g starts order) before 0 k ∙ ap (iterated g starts order (fold (iterated g starts order) before (span 0 k))) (zero-add k)))
        (done_more k before (looped g starts order k before) room (done_all k before (omega (arith, suc-mul k g.graph.nodes))))

    -- in such an order the loop's values are the plain loop's
    pub looped-plain : (k : ℕ) (before : List ℕ) → k * g.graph.nodes ≤ length before → PlainLoop g starts k (looped g starts order k before)
    looped-plain k before room = (done_all k before room).meets

    -- and the places past them stay
    pub looped-kept : (k : ℕ) (before : List ℕ) → k * g.graph.nodes ≤ length before → KeptFrom (k * g.graph.nodes) before (looped g starts order k before)
    looped-kept k before room = let d = done_all k before room in record { long = d.long; rest = d.past }
