-- What an edge, a round and the rounds do to the values.
-- Assumes nothing.
use Rattle.std.specs.Prelude.{◌≡◌, ◌⊎◌, set}
use Rattle.std.proofs.Math.Path.{refl, ap, subst}
use Rattle.std.proofs.Common.{sym, ◌∙◌, true≢false, inl, inr, not-suc-le-zero, le_of_suc-le-suc, eq-or-lt_of_le}
use Rattle.std.proofs.Math.Bool.{true, false}
use Rattle.std.proofs.Math.Logic.{⊎_elim}
use mathlib.Core.List.{List, [], ◌∷◌, ◌++◌}
use Prim.Native.Nat.{ℕ, zero, suc, ◌+◌, ◌-◌, ◌≤◌, ◌<◌, max}
use native.Mathlib.Omega.{arith}
use Rattle.std.proofs.Math.Decide.{dec_le, ℕ_discrete}
use borrow.Author.Tests.{ltb-true, ltb-false, le-ltb, lt-ltb}
use Rattle.std.proofs.Math.ListN.{length, get_or, length-set}
use Rattle.std.proofs.Math.Seq.{get_or-set_same}
use Rattle.std.proofs.lemmas.List.{set-get_or}
use Rattle.lists.specs.Pick.{pick_ind}
use Rattle.lists.specs.Span.{span}
use Rattle.lists.specs.Fold.{fold, sum_of, sum-append}
use Rattle.lists.specs.Place.{set_view}
use Rattle.system.specs.Graph.{Joined, Walk}
use Rattle.system.specs.System.{System, Solves, gains, costs}
use Rattle.system.specs.Walks.{walk-join}
use Rattle.system.specs.Rounds.{asks, raise, raise_all, raises, every_edge, round, settle_from}

-- values as a function of the node
abbrev pub value_of : List ℕ → ℕ → ℕ
value_of y v = get_or y v 0

abbrev pub Under : List ℕ → (ℕ → ℕ) → Type 0
Under y x = (v : ℕ) → get_or y v 0 ≤ x v

-- a walk to v that accounts for its value
pub record Reached (s : System) (y : List ℕ) (v : ℕ) : Type 0 where
  pub path : List ℕ
  pub start : ℕ
  pub start-in : start < s.graph.nodes
  pub walk : Walk s.graph start path v
  pub value : get_or y v 0 + gains s path ≡ costs s path

module _ (s : System) where
  -- edge e's constraint at y
  abbrev pub Holds : List ℕ → ℕ → Type 0
  Holds y e = get_or y (s.graph.tail e) 0 + s.cost e ≤ get_or y (s.graph.head e) 0 + s.gain e

  -- ---- one edge

  pub raise-length : (y : List ℕ) (e : ℕ) → length (raise s y e) ≡ length y
  unfolding raise
  raise-length y e = length-set y _ _

  -- what stands at v after edge e
  raise-view : (y : List ℕ) (e v : ℕ)
      → ((v ≡ s.graph.head e) × (get_or (raise s y e) v 0 ≡ max (get_or y (s.graph.head e) 0) (get_or y (s.graph.tail e) 0 + s.cost e - s.gain e))) ⊎ (get_or (raise s y e) v 0 ≡ get_or y v 0)
  unfolding raise
  raise-view y e v = set_view y (s.graph.head e) _ v

  raise-grows : (y : List ℕ) (e v : ℕ) → get_or y v 0 ≤ get_or (raise s y e) v 0
  raise-grows y e v = ⊎_elim (λ w. omega (arith, ap (value_of y) w.0)) (λ w. omega arith) (raise-view y e v)

  raise-meets : (y : List ℕ) (e : ℕ) → s.graph.head e < length y → get_or y (s.graph.tail e) 0 + s.cost e ≤ get_or (raise s y e) (s.graph.head e) 0 + s.gain e
  unfolding raise
  raise-meets y e l = omega (arith, get_or-set_same y (s.graph.head e) (max (get_or y (s.graph.head e) 0) (get_or y (s.graph.tail e) 0 + s.cost e - s.gain e)) 0 l)

  -- no solution is passed
  raise-under : (x : ℕ → ℕ) (y : List ℕ) (e : ℕ) → x (s.graph.tail e) + s.cost e ≤ x (s.graph.head e) + s.gain e → Under y x → Under (raise s y e) x
  raise-under x y e h u v =
      ⊎_elim (λ w. omega (arith, u (s.graph.head e), u (s.graph.tail e), ap x w.0)) (λ w. omega (arith, u v)) (raise-view y e v)

  raise-reached : Joined s.graph → (y : List ℕ) (e : ℕ) → e < s.graph.edges → ((v : ℕ) → v < s.graph.nodes → Reached s y v) → (v : ℕ) → v < s.graph.nodes → Reached s (raise s y e) v
  unfolding gains costs sum_of
  raise-reached j y e l r v lv = go (raise-view y e v) (dec_le (get_or y (s.graph.tail e) 0 + s.cost e - s.gain e) (get_or y (s.graph.head e) 0))
    where
      same : get_or (raise s y e) v 0 ≡ get_or y v 0 → Reached s (raise s y e) v
      same q = let t = r v lv in record { path = t.path; start = t.start; start-in = t.start-in; walk = t.walk; value = omega arith }

      go : ((v ≡ s.graph.head e) × (get_or (raise s y e) v 0 ≡ max (get_or y (s.graph.head e) 0) (get_or y (s.graph.tail e) 0 + s.cost e - s.gain e))) ⊎ (get_or (raise s y e) v 0 ≡ get_or y v 0)
          → Dec (get_or y (s.graph.tail e) 0 + s.cost e - s.gain e ≤ get_or y (s.graph.head e) 0) → Reached s (raise s y e) v
      go (inr q) d = same q
      go (inl w) (yes h) = same (omega (arith, ap (value_of y) w.0))
      go (inl w) (no h) =
          let t = r (s.graph.tail e) (j.tails e l) in record {
            path = t.path ++ (e ∷ []);
            start = t.start;
            start-in = t.start-in;
            walk = walk-join s.graph t.start t.path (s.graph.tail e) (e ∷ []) v t.walk (l, refl, sym w.0);
            value = omega (arith, sum-append s.gain t.path (e ∷ []), sum-append s.cost t.path (e ∷ []), t.value);
          }

  -- an edge that does not ask leaves the values as they are
  pub raise-calm : (y : List ℕ) (e : ℕ) → Holds y e → raise s y e ≡ y
  unfolding raise
  raise-calm y e h =
      let q : max (get_or y (s.graph.head e) 0) (get_or y (s.graph.tail e) 0 + s.cost e - s.gain e) ≡ get_or y (s.graph.head e) 0 = omega arith in
      rw q (set-get_or y (s.graph.head e) 0)

  pub asks-false : (y : List ℕ) (e : ℕ) → asks s y e ≡ false → Holds y e
  unfolding asks
  asks-false y e q = ltb-false _ _ q

  pub holds-asks : (y : List ℕ) (e : ℕ) → Holds y e → asks s y e ≡ false
  unfolding asks
  holds-asks y e h = le-ltb _ _ h

  pub asks-true : (y : List ℕ) (e : ℕ) → asks s y e ≡ true → get_or y (s.graph.head e) 0 + s.gain e < get_or y (s.graph.tail e) 0 + s.cost e
  unfolding asks
  asks-true y e q = ltb-true _ _ q

  pub fails-asks : (y : List ℕ) (e : ℕ) → get_or y (s.graph.head e) 0 + s.gain e < get_or y (s.graph.tail e) 0 + s.cost e → asks s y e ≡ true
  unfolding asks
  fails-asks y e h = lt-ltb _ _ h

  -- an edge that asks has its head set to what it asks
  pub raise-asks : (y : List ℕ) (e : ℕ) → get_or y (s.graph.head e) 0 + s.gain e < get_or y (s.graph.tail e) 0 + s.cost e
      → raise s y e ≡ set y (s.graph.head e) (get_or y (s.graph.tail e) 0 + s.cost e - s.gain e)
  unfolding raise
  raise-asks y e h = ap (set y (s.graph.head e)) (omega arith)

  -- ---- one round, over n edges from i on

  -- what every edge keeps, a round keeps
  keeps-span : (P : List ℕ → Type 0) → ((y : List ℕ) (e : ℕ) → e < s.graph.edges → P y → P (raise s y e)) → (n i : ℕ) (y : List ℕ) → i + n ≤ s.graph.edges → P y → P (raise_all s y (span i n))
  unfolding raise_all fold span
  keeps-span P k zero i y l p = p
  keeps-span P k (suc n) i y l p = keeps-span P k n (suc i) (raise s y i) (omega arith) (k y i (omega arith) p)

  pub round_keeps : (P : List ℕ → Type 0) → ((y : List ℕ) (e : ℕ) → e < s.graph.edges → P y → P (raise s y e)) → (y : List ℕ) → P y → P (round s y)
  unfolding round every_edge
  round_keeps P k y p = keeps-span P k s.graph.edges 0 y (omega arith) p

  span-grows : (n i : ℕ) (y : List ℕ) (v : ℕ) → get_or y v 0 ≤ get_or (raise_all s y (span i n)) v 0
  unfolding raise_all fold span
  span-grows zero i y v = omega arith
  span-grows (suc n) i y v = omega (arith, raise-grows y i v, span-grows n (suc i) (raise s y i) v)

  pub round-grows : (y : List ℕ) (v : ℕ) → get_or y v 0 ≤ get_or (round s y) v 0
  unfolding round every_edge
  round-grows y v = span-grows s.graph.edges 0 y v

  pub round-length : (y : List ℕ) → length (round s y) ≡ length y
  round-length y = round_keeps (λ z. length z ≡ length y) (λ z e _ p. raise-length z e ∙ p) y refl

  span-meets : (n i : ℕ) (y : List ℕ) (e : ℕ) → i ≤ e → e < i + n → s.graph.head e < length y
      → get_or y (s.graph.tail e) 0 + s.cost e ≤ get_or (raise_all s y (span i n)) (s.graph.head e) 0 + s.gain e
  unfolding raise_all fold span
  span-meets zero i y e a b l = absurd (not-suc-le-zero {n = 0} (omega arith))
  span-meets (suc n) i y e a b l =
      elim (ℕ_discrete i e) [
        | yes q ↦ omega (arith, subst (λ k. get_or y (s.graph.tail k) 0 + s.cost k ≤ get_or (raise s y i) (s.graph.head k) 0 + s.gain k) q (raise-meets y i (subst (λ k. s.graph.head k < length y) (sym q) l)), span-grows n (suc i) (raise s y i) (s.graph.head e))
        | no q ↦ omega (arith, raise-grows y i (s.graph.tail e), span-meets n (suc i) (raise s y i) e (omega arith) (omega arith) (omega (arith, raise-length y i)))
      ]

  -- after a round every head has at least what the values before it asked
  pub round-meets : (y : List ℕ) (e : ℕ) → e < s.graph.edges → s.graph.head e < length y → get_or y (s.graph.tail e) 0 + s.cost e ≤ get_or (round s y) (s.graph.head e) 0 + s.gain e
  unfolding round every_edge
  round-meets y e h l = span-meets s.graph.edges 0 y e (omega arith) (omega arith) l

  -- ---- a round that raises nothing, and one that raises something

  span-calm : (n i : ℕ) (y : List ℕ) → raises s y (span i n) ≡ false → (e : ℕ) → i ≤ e → e < i + n → Holds y e
  unfolding raises span
  span-calm zero i y q e a b = absurd (not-suc-le-zero {n = 0} (omega arith))
  span-calm (suc n) i y q e a b =
      pick_ind (λ r. r ≡ false → Holds y e) (asks s y i) true (raises s (raise s y i) (span (suc i) n))
      (λ t z. absurd (true≢false z))
      (λ f z.
      let h : Holds y i = asks-false y i f in
      let z' : raises s y (span (suc i) n) ≡ false = rw (raise-calm y i h) at z in
      ⊎_elim (λ k. subst (Holds y) k h) (λ k. span-calm n (suc i) y z' e k (omega arith)) (eq-or-lt_of_le a))
      q

  -- a round that raises nothing has found every constraint met
  pub calm-solves : (y : List ℕ) → raises s y (every_edge s) ≡ false → Solves s (value_of y)
  unfolding every_edge
  calm-solves y q e l = span-calm s.graph.edges 0 y q e (omega arith) (omega arith)

  span_same : (n i : ℕ) (y : List ℕ) → raises s y (span i n) ≡ false → raise_all s y (span i n) ≡ y
  unfolding raises raise_all fold span
  span_same zero i y q = refl
  span_same (suc n) i y q =
      pick_ind (λ r. r ≡ false → fold (raise s) (raise s y i) (span (suc i) n) ≡ y) (asks s y i) true (raises s (raise s y i) (span (suc i) n))
      (λ t z. absurd (true≢false z))
      (λ f z.
      let h : Holds y i = asks-false y i f in
      span_same n (suc i) (raise s y i) z ∙ raise-calm y i h)
      q

  -- and has left the values as they were
  pub calm-same : (y : List ℕ) → raises s y (every_edge s) ≡ false → round s y ≡ y
  unfolding every_edge round
  calm-same y q = span_same s.graph.edges 0 y q

  span-raises : (n i : ℕ) (y : List ℕ) → i + n ≤ s.graph.edges → raises s y (span i n) ≡ true
      → (e : ℕ) × (e < s.graph.edges) × (get_or y (s.graph.head e) 0 + s.gain e < get_or y (s.graph.tail e) 0 + s.cost e)
  unfolding raises span
  span-raises zero i y l q = absurd (true≢false (sym q))
  span-raises (suc n) i y l q =
      pick_ind (λ r. r ≡ true → (e : ℕ) × (e < s.graph.edges) × (get_or y (s.graph.head e) 0 + s.gain e < get_or y (s.graph.tail e) 0 + s.cost e))
      (asks s y i) true (raises s (raise s y i) (span (suc i) n))
      (λ t z. (i, omega arith, asks-true y i t))
      (λ f z.
      let h : Holds y i = asks-false y i f in
      span-raises n (suc i) y (omega arith) (rw (raise-calm y i h) at z))
      q

  -- a round that raises something began with a constraint that fails
  pub raises-fails : (y : List ℕ) → raises s y (every_edge s) ≡ true
      → (e : ℕ) × (e < s.graph.edges) × (get_or y (s.graph.head e) 0 + s.gain e < get_or y (s.graph.tail e) 0 + s.cost e)
  unfolding every_edge
  raises-fails y q = span-raises s.graph.edges 0 y (omega arith) q

  pub round_under : (x : ℕ → ℕ) (y : List ℕ) → Solves s x → Under y x → Under (round s y) x
  round_under x y m u = round_keeps (λ z. Under z x) (λ z e l p. raise-under x z e (m e l) p) y u

  pub round-reached : Joined s.graph → (y : List ℕ) → ((v : ℕ) → v < s.graph.nodes → Reached s y v) → (v : ℕ) → v < s.graph.nodes → Reached s (round s y) v
  round-reached j y r = round_keeps (λ z. (v : ℕ) → v < s.graph.nodes → Reached s z v) (λ z e l p. raise-reached j z e l p) y r

  -- ---- the rounds

  -- what every round keeps, the values at the end have
  pub settle-keeps : (P : List ℕ → Type 0) → ((y : List ℕ) → P y → P (round s y)) → (n : ℕ) (y : List ℕ) → P y → P (settle_from s n y).values
  unfolding settle_from
  settle-keeps P k zero y p = p
  settle-keeps P k (suc n) y p =
      pick_ind (λ r. P r.values) (raises s y (every_edge s)) (settle_from s n (round s y)) (record { settled = true; values = y })
      (λ _. settle-keeps P k n (round s y) (k y p))
      (λ _. p)

  pub settled-calm : (n : ℕ) (y : List ℕ) → (settle_from s n y).settled ≡ true → raises s (settle_from s n y).values (every_edge s) ≡ false
  unfolding settle_from
  settled-calm zero y q = absurd (true≢false (sym q))
  settled-calm (suc n) y q =
      pick_ind (λ r. r.settled ≡ true → raises s r.values (every_edge s) ≡ false) (raises s y (every_edge s)) (settle_from s n (round s y)) (record { settled = true; values = y })
      (λ _. settled-calm n (round s y))
      (λ f _. f)
      q

  -- the values after k rounds
  abbrev pub after : ℕ → List ℕ → List ℕ
  after zero y = y
  after (suc k) y = after k (round s y)

  -- the last of k + 1 rounds still raised
  pub unsettled-raises : (k : ℕ) (y : List ℕ) → (settle_from s (suc k) y).settled ≡ false → raises s (after k y) (every_edge s) ≡ true
  unfolding settle_from
  unsettled-raises zero y q =
      pick_ind (λ r. r.settled ≡ false → raises s y (every_edge s) ≡ true) (raises s y (every_edge s)) (settle_from s 0 (round s y)) (record { settled = true; values = y })
      (λ t _. t)
      (λ _ z. absurd (true≢false z))
      q
  unsettled-raises (suc k) y q =
      pick_ind (λ r. r.settled ≡ false → raises s (after k (round s y)) (every_edge s) ≡ true) (raises s y (every_edge s)) (settle_from s (suc k) (round s y)) (record { settled = true; values = y })
      (λ _ z. unsettled-raises k (round s y) z)
      (λ _ z. absurd (true≢false z))
      q

  pub after-keeps : (P : List ℕ → Type 0) → ((y : List ℕ) → P y → P (round s y)) → (k : ℕ) (y : List ℕ) → P y → P (after k y)
  after-keeps P r zero y p = p
  after-keeps P r (suc k) y p = after-keeps P r k (round s y) (r y p)

  -- k rounds account for every walk of at most k edges
  pub short-told : Joined s.graph → (k : ℕ) (y : List ℕ) → s.graph.nodes ≤ length y → (u : ℕ) (es : List ℕ) (v : ℕ) → Walk s.graph u es v → length es ≤ k
      → get_or y u 0 + costs s es ≤ get_or (after k y) v 0 + gains s es
  unfolding gains costs sum_of
  short-told j k y n u [] v w l =
      omega (arith, after-keeps (λ z. get_or y u 0 ≤ get_or z u 0) (λ z p. omega (arith, round-grows z u, p)) k y (omega arith), ap (value_of (after k y)) w)
  short-told j zero y n u (e ∷ es) v w l = absurd (not-suc-le-zero l)
  short-told j (suc k) y n u (e ∷ es) v w l =
      omega (
        arith,
        ap (value_of y) w.1,
        round-meets y e w.0 (omega (arith, j.heads e w.0)),
        short-told j k (round s y) (omega (arith, round-length y)) (s.graph.head e) es v w.2 (le_of_suc-le-suc l),
      )
