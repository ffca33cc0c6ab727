-- What settling a system tells: the least solution where it settles, a losing walk where it does not.
-- Assumes nothing.
use Rattle.std.specs.Prelude.{◌≡◌, Bool, false, length, get_or, replicate}
use Rattle.std.proofs.Math.Path.{refl}
use Rattle.std.proofs.Common.{◌∙◌, subst, mul-le-mul_right}
use Rattle.std.proofs.Math.Bool.{true}
use Rattle.std.proofs.Math.Logic.{⊎_elim}
use mathlib.Core.List.{List, [], ◌∷◌, ◌++◌}
use Prim.Native.Nat.{ℕ, suc, ◌+◌, ◌-◌, ◌*◌, ◌≤◌, ◌<◌}
use native.Mathlib.Omega.{arith}
use Rattle.std.proofs.Math.ListN.{length-replicate}
use Rattle.lists.specs.Fold.{sum_of, sum-append}
use Rattle.lists.specs.Place.{zeros-at}
use Rattle.system.specs.Graph.{Joined, Walk}
use Rattle.system.specs.System.{System, Solves, gains, costs, LosingWalk}
use Rattle.system.specs.Rounds.{raises, every_edge, settle_from, settled_of}
use Rattle.system.specs.Rising.{Reached, Under, round_under, round-reached, round-length, settle-keeps, settled-calm, calm-solves, raises-fails, unsettled-raises, after, after-keeps, short-told}
use Rattle.system.specs.Walks.{along, sound, shorten, walk-join, costs-le}

-- the value of node v once the rounds are over
abbrev pub settled_at : System → ℕ → ℕ
settled_at s v = get_or (settled_of s).values v 0

pub settled-solves : (s : System) → (settled_of s).settled ≡ true → Solves s (settled_at s)
unfolding settled_of
settled-solves s q = calm-solves s _ (settled-calm s s.graph.nodes (replicate 64 0) q)

-- no value has passed a solution, settled or not
pub settled-least : (s : System) (y : ℕ → ℕ) → Solves s y → (v : ℕ) → settled_at s v ≤ y v
unfolding settled_of
settled-least s y m = settle-keeps s (λ z. Under z y) (λ z p. round_under s y z m p) s.graph.nodes (replicate 64 0) (λ v. omega (arith, zeros-at 64 v))

pub settled-length : (s : System) → length (settled_of s).values ≡ 64
unfolding settled_of
settled-length s = settle-keeps s (λ z. length z ≡ 64) (λ z p. round-length s z ∙ p) s.graph.nodes (replicate 64 0) (length-replicate {A = ℕ} 64 0)

-- a system that settles has a solution
pub settles-solved : (s : System) → (settled_of s).settled ≡ true → (y : ℕ → ℕ) × Solves s y
settles-solved s q = (settled_at s, settled-solves s q)

-- a losing walk keeps a system from settling
pub loses-unsettled : (s : System) (es : List ℕ) → LosingWalk s es → (settled_of s).settled ≡ false
loses-unsettled s es w = go (settled_of s).settled refl
  where
    go : (b : Bool) → (settled_of s).settled ≡ b → (settled_of s).settled ≡ false
    go true q = absurd (sound s (settled_at s) es (settled-solves s q) w)
    go false q = q

-- a walk to v with fewer edges than nodes, whose cost is the value and its gain
pub record Attained (s : System) (v : ℕ) : Type 0 where
  pub path : List ℕ
  pub start : ℕ
  pub start-in : start < s.graph.nodes
  pub walk : Walk s.graph start path v
  pub few : length path < s.graph.nodes
  pub value : settled_at s v + gains s path ≡ costs s path

module _ (s : System) (j : Joined s.graph) where
  zeros-reached : (v : ℕ) → v < s.graph.nodes → Reached s (replicate 64 0) v
  unfolding gains costs sum_of
  zeros-reached v l = record { path = []; start = v; start-in = l; walk = refl; value = omega (arith, zeros-at 64 v) }

  -- where k + 1 nodes leave a constraint failing after k rounds, some walk loses
  fails-loses : (k : ℕ) → s.graph.nodes ≡ suc k → s.graph.nodes ≤ 64 → (e : ℕ) → e < s.graph.edges
      → get_or (after s k (replicate 64 0)) (s.graph.head e) 0 + s.gain e < get_or (after s k (replicate 64 0)) (s.graph.tail e) 0 + s.cost e
      → (es : List ℕ) × LosingWalk s es
  unfolding gains costs sum_of
  fails-loses k is n e l f =
      let y : List ℕ = after s k (replicate 64 0) in
      let r : Reached s y (s.graph.tail e) =
      after-keeps s (λ z. (v : ℕ) → v < s.graph.nodes → Reached s z v) (round-reached s j) k (replicate 64 0) zeros-reached (s.graph.tail e) (j.tails e l) in
      let es : List ℕ = r.path ++ (e ∷ []) in
      let w : Walk s.graph r.start es (s.graph.head e) = walk-join s.graph r.start r.path (s.graph.tail e) (e ∷ []) (s.graph.head e) r.walk (l, refl, refl) in
      ⊎_elim
      (λ t. t)
      (λ t. absurd (omega (
        arith,
        t.better,
        r.value,
        sum-append s.gain r.path (e ∷ []),
        sum-append s.cost r.path (e ∷ []),
        zeros-at 64 r.start,
        short-told s j k (replicate 64 0) (omega (arith, length-replicate {A = ℕ} 64 0)) r.start t.path (s.graph.head e) t.walk (omega arith),
      )))
      (shorten s j (length es) r.start es (s.graph.head e) (omega arith) r.start-in w)

  pub unsettled-loses : 1 ≤ s.graph.nodes → s.graph.nodes ≤ 64 → (settled_of s).settled ≡ false → (es : List ℕ) × LosingWalk s es
  unfolding settled_of
  unsettled-loses one n q =
      let k : ℕ = s.graph.nodes - 1 in
      let is : s.graph.nodes ≡ suc k = omega arith in
      let z : raises s (after s k (replicate 64 0)) (every_edge s) ≡ true = unsettled-raises s k (replicate 64 0) (subst (λ (n : ℕ). (settle_from s n (replicate 64 0)).settled ≡ false) is q) in
      let f = raises-fails s (after s k (replicate 64 0)) z in
      fails-loses k is n f.0 f.1 f.2

  -- a system that has a solution settles
  pub solved-settles : 1 ≤ s.graph.nodes → s.graph.nodes ≤ 64 → (y : ℕ → ℕ) → Solves s y → (settled_of s).settled ≡ true
  solved-settles one n y m = go (settled_of s).settled refl
    where
      go : (b : Bool) → (settled_of s).settled ≡ b → (settled_of s).settled ≡ true
      go true q = q
      go false q = let t = unsettled-loses one n q in absurd (sound s y t.0 m t.1)

  pub values-reached : (settled_of s).settled ≡ true → (v : ℕ) → v < s.graph.nodes → Attained s v
  unfolding settled_of
  values-reached q v l =
      let r : Reached s (settled_of s).values v = settle-keeps s (λ z. (v : ℕ) → v < s.graph.nodes → Reached s z v) (round-reached s j) s.graph.nodes (replicate 64 0) zeros-reached v l in
      ⊎_elim
      (λ t. absurd (sound s (settled_at s) t.0 (settled-solves s q) t.1))
      (λ t. record {
        path = t.path;
        start = r.start;
        start-in = r.start-in;
        walk = t.walk;
        few = t.few;
        value = omega (arith, t.better, r.value, along s (settled_at s) (settled-solves s q) r.start t.path v t.walk);
      })
      (shorten s j (length r.path) r.start r.path v (omega arith) r.start-in r.walk)

  -- where no edge costs more than k, no value is above k for each node but one
  pub values-bound : (settled_of s).settled ≡ true → (k : ℕ) → ((e : ℕ) → e < s.graph.edges → s.cost e ≤ k) → (v : ℕ) → v < s.graph.nodes → settled_at s v ≤ (s.graph.nodes - 1) * k
  values-bound q k h v l =
      let t : Attained s v = values-reached q v l in
      let le : length t.path ≤ s.graph.nodes - 1 = omega arith in
      omega (arith, costs-le s k h t.start t.path v t.walk, mul-le-mul_right k le)
