-- Rows: for a target node and a number of edges, at each node the most that a walk of so many edges from there to the
-- target costs above what it gains, raised by a base. A value that starts elsewhere than at the target starts at 0,
-- and rises by at most 65535 with each edge: it stays below what the target's can fall to.
-- Assumes nothing.
use Rattle.std.specs.Prelude.{◌≡◌, refl, List, [], ◌∷◌, ℕ, ◌+◌, ◌-◌, ◌*◌, ◌≤◌, ◌<◌, max, length, get_or, set, replicate}
use Rattle.std.proofs.Common.{sym, ap, subst, ⊎_elim, get_or-set_same, arith, not-suc-le-zero}
use Rattle.std.proofs.lemmas.List.{length-replicate}
use Rattle.std.proofs.Math.Decide.{dec_le, dec_lt, ℕ_discrete}
use Rattle.lists.specs.Fold.{sum_of}
use Rattle.lists.specs.Place.{set_view, zeros-at}
use Rattle.system.specs.Graph.{Walk}
use Rattle.system.specs.System.{System, gains, costs}

-- more than twice what 64 edges can cost
abbrev pub base : ℕ
base = 8388608

-- above every value of a row
abbrev pub roof : ℕ
roof = 16777216

-- a walk of k edges from v to the target that is worth the value
pub record Worth (s : System) (target k v value : ℕ) : Type 0 where
  pub path : List ℕ
  pub walk : Walk s.graph v path target
  pub size : length path ≡ k
  pub enough : value + gains s path ≤ base + costs s path

-- the row of k edges
pub record Row (s : System) (target k : ℕ) (row : List ℕ) : Type 0 where
  pub over : (v : ℕ) (es : List ℕ) → Walk s.graph v es target → length es ≡ k → base + costs s es ≤ get_or row v 0 + gains s es
  pub worth : (v : ℕ) → 65535 * k < get_or row v 0 → Worth s target k v (get_or row v 0)
  pub cap : (v : ℕ) → get_or row v 0 ≤ base + 65535 * k

-- the edge e gives its tail at least the value
abbrev pub Gives : System → List ℕ → ℕ → ℕ → Type 0
Gives s row e value = value + s.gain e ≤ get_or row (s.graph.head e) 0 + s.cost e

-- where a value of the next row comes from
pub record From (s : System) (i : ℕ) (row next : List ℕ) (v : ℕ) : Type 0 where
  pub edge : ℕ
  pub looked : edge < i
  pub out : s.graph.tail edge ≡ v
  pub given : Gives s row edge (get_or next v 0)
  pub near : get_or next v 0 ≤ get_or row (s.graph.head edge) 0 + 65535

-- the next row, after the edges below i
pub record Carried (s : System) (i : ℕ) (row next : List ℕ) : Type 0 where
  pub meets : (e : ℕ) → e < i → get_or row (s.graph.head e) 0 + s.cost e ≤ get_or next (s.graph.tail e) 0 + s.gain e
  pub from : (v : ℕ) → 0 < get_or next v 0 → From s i row next v

pub carried_none : (s : System) (row : List ℕ) (n : ℕ) → Carried s 0 row (replicate n 0)
carried_none s row n = record {
  meets = λ e l. absurd (not-suc-le-zero l);
  from = λ v l. absurd (omega (arith, zeros-at n v));
}

-- one edge more
pub carried-more : (s : System) (i : ℕ) (row next : List ℕ) → s.graph.tail i < length next
    → get_or row (s.graph.head i) 0 + s.cost i - s.gain i ≤ get_or row (s.graph.head i) 0 + 65535
    → Carried s i row next
    → Carried s (i + 1) row (set next (s.graph.tail i) (max (get_or next (s.graph.tail i) 0) (get_or row (s.graph.head i) 0 + s.cost i - s.gain i)))
carried-more s i row next l near c =
    let t : ℕ = s.graph.tail i in
    let x : ℕ = get_or row (s.graph.head i) 0 + s.cost i - s.gain i in
    let y : ℕ = max (get_or next t 0) x in
    let new : List ℕ = set next t y in
    let grows : (v : ℕ) → get_or next v 0 ≤ get_or new v 0 =
    λ v. ⊎_elim (λ w. omega (arith, ap (λ j. get_or next j 0) w.0)) (λ w. omega arith) (set_view next t y v) in
    let own : get_or new t 0 ≡ y = get_or-set_same next t y 0 l in
    let kept : (v : ℕ) → get_or new v 0 ≡ get_or next v 0 → 0 < get_or new v 0 → From s (i + 1) row new v =
    λ v e q. let f = c.from v (omega arith) in record { edge = f.edge; looked = omega (arith, f.looked); out = f.out; given = omega (arith, f.given); near = omega (arith, f.near) } in
    record {
      meets = λ e q.
          elim (ℕ_discrete i e) [
            | yes h ↦ subst (λ j. get_or row (s.graph.head j) 0 + s.cost j ≤ get_or new (s.graph.tail j) 0 + s.gain j) h (omega arith)
            | no h ↦ omega (arith, c.meets e (omega arith), grows (s.graph.tail e))
          ];
      from = λ v q.
          ⊎_elim
          (λ w.
          elim (dec_le x (get_or next t 0)) [
            | yes h ↦ kept v (omega (arith, ap (λ j. get_or next j 0) w.0)) q
            | no h ↦ record { edge = i; looked = omega arith; out = sym w.0; given = omega arith; near = omega arith }
          ])
          (λ e. kept v e q)
          (set_view next t y v);
    }

-- the row of no edge
pub row-none : (s : System) (n target : ℕ) → target < n → Row s target 0 (set (replicate n 0) target base)
unfolding gains costs sum_of
row-none s n target l =
    let zeros : List ℕ = replicate n 0 in
    let view = set_view zeros target base in
    record {
      over = over;
      worth = λ v q. ⊎_elim (λ w. record { path = []; walk = w.0; size = refl; enough = omega arith }) (λ e. absurd (omega (arith, zeros-at n v))) (view v);
      cap = λ v. ⊎_elim (λ w. omega arith) (λ e. omega (arith, zeros-at n v)) (view v);
    }
  where
    over : (v : ℕ) (es : List ℕ) → Walk s.graph v es target → length es ≡ 0 → base + costs s es ≤ get_or (set (replicate n 0) target base) v 0 + gains s es
    over v [] w q = rw w (omega (arith, get_or-set_same (replicate n 0) target base 0 (omega (arith, length-replicate {A = ℕ} n 0))))
    over v (e ∷ es) w q = omega arith

-- the row of one edge more
pub row_more : (s : System) (target k : ℕ) (row next : List ℕ) → Row s target k row → Carried s s.graph.edges row next → Row s target (k + 1) next
unfolding gains costs sum_of
row_more s target k row next r c = record {
  over = over;
  worth = λ v q.
      let f = c.from v (omega arith) in
      let p = r.worth (s.graph.head f.edge) (omega (arith, f.given, f.near)) in
      record {
        path = f.edge ∷ p.path;
        walk = (f.looked, f.out, p.walk);
        size = omega (arith, p.size);
        enough = omega (arith, p.enough, f.given);
      };
  cap = λ v.
      elim (dec_lt 0 (get_or next v 0)) [
        | yes h ↦ let f = c.from v h in omega (arith, f.given, f.near, r.cap (s.graph.head f.edge))
        | no h ↦ omega arith
      ];
}
  where
    over : (v : ℕ) (es : List ℕ) → Walk s.graph v es target → length es ≡ k + 1 → base + costs s es ≤ get_or next v 0 + gains s es
    over v [] w q = omega arith
    over v (e ∷ es) w q =
        omega (
          arith,
          r.over (s.graph.head e) es w.2 (omega arith),
          c.meets e w.0,
          ap (λ u. get_or next u 0) w.1,
        )
