-- The edges that share a key as chains: the first with a key, and after an edge the next with the same key. No edge with the key lies between.
-- Assumes nothing.
use Rattle.std.specs.Prelude.{◌≡◌, List, ℕ, ◌+◌, ◌-◌, ◌≤◌, ◌<◌, eqb, length, get_or}
use Rattle.std.proofs.Common.{sym, ◌∙◌, arith, ext_get_or, eqb-true, eq-eqb}
use Rattle.std.proofs.Math.Decide.{dec_lt}
use Rattle.lists.specs.Pick.{both_ways}
use Rattle.lists.specs.First.{first_from, first-is}

-- of so many edges from e on the first whose key is k; the number past them where there is none
abbrev pub first_with : (ℕ → ℕ) → ℕ → ℕ → ℕ → ℕ
first_with key k left e = first_from (λ x. eqb (key x) k) left e

pub record Chains (key : ℕ → ℕ) (edges : ℕ) (first next : List ℕ) : Type 0 where
  pub first-with : (k : ℕ) → k < 64 → get_or first k 0 ≡ first_with key k edges 0
  pub next_with : (e : ℕ) → e < edges → get_or next e 0 ≡ first_with key (key e) (edges - (e + 1)) (e + 1)

-- both tables whole: chains of the edges, and the number of edges at the places past them
pub record Linked (key : ℕ → ℕ) (edges : ℕ) (first next : List ℕ) : Type 0 where
  pub chains : Chains key edges first next
  pub first_places : length first ≡ 64
  pub next_places : length next ≡ 256
  pub past : (e : ℕ) → edges ≤ e → e < 256 → get_or next e 0 ≡ edges

-- there is one such pair of tables
pub linked-once : (key : ℕ → ℕ) (edges : ℕ) (first next first' next' : List ℕ) → Linked key edges first next → Linked key edges first' next'
    → (first ≡ first') × (next ≡ next')
linked-once key edges first next first' next' a b = (
  ext_get_or 0 first first' (a.first_places ∙ sym b.first_places) (λ k l. firsts k (omega (arith, a.first_places))),
  ext_get_or 0 next next' (a.next_places ∙ sym b.next_places) (λ e l. nexts e (omega (arith, a.next_places))),
)
  where
    firsts : (k : ℕ) → k < 64 → get_or first k 0 ≡ get_or first' k 0
    firsts k l = a.chains.first-with k l ∙ sym (b.chains.first-with k l)

    nexts : (e : ℕ) → e < 256 → get_or next e 0 ≡ get_or next' e 0
    nexts e l = elim (dec_lt e edges) [
      | yes h ↦ a.chains.next_with e h ∙ sym (b.chains.next_with e h)
      | no h ↦ a.past e (omega arith) l ∙ sym (b.past e (omega arith) l)
    ]

-- the first edge with key k, where there is one, has it
pub has_key : (key : ℕ → ℕ) (k left e : ℕ) → first_with key k left e < e + left → key (first_with key k left e) ≡ k
has_key key k left e l = eqb-true _ _ ((first-is (λ x. eqb (key x) k) left e).passes l)

module _ (key : ℕ → ℕ) (edges : ℕ) (first next : List ℕ) (c : Chains key edges first next) where
  -- a chain leads on, and ends with the edges
  pub leads-on : (e : ℕ) → e < edges → e < get_or next e 0
  leads-on e l = omega (arith, c.next_with e l, (first-is (λ x. eqb (key x) (key e)) (edges - (e + 1)) (e + 1)).from)

  pub leads-in : (e : ℕ) → e < edges → get_or next e 0 ≤ edges
  leads-in e l = omega (arith, c.next_with e l, (first-is (λ x. eqb (key x) (key e)) (edges - (e + 1)) (e + 1)).to)

  pub begins-in : (k : ℕ) → k < 64 → get_or first k 0 ≤ edges
  begins-in k l = omega (arith, c.first-with k l, (first-is (λ x. eqb (key x) k) edges 0).to)

  -- no edge with the key lies before the first, nor between an edge and the next
  pub none_before : (k d : ℕ) → k < 64 → key d ≡ k → get_or first k 0 ≤ d
  none_before k d l same = elim (dec_lt d (get_or first k 0)) [
    | yes h ↦ both_ways (eq-eqb (key d) k same) ((first-is (λ x. eqb (key x) k) edges 0).before d (omega arith) (omega (arith, c.first-with k l)))
    | no h ↦ omega arith
  ]

  pub none_between : (e d : ℕ) → e < edges → key d ≡ key e → e < d → get_or next e 0 ≤ d
  none_between e d l same m = elim (dec_lt d (get_or next e 0)) [
    | yes h ↦ both_ways (eq-eqb (key d) (key e) same)
        ((first-is (λ x. eqb (key x) (key e)) (edges - (e + 1)) (e + 1)).before d (omega arith) (omega (arith, c.next_with e l)))
    | no h ↦ omega arith
  ]

  -- both have the key
  pub first_key : (k : ℕ) → k < 64 → get_or first k 0 < edges → key (get_or first k 0) ≡ k
  first_key k l m = rw (c.first-with k l) (has_key key k edges 0 (omega (arith, c.first-with k l)))

  pub next-key : (e : ℕ) → e < edges → get_or next e 0 < edges → key (get_or next e 0) ≡ key e
  next-key e l m = rw (c.next_with e l) (has_key key (key e) (edges - (e + 1)) (e + 1) (omega (arith, c.next_with e l)))
