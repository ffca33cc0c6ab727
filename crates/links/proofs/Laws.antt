-- Chains of the edges from some edge on.
-- Assumes nothing.
use mathlib.Core.Path.{◌≡◌, refl, sym, ◌∙◌}
use mathlib.Core.Logic.{◌⊎◌, inl, inr}
use mathlib.Core.List.{List}
use Prim.Native.Nat.{ℕ, suc, ◌+◌, ◌-◌, ◌≤◌, ◌<◌}
use native.Mathlib.Omega.{arith}
use native.Mathlib.Decide.{ℕ_discrete}
use native.Mathlib.Nat.{eq-or-lt_of_le}
use lib.Dec.{eqb}
use lib.ListN.{length, get_or, set, replicate, length-set}
use lib.Seq.{get_or-set_same, get_or-set_other}
use Rattle.std.proofs.lemmas.List.{get_or-replicate}
use borrow.Author.Tests.{eq-eqb, ne_eqb}
use Rattle.lists.specs.Pick.{pick}
use Rattle.lists.specs.First.{first_from}
use Rattle.links.specs.Chains.{first_with}

-- the edges from e on are linked
pub record LinkedFrom (key : ℕ → ℕ) (edges e : ℕ) (first next : List ℕ) : Type 0 where
  pub first_long : length first ≡ 64
  pub next_long : length next ≡ 256
  pub firsts : (k : ℕ) → k < 64 → get_or first k 0 ≡ first_with key k (edges - e) e
  pub nexts : (d : ℕ) → e ≤ d → d < edges → get_or next d 0 ≡ first_with key (key d) (edges - (d + 1)) (d + 1)
  pub past : (d : ℕ) → edges ≤ d → d < 256 → get_or next d 0 ≡ edges

module _ (key : ℕ → ℕ) (edges : ℕ) where
  -- before any edge is linked the number of edges stands at each place
  pub linked-none : LinkedFrom key edges edges (replicate 64 edges) (replicate 256 edges)
  unfolding first_from
  linked-none =
      let none : edges - edges ≡ 0 = omega arith in
      record {
        first_long = refl;
        next_long = refl;
        firsts = λ k l. rw none (get_or-replicate 64 k edges 0 l);
        nexts = λ d l m. absurd (omega arith);
        past = λ d l m. get_or-replicate 256 d edges 0 m;
      }

  -- one edge more is the first with its key, and leads to the one that was first
  pub linked-more : (e : ℕ) (first next : List ℕ) → e < edges → edges ≤ 256 → key e < 64 → LinkedFrom key edges (e + 1) first next
      → LinkedFrom key edges e (set first (key e) e) (set next e (get_or first (key e) 0))
  unfolding first_from pick
  linked-more e first next l few small c = record {
    first_long = length-set first (key e) e ∙ c.first_long;
    next_long = length-set next e (get_or first (key e) 0) ∙ c.next_long;
    firsts = λ k m. rw all (at k m (ℕ_discrete k (key e)));
    nexts = λ d a b. at-or-past d a b (eq-or-lt_of_le a);
    past = λ d a b. get_or-set_other next e d (get_or first (key e) 0) 0 (omega arith) ∙ c.past d a b;
  }
    where
      all : edges - e ≡ suc (edges - (e + 1))
      all = omega arith

      at : (k : ℕ) → k < 64 → Dec (k ≡ key e) → get_or (set first (key e) e) k 0 ≡ pick (eqb (key e) k) e (first_with key k (edges - (e + 1)) (e + 1))
      at k m (yes q) =
          rw (q, eq-eqb (key e) (key e) refl) (get_or-set_same first (key e) e 0 (omega (arith, c.first_long)))
      at k m (no q) =
          rw (ne_eqb (key e) k (λ z. q (sym z))) (get_or-set_other first (key e) k e 0 q ∙ c.firsts k m)

      at-or-past : (d : ℕ) → e ≤ d → d < edges → (e ≡ d) ⊎ (e < d) → get_or (set next e (get_or first (key e) 0)) d 0 ≡ first_with key (key d) (edges - (d + 1)) (d + 1)
      at-or-past d a b (inl q) =
          rw (← q) (get_or-set_same next e (get_or first (key e) 0) 0 (omega (arith, c.next_long)) ∙ c.firsts (key e) small)
      at-or-past d a b (inr q) = get_or-set_other next e d (get_or first (key e) 0) 0 (omega arith) ∙ c.nexts d (omega arith) b
