-- A difference, places among the values, and a walk over links that has come to an edge.
-- Assumes nothing.
use Rattle.std.specs.Prelude.{Option, Some}
use mathlib.Core.Path.{◌≡◌, sym, ◌∙◌, ap, subst}
use mathlib.Core.List.{List, ◌∷◌, map}
use Prim.Native.Nat.{ℕ, ◌+◌, ◌-◌, ◌*◌, ◌%◌, ◌≤◌, ◌<◌}
use native.Mathlib.Omega.{arith}
use native.Mathlib.Nat.{mul-le-mul_right}
use lib.ListN.{get_or}
use borrow.Author.Tests.{eq-eqb}
use Rattle.links.specs.Chains.{first_with, has_key}
use Rattle.form.specs.declared.Operation.{Operation}
use Rattle.legal.specs.Loop.{Loop}
use Rattle.machine.specs.Values.{word, minus, Reader, edges_into, operand_by, computed_by, buffer, operand}
use Rattle.operands.specs.Into.{into-first, into-here}
use Rattle.operands.specs.Combined.{opening, combined, closing, finished, finished-applied}
use Rattle.operands.specs.Tables.{handed, Tells, Follows}

-- a difference of words as the code takes it
pub minus-is : (a b : ℕ) → b < 4294967296 → (a + (4294967296 - b)) % 4294967296 ≡ minus a b
unfolding minus
minus-is a b l = let small : word b ≡ b = omega arith in rw small

-- ---- one operand

-- a place among the values is a small number
pub place-small : (i nodes u : ℕ) → i < 4294967296 → nodes < 256 → u < 256 → i * nodes + u < 2199023255552
place-small i nodes u a b c = omega (arith, mul-le-mul_right {m = i} {n = 4294967295} nodes (omega arith))

pub back-small : (i d nodes u : ℕ) → i < 4294967296 → nodes < 256 → u < 256 → (i - d) * nodes + u < 2199023255552
back-small i d nodes u a b c = place-small (i - d) nodes u (omega arith) b c

-- and lies among them
pub back_in : (i d nodes u total : ℕ) → u < nodes → i * nodes + nodes ≤ total → (i - d) * nodes + u < total
back_in i d nodes u total l h = omega (arith, mul-le-mul_right {m = i - d} {n = i} nodes (omega arith))

-- ---- a walk over the links

module _ (g : Loop) (v : ℕ) (o : Operation) (starts : List ℕ) (read : Reader) (i : ℕ) where
  abbrev operands_of : List ℕ → List ℕ
  operands_of es = map (operand_by g starts read i) es

  -- the walk has come to edge e, and the operands from there on finish the whole
  pub record Walking (e : ℕ) (total : Option ℕ) : Type 0 where
    pub into : e < g.graph.edges → g.graph.head e ≡ v
    pub whole : finished o total (operands_of (edges_into g v (g.graph.edges - e) e)) ≡ computed_by g starts read i v

  module _ (first : ℕ) (next : List ℕ) (f : Follows g v o first next) where
    pub walking-first : Walking first (opening o)
    unfolding computed_by
    walking-first = record {
      into = λ l. rw f.is_first (has_key g.graph.head v g.graph.edges 0 (omega (arith, f.is_first)));
      whole =
          rw (f.is_first, f.is_operation) (
          ap (λ es. finished o (opening o) (operands_of es)) (sym (into-first g v g.graph.edges 0 g.graph.edges (omega arith)))
          ∙ finished-applied o (operands_of (edges_into g v g.graph.edges 0)));
    }

    -- one operand more
    pub walking-next : (e : ℕ) (total : Option ℕ) → e < g.graph.edges → Walking e total
        → Walking (get_or next e 0) (Some (combined o total (operand_by g starts read i e)))
    unfolding finished
    walking-next e total l w =
        let left = g.graph.edges - (e + 1) in
        let here : g.graph.head e ≡ v = w.into l in
        let is : get_or next e 0 ≡ first_with g.graph.head v left (e + 1) = f.is_next e l ∙ ap (λ u. first_with g.graph.head u left (e + 1)) here in
        let now : edges_into g v (g.graph.edges - e) e ≡ e ∷ edges_into g v (g.graph.edges - get_or next e 0) (get_or next e 0) =
        into-here g v g.graph.edges e l (eq-eqb _ _ here)
        ∙ ap (λ es. e ∷ es) (into-first g v left (e + 1) g.graph.edges (omega arith) ∙ ap (λ x. edges_into g v (g.graph.edges - x) x) (sym is)) in
        record {
          into = λ m. rw is (has_key g.graph.head v left (e + 1) (omega (arith, is)));
          whole = rw now at w.whole;
        }

    -- no edge is left
    pub walking-end : (e : ℕ) (total : Option ℕ) → e ≡ g.graph.edges → Walking e total → closing o total ≡ computed_by g starts read i v
    unfolding edges_into finished
    walking-end e total q w =
        let none : g.graph.edges - e ≡ 0 = omega arith in
        rw none at w.whole

-- what an edge hands over, by tables that tell it
handed-operand : (g : Loop) (nodes edges : ℕ) (tails delays starts values : List ℕ) (i e : ℕ) → Tells g nodes edges tails delays → e < edges
    → handed nodes starts values i (get_or tails e 0) (get_or delays e 0) ≡ operand g starts values i e
unfolding handed operand_by
handed-operand g nodes edges tails delays starts values i e t l = rw (t.all-nodes, t.is_tail e l, t.is_delay e l)

-- the walk goes on with the total that the tables give
pub walking_on : (g : Loop) (v : ℕ) (o : Operation) (starts values : List ℕ) (i : ℕ) (first : ℕ) (next : List ℕ) → Follows g v o first next
    → (nodes edges : ℕ) (tails delays : List ℕ) → Tells g nodes edges tails delays → (e : ℕ) (total : Option ℕ) → e < edges → Walking g v o starts (buffer g starts values) i e total
    → (x : ℕ) → x ≡ handed nodes starts values i (get_or tails e 0) (get_or delays e 0) → (after : ℕ) → after ≡ combined o total x
    → Walking g v o starts (buffer g starts values) i (get_or next e 0) (Some after)
walking_on g v o starts values i first next f nodes edges tails delays t e total l w x is after so =
    subst (λ (y : ℕ). Walking g v o starts (buffer g starts values) i (get_or next e 0) (Some y))
    (sym (so ∙ ap (combined o total) (is ∙ handed-operand g nodes edges tails delays starts values i e t l)))
    (walking-next g v o starts (buffer g starts values) i first next f e total (omega (arith, t.all_edges)) w)
