-- The first late edge into a node, by the links between the edges into it.
-- Assumes nothing.
use Rattle.std.specs.Prelude.{◌≡◌, Bool, ◌&&◌, ◌||◌, not, List, ltb, get_or, Option, None, Some}
use Rattle.std.proofs.Math.Path.{refl}
use Rattle.std.proofs.Common.{◌∙◌, ap}
use Rattle.std.proofs.Math.Bool.{true, false}
use Prim.Native.Nat.{ℕ, zero, suc, ◌+◌, ◌-◌, ◌*◌, ◌≤◌, ◌<◌}
use native.Mathlib.Omega.{arith}
use borrow.Author.Tests.{eq-eqb}
use Rattle.std.proofs.Math.Dec.{eqb}
use Rattle.lists.specs.Pick.{pick}
use Rattle.lists.specs.First.{first_from, first_next, first-here, first-end}
use Rattle.links.specs.Chains.{first_with, has_key}
use Rattle.form.specs.declared.Operation.{Operation}
use Rattle.legal.specs.Loop.{Loop, Pair}
use Rattle.machine.specs.Run.{iteration, late, late_edge}
use Rattle.operands.specs.declared.Inputs.{Inputs}
use Rattle.operands.specs.Tables.{Tells, Follows}

-- what an edge from node u with d delays hands to iteration i is not there in run step t: not issued, or not finished
unfoldable pub missing : ℕ → List ℕ → ℕ → ℕ → ℕ → ℕ → Bool
missing nodes finish i t u d =
    not (ltb i d)
    && (eqb (get_or finish ((i - d) * nodes + u) 0) 0
    || ltb t (get_or finish ((i - d) * nodes + u) 0))

-- where only edges into v pass, the first that passes is the first from the first edge into v on
module _ (head : ℕ → ℕ) (v : ℕ) (test : ℕ → Bool) (into : (e : ℕ) → eqb (head e) v ≡ false → test e ≡ false) where
  into-first : (left e end : ℕ) → e + left ≡ end
      → first_from test (end - first_with head v left e) (first_with head v left e) ≡ first_from test left e
  unfolding first_from pick
  into-first zero e end h = let none : end - e ≡ 0 = omega arith in rw none
  into-first (suc left) e end h = go (eqb (head e) v) refl (into-first left (e + 1) end (omega arith))
    where
      go : (b : Bool) → eqb (head e) v ≡ b
          → first_from test (end - first_with head v left (e + 1)) (first_with head v left (e + 1)) ≡ first_from test left (e + 1)
          → first_from test (end - pick b e (first_with head v left (e + 1))) (pick b e (first_with head v left (e + 1))) ≡ pick (test e) e (first_from test left (e + 1))
      go true q more = let all : end - e ≡ suc left = omega arith in rw all
      go false q more = rw (into e q) more

module _ (g : Loop) (p : Pair) (starts : List ℕ) (k : ℕ) (finish : List ℕ) (t v : ℕ) where
  only-into : (e : ℕ) → eqb (g.graph.head e) v ≡ false → late g p starts k finish t v e ≡ false
  unfolding late
  only-into e q = rw q

  -- the walk has come to edge e, and the first late one from there on is the first of all
  pub record Seeking (e : ℕ) : Type 0 where
    pub into : e < g.graph.edges → g.graph.head e ≡ v
    pub rest : first_from (late g p starts k finish t v) (g.graph.edges - e) e ≡ late_edge g p starts k finish t v

  module _ (o : Operation) (first : ℕ) (next : List ℕ) (f : Follows g v o first next) where
    pub seeking-first : Seeking first
    unfolding late_edge
    seeking-first = record {
      into = λ l. rw f.is_first (has_key g.graph.head v g.graph.edges 0 (omega (arith, f.is_first)));
      rest = rw f.is_first (into-first g.graph.head v (late g p starts k finish t v) only-into g.graph.edges 0 g.graph.edges (omega arith));
    }

    -- an edge that is not late leads to the next
    pub seeking-next : (e : ℕ) → e < g.graph.edges → late g p starts k finish t v e ≡ false → Seeking e → Seeking (get_or next e 0)
    seeking-next e l no-late w =
        let left : ℕ = g.graph.edges - (e + 1) in
        let is : get_or next e 0 ≡ first_with g.graph.head v left (e + 1) = f.is_next e l ∙ ap (λ (u : ℕ). first_with g.graph.head u left (e + 1)) (w.into l) in
        record {
          into = λ m. rw is (has_key g.graph.head v left (e + 1) (omega (arith, is)));
          rest = rw is (into-first g.graph.head v (late g p starts k finish t v) only-into left (e + 1) g.graph.edges (omega arith))
              ∙ first_next (late g p starts k finish t v) g.graph.edges e (late_edge g p starts k finish t v) l no-late w.rest;
        }

  pub seeking-here : (e : ℕ) → e < g.graph.edges → late g p starts k finish t v e ≡ true → Seeking e → e ≡ late_edge g p starts k finish t v
  seeking-here e l is-late w = first-here (late g p starts k finish t v) g.graph.edges e (late_edge g p starts k finish t v) l is-late w.rest

  pub seeking-end : (e : ℕ) → g.graph.edges ≤ e → Seeking e → e ≡ late_edge g p starts k finish t v
  seeking-end e l w = first-end (late g p starts k finish t v) g.graph.edges e (late_edge g p starts k finish t v) l w.rest

  -- an edge into v in the tables' terms
  pub late-missing : (nodes edges : ℕ) (tails delays : List ℕ) (i e : ℕ) → Tells g nodes edges tails delays → iteration g p starts k t v ≡ i → e < edges → Seeking e
      → late g p starts k finish t v e ≡ missing nodes finish i t (get_or tails e 0) (get_or delays e 0)
  unfolding late missing
  late-missing nodes edges tails delays i e told is l w =
      rw (is, told.all-nodes, told.is_tail e l, told.is_delay e l, eq-eqb _ _ (w.into (omega (arith, told.all_edges))))

-- an edge of the table, or their number, that is the first late one for each node of each loop that the tables and the links tell
pub record FirstLate (first nodes edges i t : ℕ) (tails delays next finish : List ℕ) (e : ℕ) : Type 0 where
  pub is_first : (g : Loop) (p : Pair) (starts : List ℕ) (k v : ℕ) (o : Operation) → Tells g nodes edges tails delays → Follows g v o first next → iteration g p starts k t v ≡ i
      → e ≡ late_edge g p starts k finish t v

-- the first late one of the edges that are lent, if one is
abbrev pub LateIn : Inputs → ℕ → ℕ → ℕ → List ℕ → Option ℕ → Type 0
LateIn x first i t finish None = FirstLate first x.nodes x.edges i t x.from.now x.delays.now x.next.now finish x.edges
LateIn x first i t finish (Some e) = (e < x.edges) × FirstLate first x.nodes x.edges i t x.from.now x.delays.now x.next.now finish e
