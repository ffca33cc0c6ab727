-- What the proofs of the knots share: the system that the tables hold, and its two answers.
-- Assumes nothing.
use mathlib.Core.Path.{◌≡◌, refl, sym, ap, ◌∙◌}
use mathlib.Core.Bool.{Bool, true, false, not}
use mathlib.Core.List.{List}
use Prim.Native.Nat.{ℕ, zero, suc, ◌*◌, ◌<◌}
use native.Mathlib.Omega.{arith}
use lib.ListN.{get_or, replicate}
use borrow.Author.Tests.{not-false}
use Rattle.answer.specs.declared.Cycle.{Cycle}
use Rattle.system.specs.Graph.{Joined}
use Rattle.system.specs.System.{System, system_of}
use Rattle.system.specs.Same.{Same, same-settled, same-losing}
use Rattle.system.specs.Rounds.{settled_of}
use Rattle.system.specs.Laws.{settled-solves}
use Rattle.system.specs.Outcome.{Settled}
use Rattle.solve.specs.Solved.{Solved}
use Rattle.solve.specs.Outcome.{Solution}
use Rattle.legal.specs.Loop.{Loop}
use Rattle.legal.specs.Systems.{knots, knotted}
use Rattle.legal.specs.Knots.{losing-knot}
use Rattle.tables.specs.Edges.{Ends, Told}
use Rattle.knots.specs.Found.{KnotFound, RanksFound}

-- a table of ones
ones-at : (n e : ℕ) → e < n → ◌≡◌ {A = ℕ} (get_or (replicate n 1) e 0) 1
ones-at zero e l = absurd (omega arith)
ones-at (suc n) zero l = refl
ones-at (suc n) (suc e) l = ones-at n e (omega arith)

module _ (nodes edges : ℕ) (from to delays : List ℕ) (ends : Ends nodes edges from to) where
  pub ends-joined : (gs cs : List ℕ) → Joined (system_of nodes edges from to gs cs).graph
  unfolding system_of
  ends-joined gs cs = record { tails = ends.tail-in; heads = ends.head_in }

  module _ (gs : List ℕ) (gained : (e : ℕ) → e < edges → get_or gs e 0 ≡ 64 * get_or delays e 0) (g : Loop) (told : Told g nodes edges from to delays) where
    -- the system that the tables hold, in which each edge costs 1
    abbrev priced : System
    priced = system_of nodes edges from to gs (replicate 256 1)

    -- that is the loop's system of knots
    held-knots : Same priced (knots g)
    unfolding system_of knots
    held-knots = record {
      nodes = sym told.all-nodes;
      edges = sym told.all_edges;
      tail = λ e l. sym (told.is_tail e l);
      head = λ e l. sym (told.is_head e l);
      gain = λ e l. gained e l ∙ ap (λ (d : ℕ). 64 * d) (sym (told.is_delay e l));
      cost = λ e l. ones-at 256 e (omega (arith, ends.few));
    }

    told-joined : Joined g.graph
    told-joined = record {
      tails = λ e l. let m : e < edges = omega (arith, told.all_edges) in omega (arith, told.is_tail e m, told.all-nodes, ends.tail-in e m);
      heads = λ e l. let m : e < edges = omega (arith, told.all_edges) in omega (arith, told.is_head e m, told.all-nodes, ends.head_in e m);
    }

    -- its answer is a knot, or that there is none
    knot-found : (r : Solution) → Solved priced r → KnotFound g r.cycle
    unfolding knotted system_of
    knot-found r t = go r.settled refl
      where
        unknotted : (b : Bool) → r.settled ≡ b → knotted g ≡ not b
        unknotted b e = ap not (ap (λ (x : Settled). x.settled) (sym (same-settled priced (knots g) held-knots)) ∙ sym t.settled ∙ e)

        go : (b : Bool) → r.settled ≡ b → KnotFound g r.cycle
        go true e = record {
          free = λ z. unknotted true e;
          none = λ z. t.none e;
          tied = λ p. absurd (omega (arith, p, ap (λ (c : Cycle). c.count) (t.none e)));
          knot = λ p. absurd (omega (arith, p, ap (λ (c : Cycle). c.count) (t.none e)));
          tallies = t.tallies;
        }
        go false e = record {
          free = λ z. absurd (omega (arith, z, t.some e));
          none = λ z. absurd (omega (arith, z, t.some e));
          tied = λ p. unknotted false e;
          knot = λ p. losing-knot g told-joined (omega (arith, told.all-nodes, ends.most)) _ (same-losing priced (knots g) held-knots _ (t.shortest e).losing);
          tallies = t.tallies;
        }

    -- its values are those of the system of knots, and where there is no knot they rise along every edge of delay 0
    pub ranks-found : (r : Solution) → Solved priced r → RanksFound g (record { cycle = r.cycle; rank = r.values })
    unfolding knotted knots
    ranks-found r t =
        let f = knot-found r t in
        let same : r.values ≡ (settled_of (knots g)).values = t.values ∙ ap (λ (x : Settled). x.values) (same-settled priced (knots g) held-knots) in
        record {
          found = f;
          ranks = same;
          rises = λ z e l d. rw same (omega (arith, settled-solves (knots g) (not-false _ (f.free z)) e l, d));
        }
