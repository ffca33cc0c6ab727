-- What solving the tables of a loop's limits tells of its starts: a retiming that fits, or a cycle that no retiming can pass.
-- Assumes nothing.
use mathlib.Core.Path.{◌≡◌, refl, sym, ap, ◌∙◌}
use mathlib.Core.Bool.{true, false, true≢false}
use mathlib.Core.List.{List}
use Prim.Native.Nat.{ℕ, ◌-◌, ◌≤◌, ◌<◌}
use native.Mathlib.Omega.{arith}
use lib.ListN.{get_or, take, replicate}
use lib.Seq.{get_or-take}
use Rattle.lists.specs.Filled.{filled}
use Rattle.lists.specs.Fold.{top, top-over}
use Rattle.system.specs.Outcome.{Settled}
use Rattle.system.specs.Graph.{Joined}
use Rattle.system.specs.System.{System, system_of}
use Rattle.system.specs.Rounds.{settled_of}
use Rattle.system.specs.Same.{Same, same-settled, same-losing}
use Rattle.system.specs.Turned.{top_of, turned_at}
use Rattle.solve.specs.Outcome.{Solution}
use Rattle.solve.specs.Solved.{Solved}
use Rattle.legal.specs.Loop.{Loop, Pair}
use Rattle.legal.specs.Systems.{limits}
use Rattle.legal.specs.Fitted.{losing-impossible, depth-bound}
use Rattle.fit.specs.Tables.{Described, turned_over}
use Rattle.fit.specs.Retimed.{retimings, StartsFitted}

-- each of the first values is at most their top
pub under_top : (ys : List ℕ) (n h : ℕ) → h ≡ top (take n ys) → (v : ℕ) → v < n → get_or ys v 0 ≤ h
under_top ys n h e v l = omega (arith, top-over (take n ys) v, get_or-take n ys v 0 l)

module _ (g : Loop) (p : Pair) (n m : ℕ) (ts hs gs cs : List ℕ) (d : Described g p n m ts hs gs cs) where
  abbrev held : System
  held = system_of n m ts hs gs cs

  -- every edge of the tables joins nodes of the loop
  pub tables-joined : Joined held.graph
  unfolding system_of
  tables-joined =
      let told = d.told in
      record {
        tails = λ e l. omega (arith, d.sound.joined.tails e (omega (arith, told.all_edges)), told.is_tail e l, told.all-nodes);
        heads = λ e l. omega (arith, d.sound.joined.heads e (omega (arith, told.all_edges)), told.is_head e l, told.all-nodes);
      }

  pub tables-bounds : (1 ≤ n) × (n ≤ 64) × (m ≤ 256)
  tables-bounds =
      let sound = d.sound in
      let told = d.told in
      (omega (arith, sound.some, told.all-nodes), omega (arith, sound.few, told.all-nodes), omega (arith, sound.edges, told.all_edges))

  -- they are the limits of the starts
  held_same : Same held (limits g p)
  unfolding system_of limits
  held_same = record {
    nodes = sym d.told.all-nodes;
    edges = sym d.told.all_edges;
    tail = λ e l. sym (d.told.is_tail e l);
    head = λ e l. sym (d.told.is_head e l);
    gain = λ e l. sym (d.told.is_delay e l);
    cost = d.late;
  }

  module _ (r : Solution) (s : Solved held r) where
    settles : r.settled ≡ (settled_of (limits g p)).settled
    settles = s.settled ∙ ap (λ (x : Settled). x.settled) (same-settled held _ held_same)

    valued : r.values ≡ (settled_of (limits g p)).values
    valued = s.values ∙ ap (λ (x : Settled). x.values) (same-settled held _ held_same)

    topped : top (take n r.values) ≡ top_of (limits g p)
    unfolding top_of limits
    topped = ap (λ (ys : List ℕ). top (take n ys)) valued ∙ ap (λ (k : ℕ). top (take k (settled_of (limits g p)).values)) (sym d.told.all-nodes)

    -- the top fits a byte
    pub tables-top : r.settled ≡ true → (h : ℕ) → h ≡ top (take n r.values) → h ≤ 63
    tables-top b h e = omega (arith, topped, depth-bound g p d.sound (sym settles ∙ b) 1 d.within)

    turns : (h : ℕ) → h ≡ top (take n r.values) → turned_over h r.values n ≡ retimings g p
    unfolding turned_over retimings turned_at
    turns h e =
        rw (e, topped, valued)
        (ap (λ (k : ℕ). filled 64 (λ v. top_of (limits g p) - get_or (settled_of (limits g p)).values v 0) k) (sym d.told.all-nodes))

    -- a settled system turned over is the retiming that fits
    pub tables-fit : r.settled ≡ true → (h : ℕ) → h ≡ top (take n r.values) → (rs : List ℕ) → rs ≡ turned_over h r.values n
        → StartsFitted g p (record { fits = true; retiming = rs; cycle = r.cycle })
    tables-fit b h e rs is = record {
      fits = sym b ∙ settles;
      retiming = λ q. is ∙ turns h e;
      none = λ q. s.none b;
      zeros = λ q. absurd (true≢false q);
      impossible = λ q. absurd (true≢false q);
      tallies = s.tallies;
    }

    -- and one that is not has a cycle that no retiming can pass
    pub tables-unfit : r.settled ≡ false → StartsFitted g p (record { fits = false; retiming = replicate 64 0; cycle = r.cycle })
    tables-unfit b = record {
      fits = sym b ∙ settles;
      retiming = λ q. absurd (true≢false (sym q));
      none = λ q. absurd (true≢false (sym q));
      zeros = λ q. refl;
      impossible = λ q. losing-impossible g p _ (same-losing held _ held_same _ (s.shortest b).losing);
      tallies = s.tallies;
    }
