-- What the proofs of the floor share: tables that are counted and compared one place more, and the system that they hold.
-- Assumes nothing.
use Rattle.std.specs.Prelude.{Result, Ok, Err, is_ok}
use mathlib.Core.Path.{◌≡◌, refl, sym, ap, ◌∙◌}
use mathlib.Core.Bool.{false}
use mathlib.Core.List.{List}
use Prim.Native.Nat.{ℕ, ◌+◌, ◌-◌, ◌*◌, ◌/◌, ◌≤◌, ◌<◌}
use native.Mathlib.Nat.{mul-le-mul, zero-add, not-suc-le-zero}
use native.Mathlib.Numerals.{add-one}
use native.Mathlib.Omega.{arith}
use lib.Dec.{eqb}
use lib.ListN.{get_or}
use borrow.Author.Tests.{eq-eqb, ne_eqb}
use Rattle.lists.specs.Pick.{pick, pick_true, pick-false}
use Rattle.lists.specs.Span.{span}
use Rattle.lists.specs.Fold.{count, count-snoc}
use Rattle.lists.specs.Count.{count_same}
use Rattle.lists.specs.Sums.{top-none, top-last, top-each}
use Rattle.answer.specs.Outcome.{edges_of}
use Rattle.answer.specs.Tally.{Tallies}
use Rattle.form.specs.declared.Edges.{Edges}
use Rattle.form.specs.declared.Form.{Form}
use Rattle.form.specs.declared.Class.{Class}
use Rattle.form.specs.Places.{no_class}
use Rattle.system.specs.Outcome.{Settled, settled_in}
use Rattle.system.specs.Graph.{Joined}
use Rattle.system.specs.System.{System, Losing, system_of}
use Rattle.system.specs.Rounds.{settled_of}
use Rattle.system.specs.Same.{Same, same-settled, same-losing}
use Rattle.solve.specs.Outcome.{Solution}
use Rattle.solve.specs.Solved.{Solved}
use Rattle.form.specs.Hold.{hold}
use Rattle.legal.specs.Loop.{Loop, Pair, graph_of, loop_of, ran_on}
use Rattle.legal.specs.Systems.{knotted, paces}
use Rattle.legal.specs.Shape.{sound-form}
use Rattle.tables.specs.declared.Timetable.{Timetable}
use Rattle.tables.specs.Edges.{ToldBy}
use Rattle.tables.specs.Times.{Timed}
use Rattle.tables.specs.Lent.{LentBy, lent-ends}
use Rattle.floor.specs.Parts.{nodes_on, units_part}
use Rattle.floor.specs.Least.{enough}
use Rattle.floor.specs.Tables.{how_many, Edged, Costed, EdgedIn, PacedBy, held_in, Busy}

-- a product, which omega takes as an unknown
pub product : (a b m n : ℕ) → a ≤ m → b ≤ n → a * b ≤ m * n
product a b m n h k = mul-le-mul h k

-- how long each kind of class is held
pub hold-plain : (k : Class) → k.pipelined ≡ 0 → hold k ≡ k.latency
unfolding hold
hold-plain k z = pick_true _ _ _ (eq-eqb _ _ z)

pub hold-piped : (k : Class) → (k.pipelined ≡ 0 → ⊥) → hold k ≡ 1
unfolding hold
hold-piped k n = pick-false _ _ _ (ne_eqb _ _ n)

-- ---- tables of numbers

module _ (xs : List ℕ) (x : ℕ) where
  pub many-none : how_many xs x 0 ≡ 0
  unfolding how_many count span
  many-none = refl

  pub many-here : (v : ℕ) → get_or xs v 0 ≡ x → how_many xs x (v + 1) ≡ how_many xs x v + 1
  unfolding how_many pick
  many-here v e = rw (add-one v, count-snoc, zero-add, eq-eqb (get_or xs v 0) x e)

  pub many-past : (v : ℕ) → (get_or xs v 0 ≡ x → ⊥) → how_many xs x (v + 1) ≡ how_many xs x v
  unfolding how_many pick
  many-past v n = rw (add-one, count-snoc, zero-add, ne_eqb (get_or xs v 0) x n) (omega arith)

-- ---- the classes

module _ (g : Loop) where
  pub busy-none : Busy g 0 0 0
  busy-none = record {
    most = sym (top-none (units_part g) 0);
    here = λ l. absurd (not-suc-le-zero l);
    before = λ d l. absurd (not-suc-le-zero l);
  }

  module _ (c part class part' : ℕ) (is : part' ≡ units_part g c) (b : Busy g c part class) where
    -- one class more is busier
    pub busy-here : part < part' → Busy g (c + 1) part' c
    busy-here l = record {
      most = rw add-one (omega (arith, top-last (units_part g) c, b.most));
      here = λ _. (omega arith, sym is);
      before = λ d m. omega (arith, top-each (units_part g) c d m, b.most);
    }

    -- or it is not
    pub busy-past : part' ≤ part → Busy g (c + 1) part class
    busy-past l = record {
      most = rw add-one (omega (arith, top-last (units_part g) c, b.most));
      here = λ p. (omega (arith, (b.here p).0), (b.here p).1);
      before = b.before;
    }

  -- what the code works out of class c is its part
  pub part-is : (p : Pair) (t : Timetable) → Timed g p t → (c on part' : ℕ) → on ≡ how_many t.runs c t.nodes
      → part' ≡ (on * hold (get_or t.class c no_class) + ((get_or t.class c no_class).units - 1)) / (get_or t.class c no_class).units → part' ≡ units_part g c
  unfolding units_part nodes_on how_many
  part-is p t timed c on part' counted is =
      let same : on ≡ nodes_on g c =
      counted ∙ count_same (λ v. eqb (get_or t.runs v 0) c) (λ v. eqb (ran_on g v) c) t.nodes (λ v l. ap (λ (k : ℕ). eqb k c) (sym (timed.runs_on v l)))
      ∙ ap (λ (n : ℕ). count (λ v. eqb (ran_on g v) c) (span 0 n)) (sym timed.all-nodes) in
      is ∙ rw (same, timed.is_class c)

-- ---- the system of a length

pub edged-bounds : (n m : ℕ) (from to delays : List ℕ) → Edged n m from to delays → (1 ≤ n) × (n ≤ 64) × (m ≤ 256)
edged-bounds n m from to delays edged = (edged.ends.some, edged.ends.most, edged.ends.few)

module _ (n : ℕ) (e : Edges) (edged : EdgedIn n e) (gs cs : List ℕ) (s : System) (is : s ≡ held_in n e gs cs) where
  pub held-joined : Joined s.graph
  unfolding system_of
  held-joined = rw is (record { tails = edged.ends.tail-in; heads = edged.ends.head_in })

  module _ (l : ℕ) (gained : (i : ℕ) → i < e.count → get_or gs i 0 ≡ l * get_or e.delays.now i 0) (g : Loop) (told : ToldBy g n e) (costed : Costed g e.count cs) where
    -- it is the system of the length
    held-paces : Same s (paces g l)
    unfolding system_of paces
    held-paces = rw is (record {
      nodes = sym told.all-nodes;
      edges = sym told.all_edges;
      tail = λ i h. sym (told.is_tail i h);
      head = λ i h. sym (told.is_head i h);
      gain = λ i h. gained i h ∙ ap (λ (d : ℕ). l * d) (sym (told.is_delay i h));
      cost = costed;
    })

    settled-alike : (settled_of s).settled ≡ enough g l
    unfolding enough
    settled-alike = ap (λ (x : Settled). x.settled) (same-settled s (paces g l) held-paces)

    -- settled, the length is enough
    pub held-enough : (r : Result (List ℕ) (List ℕ)) → settled_in r ≡ settled_of s → is_ok r ≡ enough g l
    held-enough (Ok values) is = ap (λ (x : Settled). x.settled) is ∙ settled-alike
    held-enough (Err values) is = ap (λ (x : Settled). x.settled) is ∙ settled-alike

    -- else a cycle loses
    pub held-breaks : (r : Solution) → Solved s r → enough g l ≡ false → (r.settled ≡ false) × Losing (paces g l) (edges_of r.cycle) × Tallies r.cycle
    held-breaks r t q =
        let is : r.settled ≡ false = t.settled ∙ settled-alike ∙ q in
        (is, same-losing s (paces g l) held-paces _ (t.shortest is).losing, t.tallies)

-- ---- the edges of a form

module _ (f : Form) (e : Edges) (t : Timetable) (lent : LentBy f e t) where
  edge_in : (i : ℕ) → i < e.count → i < f.header.edges
  unfolding loop_of graph_of
  edge_in i l = omega (arith, lent.told.all_edges)

  pub lent-edged : EdgedIn t.nodes e
  unfolding loop_of
  lent-edged = record {
    ends = lent-ends f _ _ _ _ t lent;
    short = λ i l. omega (arith, (lent.good.edge i (edge_in i l)).delays, lent.told.is_delay i l);
  }

  -- what the code reads as costs are the loop's
  pub lent-costed : (cs : List ℕ) → ((i : ℕ) → i < e.count → get_or cs i 0 ≡ get_or t.latency (get_or e.from.now i 0) 0) → Costed (loop_of f) e.count cs
  lent-costed cs is i l = is i l ∙ rw (lent.told.is_tail i l) (sym (lent.timed.takes _ ((lent-ends f _ _ _ _ t lent).tail-in i l)))

  pub lent-paced : (cs : List ℕ) → ((i : ℕ) → i < e.count → get_or cs i 0 ≡ get_or t.latency (get_or e.from.now i 0) 0) → knotted (loop_of f) ≡ false → PacedBy (loop_of f) t.nodes e cs
  lent-paced cs is free = record { sound = sound-form f lent.good; free = free; told = lent.told; costed = lent-costed cs is }
