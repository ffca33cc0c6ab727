-- What a well-formed form says of its loop and its pair.
-- Assumes nothing.
use Rattle.std.specs.Prelude.{◌≡◌, refl, ◌≢◌, ℕ, ◌+◌, ◌*◌, ◌≤◌, ◌<◌}
use Rattle.std.proofs.Common.{subst, arith, pos_of_ne-zero}
use Rattle.form.specs.declared.Form.{Form}
use Rattle.form.specs.Ranges.{WellFormed, GoodSchedule}
use Rattle.system.specs.Graph.{Joined}
use Rattle.legal.specs.Loop.{Kind, plain, wrapped, within, bodies, Loop, Pair, loop_of, pair_of, graph_of, latency}
use Rattle.legal.specs.Legal.{finish, InBody}

-- a loop of 1 to 64 nodes and up to 256 edges between them, with latencies 1 to 8
pub record Sound (g : Loop) : Type 0 where
  pub joined : Joined g.graph
  pub some : 1 ≤ g.graph.nodes
  pub few : g.graph.nodes ≤ 64
  pub edges : g.graph.edges ≤ 256
  pub works : (v : ℕ) → v < g.graph.nodes → 1 ≤ latency g v
  pub short : (v : ℕ) → v < g.graph.nodes → latency g v ≤ 8

-- every node starts in the body, and as much of it as the kind asks lies in it
abbrev pub Bodied : Loop → Pair → Type 0
Bodied g p = (v : ℕ) → v < g.graph.nodes → InBody g p v

-- every node starts in one of the body's steps, wherever it ends
abbrev pub Starting : Loop → Pair → Type 0
Starting g p = (v : ℕ) → v < g.graph.nodes → (1 ≤ p.start v) × (p.start v ≤ p.length)

-- and its operation ends within so many bodies
pub record WithinBodies (g : Loop) (p : Pair) (n : ℕ) : Type 0 where
  pub starts : Starting g p
  pub ends : (v : ℕ) → v < g.graph.nodes → finish g p v ≤ n * p.length + 1

-- a body of 1 to 512 steps, starts in it, retimings of at most 63 for each body that an operation reaches into, the smallest of them 0
pub record Placed (g : Loop) (p : Pair) : Type 0 where
  pub steps : (1 ≤ p.length) × (p.length ≤ 512)
  pub body : Bodied g p
  pub retimings : (v : ℕ) → v < g.graph.nodes → p.retiming v ≤ 63 * bodies p.kind
  pub least : (v : ℕ) × (v < g.graph.nodes) × (p.retiming v ≡ 0)

ends-plain : (k : Kind) (x t l : ℕ) → 1 ≤ t → t ≤ 8 → 1 ≤ x → x + within k t ≤ l + 1 → (x ≤ l) × (x + t ≤ bodies k * l + 1)
unfolding within bodies
ends-plain plain x t l one few some h = (omega arith, omega arith)
ends-plain wrapped x t l one few some h = (omega arith, omega arith)

-- all that the laws of both kinds need of the starts
pub bodied-within : (g : Loop) (p : Pair) → Sound g → Bodied g p → WithinBodies g p (bodies p.kind)
bodied-within g p s b = record {
  starts = λ v l. ((b v l).begins, (ends-plain p.kind _ _ _ (s.works v l) (s.short v l) (b v l).begins (b v l).ends).0);
  ends = λ v l. (ends-plain p.kind _ _ _ (s.works v l) (s.short v l) (b v l).begins (b v l).ends).1;
}

-- the operations of a plain pair end in the body
pub plain-ends : (g : Loop) (p : Pair) → p.kind ≡ plain → (v : ℕ) → InBody g p v → finish g p v ≤ p.length + 1
unfolding within
plain-ends g p k v b = subst (λ (x : Kind). p.start v + within x (latency g v) ≤ p.length + 1) k b.ends

-- every edge of a well-formed form goes from a node of it to a node of it
pub joined-form : (f : Form) → WellFormed f → Joined (graph_of f)
unfolding graph_of
joined-form f w = record { tails = λ e l. (w.edge e l).from; heads = λ e l. (w.edge e l).to }

-- a well-formed form has a loop of 1 to 64 nodes and up to 256 edges, with latencies 1 to 8
pub sound-form : (f : Form) → WellFormed f → Sound (loop_of f)
unfolding loop_of graph_of
sound-form f w = record {
  joined = joined-form f w;
  some = w.nodes.0;
  few = w.nodes.1;
  edges = w.edges;
  works = λ v l. (w.class _ (w.node v l)).latency.0;
  short = λ v l. (w.class _ (w.node v l)).latency.1;
}

-- and, where it has a schedule, starts in the body and retimings of 0 to 63, the smallest being 0
pub placed-form : (f : Form) → WellFormed f → f.header.length ≢ 0 → Placed (loop_of f) (pair_of f)
unfolding loop_of pair_of graph_of within bodies
placed-form f w n =
    let s : GoodSchedule f = w.schedule n in
    record {
      steps = (pos_of_ne-zero n, w.length);
      body = λ v l. record { begins = (s.starts v l).begins; ends = (s.starts v l).ends };
      retimings = λ v l. (s.starts v l).retiming;
      least = s.least;
    }

-- its operations end in the body
pub within-form : (f : Form) → WellFormed f → f.header.length ≢ 0 → WithinBodies (loop_of f) (pair_of f) 1
unfolding pair_of bodies
within-form f w n = bodied-within (loop_of f) (pair_of f) (sound-form f w) (placed-form f w n).body

-- a form holds no kind: its pair is plain
pub plain_form : (f : Form) → (pair_of f).kind ≡ plain
unfolding pair_of
plain_form f = refl
