-- A run, step by step: nodes ascending, operands in edge order, Early before Busy.
-- Assumes nothing.
use Rattle.std.specs.Prelude.{Bool, ◌&&◌, ◌||◌, not, List, map, ℕ, zero, suc, ◌+◌, ◌-◌, ◌*◌, ◌/◌, ◌%◌, eqb, leb, ltb, length, get_or, set, None, Some}
use Rattle.lists.specs.Pick.{pick}
use Rattle.lists.specs.Span.{span}
use Rattle.lists.specs.Fold.{count, fold, top}
use Rattle.lists.specs.First.{first_from}
use Rattle.answer.specs.Refused.{Verdict, fine}
use Rattle.answer.specs.declared.Refusal.TheVariants.{Early, Busy}
use Rattle.form.specs.Hold.{hold}
use Rattle.legal.specs.Loop.{Loop, Pair, ran_on, latency}
use Rattle.machine.specs.Values.{place_of, from_start, computed}

-- the values and finish steps so far, and what stopped the run, None while it goes
pub record Machine : Type 0 where
  pub values : List ℕ
  pub finish : List ℕ
  pub refusal : Verdict

-- the largest retiming
unfoldable pub depth : Loop → Pair → ℕ
depth g p = top (map p.retiming (span 0 g.graph.nodes))

module _ (g : Loop) (p : Pair) (starts : List ℕ) (k : ℕ) where
  -- the body step of run step t, and its repetition counted from the first one, D repetitions before iteration 0
  abbrev pub body_step : ℕ → ℕ
  body_step t = (t - 1) % p.length + 1

  abbrev pub repetition : ℕ → ℕ
  repetition t = (t - 1) / p.length

  -- node v issues in run step t: it starts in that body step, and its iteration is one of the k
  unfoldable pub issues : ℕ → ℕ → Bool
  issues t v =
      eqb (p.start v) (body_step t)
      && (leb (depth g p) (repetition t + p.retiming v) && ltb (repetition t + p.retiming v) (depth g p + k))

  -- the iteration that it issues
  abbrev pub iteration : ℕ → ℕ → ℕ
  iteration t v = repetition t + p.retiming v - depth g p

  -- edge e into v is not there at run step t: its value is not issued yet, or finishes later
  unfoldable pub late : List ℕ → ℕ → ℕ → ℕ → Bool
  late finish t v e =
      eqb (g.graph.head e) v
      && (not (from_start g starts (iteration t v) e)
      && (eqb (get_or finish (place_of g starts (iteration t v - g.delay e) (g.graph.tail e)) 0) 0
      || ltb t (get_or finish (place_of g starts (iteration t v - g.delay e) (g.graph.tail e)) 0)))

  -- the first such edge, or the number of edges
  unfoldable pub late_edge : List ℕ → ℕ → ℕ → ℕ
  late_edge finish t v = first_from (late finish t v) g.graph.edges 0

  -- what was issued at a place occupies a unit of class c at run step t
  unfoldable pub holds : List ℕ → ℕ → ℕ → ℕ → Bool
  holds finish c t at =
      ltb 0 (get_or finish at 0)
      && (eqb (ran_on g (at % g.graph.nodes)) c && ltb t (get_or finish at 0 - latency g (at % g.graph.nodes) + hold (g.class c)))

  -- how many earlier issues do
  unfoldable pub held_now : List ℕ → ℕ → ℕ → ℕ
  held_now finish c t = count (holds finish c t) (span 0 (k * g.graph.nodes))

  -- node v in run step t: Early, then Busy, else its value and its finish step are written
  unfoldable pub issue : Machine → ℕ → ℕ → Machine
  issue m t v =
      pick (ltb (late_edge m.finish t v) g.graph.edges)
      (record { values = m.values; finish = m.finish; refusal = Some (Early t v (late_edge m.finish t v)) })
      (pick (ltb (held_now m.finish (ran_on g v) t) (g.class (ran_on g v)).units)
      (record {
        values = set m.values (place_of g starts (iteration t v) v) (computed g starts m.values (iteration t v) v);
        finish = set m.finish (place_of g starts (iteration t v) v) (t + latency g v);
        refusal = None;
      })
      (record { values = m.values; finish = m.finish; refusal = Some (Busy t v (ran_on g v)) }))

  -- node v in run step t, if it issues there and the run goes on
  unfoldable pub visit : ℕ → Machine → ℕ → Machine
  visit t m v =
      let next = issue m t v in
      pick (fine m.refusal) (pick (issues t v) next m) m

  -- the nodes in ascending order
  unfoldable pub step_of : Machine → ℕ → Machine
  step_of m t = fold (visit t) m (span 0 g.graph.nodes)

  -- how many run steps there are
  unfoldable pub run_steps : ℕ
  run_steps = (k + depth g p) * p.length

  -- so many run steps from the buffers given, whose first places were cleared
  unfoldable pub ran : ℕ → Machine → Machine
  ran n m = fold step_of m (span 1 n)

-- a buffer with its first places cleared; places beyond stay
unfoldable pub cleared : ℕ → List ℕ → List ℕ
cleared zero xs = xs
cleared (suc n) xs = set (cleared n xs) n 0

-- the whole run
unfoldable pub run_of : Loop → Pair → List ℕ → ℕ → List ℕ → List ℕ → Machine
run_of g p starts k values finish =
    ran g p starts k (run_steps g p starts k)
    (record { values = cleared (k * g.graph.nodes) values; finish = cleared (k * g.graph.nodes) finish; refusal = None })
