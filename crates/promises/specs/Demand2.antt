-- Demand 2. Reading and writing records undo each other; the judge accepts exactly the legal pairs; a retiming is refused exactly where
-- none exists, and one given has the least depth; no legal pair is shorter than the floor.
-- Assumes nothing.
use Rattle.std.specs.Prelude.{◌≡◌, true, false, List, ◌⊎◌, ℕ, ◌≤◌, length, get_or, take, ◌≢◌, ◌<◌, ◌*◌, None, Some}
use Rattle.std.proofs.Common.{ap}
use Rattle.answer.specs.Refused.{fine, number_of}
use Rattle.form.specs.declared.Form.{Form}
use Rattle.form.specs.Places.{used, retiming_of}
use Rattle.form.specs.Ranges.{WellFormed, Within}
use Rattle.field.specs.Number.{Bytes}
use Rattle.reader.specs.Outcome.{Record}
use Rattle.reader.specs.Reading.{read_form}
use Rattle.writer.specs.Layout.{layout}
use Rattle.writer.specs.Writing.{refusal_of, written, buffer_after}
use Rattle.record.specs.Held.{Held}
use Rattle.record.specs.Read as reading
use Rattle.record.specs.Written as writing
use Rattle.record.specs.RoundTrip as trip
use Rattle.answer.specs.declared.Refusal.TheVariants as refusal
use Rattle.legal.specs.Loop.{plain, loop_of, pair_of, graph_of}
use Rattle.legal.specs.Shape.{sound-form}
use Rattle.reach.specs.Tables.{weights_of, weights-at}
use Rattle.reach.specs.Others.{Numbers, numbers-once, Leads, weight-numbers}
use Rattle.legal.specs.Legal.{Legal, Knot}
use Rattle.legal.specs.Knots.{Free}
use Rattle.legal.specs.Limits.{EdgeRules}
use Rattle.legal.specs.Ruled.{LowestEdge, LowestOver}
use Rattle.legal.specs.Judging.{judge_of}
use Rattle.legal.specs.Judged as judging
use Rattle.lists.specs.Fold.{top}
use Rattle.legal.specs.Loop.{Loop, Pair}
use Rattle.legal.specs.Shape.{Sound}
use Rattle.legal.specs.Systems.{Fits, Impossible}
use Rattle.legal.specs.Fitted.{impossible-unfit}
use borrow.Author.Tests.{ltb-true}
use Rattle.lists.specs.Place.{zeros-at}
use Rattle.legal.specs.Systems.{knotted}
use Rattle.list_rule.specs.Rule.{start_number, list_rule_of}
use Rattle.list_rule.specs.Filling as filling
use Rattle.list_rule.specs.Placed.{rule-places}
use Rattle.plans.specs.Pairs.{with_pair}
use Rattle.turning.specs.Rotation.{first_form, rotated_length, rotated, too_long}
use Rattle.turning.specs.FirstLaws as firsts
use Rattle.turning.specs.RotatedLaws as rotations
use Rattle.search.specs.Search.{searched}
use Rattle.search.specs.Met.{met, SearchEnds, Shortest, searched-ends, searched-shortest}
use Rattle.search.specs.Laws as searches
use Rattle.fit.specs.Retimed.{fitted_form}
use Rattle.fit.specs.Fitting.{fit_of}
use Rattle.fit.specs.Laws as fitting
use Rattle.floor.specs.Parts.{latency_part, units_part, cycle_part, floor_length}
use Rattle.floor.specs.Floor.{part_of}
use Rattle.lists.specs.Fold.{sum_of}
use Rattle.system.specs.Graph.{Cycle, Joined}
use Rattle.system.specs.System.{System, Solves, LosingWalk}
use Rattle.system.specs.Rounds.{settled_of}
use Rattle.system.specs.Laws as settling
use Rattle.system.specs.Walks.{sound}
use Rattle.legal.specs.Shape.{Bodied, WithinBodies, bodied-within}
use Rattle.legal.specs.Knots.{knot-impossible}
use Rattle.legal.specs.Fitted.{fitted_depth, Settles, depth-bound}
use Rattle.legal.specs.Paced.{latencies}
use Rattle.floor.specs.Bounds.{latency-bound, cycle-bound, floor-bound}
use Rattle.floor.specs.Busy.{units-bound}
use Rattle.floor.specs.Least.{cycle-paced, cycle-least, acyclic-one}
use Rattle.floor.specs.Named.{Attains, named}

-- reading what the writer wrote gives the form on its used places, and 0 elsewhere
pub written-then-read : (f : Form) (out : List ℕ) → Held f → fine (refusal_of f (length out)) ≡ true
    → read_form (take (written f (length out)).size (buffer_after f out)) ≡ record { refusal = None; form = used f }
written-then-read = trip.reading-written

-- writing what the reader read refuses nothing and gives the same bytes
pub read-then-written : (s out : List ℕ) → Bytes s → fine (read_form s).refusal ≡ true → length s ≤ length out
    → (refusal_of (read_form s).form (length out) ≡ None) × (take (length s) (buffer_after (read_form s).form out) ≡ s)
read-then-written s out b e l = let t = trip.writing-read s out b e l in (t.refusal, t.bytes)

-- a record that is read holds a well-formed form with its unused places 0
pub read-well-formed : (s : List ℕ) → Bytes s → fine (read_form s).refusal ≡ true → WellFormed (read_form s).form
read-well-formed = reading.read-well-formed

pub read-used : (s : List ℕ) → Bytes s → fine (read_form s).refusal ≡ true → used (read_form s).form ≡ (read_form s).form
read-used = reading.read-used

-- the writer takes exactly the well-formed forms: what it refuses else is numbered 4 to 9, before Room
pub well-formed-taken : (f : Form) → Held f → WellFormed f → fine (read_form (layout f)).refusal ≡ true
unfolding fine
well-formed-taken f h w = ap (λ (r : Record). fine r.refusal) (writing.well-formed-written f h w)

pub taken-well-formed : (f : Form) → Held f → fine (read_form (layout f)).refusal ≡ true → WellFormed f
taken-well-formed = writing.written-well-formed

pub refused-by-field : (f : Form) → Held f → (number_of (read_form (layout f)).refusal ≡ 0) ⊎ Within 4 9 (number_of (read_form (layout f)).refusal)
refused-by-field = writing.written-refusals

-- ---- the judge, of a well-formed form

module _ (f : Form) (w : WellFormed f) where
  -- it accepts exactly the legal pairs
  pub accepted-legal : judge_of f ≡ None → (f.header.length ≢ 0) × Legal (loop_of f) (pair_of f)
  accepted-legal = judging.judge-accepts f w

  pub legal-accepted : f.header.length ≢ 0 → Legal (loop_of f) (pair_of f) → judge_of f ≡ None
  legal-accepted = judging.accepts-judge f w

  -- Bare exactly where there is no schedule
  pub bare-unscheduled : judge_of f ≡ Some refusal.Bare → f.header.length ≡ 0
  bare-unscheduled = judging.judge-bare f w

  pub unscheduled-bare : f.header.length ≡ 0 → judge_of f ≡ Some refusal.Bare
  unscheduled-bare = judging.bare-judge f w

  -- else Knot exactly where a cycle of edges has delay sum 0
  pub refused-knot : judge_of f ≡ Some refusal.Knot → (f.header.length ≢ 0) × ((es : List ℕ) × Knot (loop_of f) es)
  refused-knot = judging.judge-knot f w

  pub knot-refused : f.header.length ≢ 0 → (es : List ℕ) → Knot (loop_of f) es → judge_of f ≡ Some refusal.Knot
  knot-refused = judging.knot-judge f w

  -- else Dependence exactly with the lowest edge that breaks the edge rule
  pub refused-dependence : (e : ℕ) → judge_of f ≡ Some (refusal.Dependence e) → (f.header.length ≢ 0) × Free (loop_of f) × LowestEdge (loop_of f) (pair_of f) e
  refused-dependence = judging.judge-dependence f w

  pub dependence-refused : (e : ℕ) → f.header.length ≢ 0 → Free (loop_of f) → LowestEdge (loop_of f) (pair_of f) e → judge_of f ≡ Some (refusal.Dependence e)
  dependence-refused = judging.dependence-judge f w

  -- else Units exactly with the lowest step that holds too much, and its lowest class
  pub refused-units : (q c : ℕ) → judge_of f ≡ Some (refusal.Units q c)
      → (f.header.length ≢ 0) × Free (loop_of f) × EdgeRules (loop_of f) (pair_of f) × LowestOver (loop_of f) (pair_of f) q c
  refused-units = judging.judge-units f w

  pub units-refused : (q c : ℕ) → f.header.length ≢ 0 → Free (loop_of f) → EdgeRules (loop_of f) (pair_of f) → LowestOver (loop_of f) (pair_of f) q c
      → judge_of f ≡ Some (refusal.Units q c)
  units-refused = judging.units-judge f w

  -- ---- the fit, of a well-formed form

  -- NoRetiming exactly where there is a schedule, no knot, and no retiming fits the starts
  pub unfit-impossible : fit_of f ≡ Some refusal.NoRetiming → (f.header.length ≢ 0) × Free (loop_of f) × ((r : ℕ → ℕ) → Fits (loop_of f) (pair_of f) r → ⊥)
  unfit-impossible = fitting.fit-impossible f w

  pub impossible-unfitted : f.header.length ≢ 0 → Free (loop_of f) → ((r : ℕ → ℕ) → Fits (loop_of f) (pair_of f) r → ⊥) → fit_of f ≡ Some refusal.NoRetiming
  impossible-unfitted = fitting.impossible-fit f w

  -- what is answered is a legal pair, which the judge accepts
  pub fitted-legal : fit_of f ≡ None → Legal (loop_of (fitted_form f)) (pair_of (fitted_form f))
  fitted-legal = fitting.fit-legal f w

  pub fitted-accepted : fit_of f ≡ None → judge_of (fitted_form f) ≡ None
  fitted-accepted = fitting.fit-judged f w

  -- of the retimings that fit, none is less deep
  pub fitted-least : fit_of f ≡ None → (r : ℕ → ℕ) (d : ℕ) → Fits (loop_of f) (pair_of f) r → ((v : ℕ) → v < f.header.nodes → r v ≤ d)
      → top (fitted_form f).retiming ≤ d
  fitted-least = fitting.fit-least f w

  -- and none that is no deeper is larger at any node
  pub fitted-largest : fit_of f ≡ None → (r : ℕ → ℕ) → Fits (loop_of f) (pair_of f) r → ((v : ℕ) → v < f.header.nodes → r v ≤ top (fitted_form f).retiming)
      → (v : ℕ) → v < f.header.nodes → r v ≤ retiming_of (fitted_form f) v
  fitted-largest = fitting.fit-largest f w

-- a cycle with negative limit sum proves that no retiming fits
pub cycle-unfit : (g : Loop) (p : Pair) (es : List ℕ) → Impossible g p es → (r : ℕ → ℕ) → Fits g p r → ⊥
cycle-unfit = impossible-unfit

-- every knot is such a cycle, whatever the starts
pub knot-unfit : (g : Loop) (p : Pair) → Sound g → Bodied g p → (es : List ℕ) → Knot g es → Impossible g p es
knot-unfit g p s b = knot-impossible g p s _ (bodied-within g p s b)

-- the depth of a retiming that is given never exceeds 63, where the operations end in the body
pub fitted-shallow : (g : Loop) (p : Pair) → Sound g → Settles g p → WithinBodies g p 1 → fitted_depth g p ≤ 63
fitted-shallow g p s q b = depth-bound g p s q 1 b

-- ---- the system behind knots, fits and the floor

-- it settles exactly where it has a solution, and then its values are the least one
pub settled-solves : (s : System) → (settled_of s).settled ≡ true → Solves s (settling.settled_at s)
settled-solves = settling.settled-solves

pub settled-least : (s : System) (y : ℕ → ℕ) → Solves s y → (v : ℕ) → settling.settled_at s v ≤ y v
settled-least = settling.settled-least

pub solved-settles : (s : System) → Joined s.graph → 1 ≤ s.graph.nodes → s.graph.nodes ≤ 64 → (y : ℕ → ℕ) → Solves s y → (settled_of s).settled ≡ true
solved-settles = settling.solved-settles

-- no closed walk of a system with a solution costs more than it gains
pub solved-sound : (s : System) (y : ℕ → ℕ) (es : List ℕ) → Solves s y → LosingWalk s es → ⊥
solved-sound = sound

-- ---- the floor

-- each part by itself is a bound
pub latency-below : (g : Loop) (p : Pair) → Sound g → Legal g p → p.kind ≡ plain → latency_part g ≤ p.length
latency-below = latency-bound

pub units-below : (g : Loop) (p : Pair) (c : ℕ) → Sound g → Legal g p → c < g.classes → units_part g c ≤ p.length
units-below g p c s = units-bound g p c

pub cycle-below : (g : Loop) (p : Pair) → Sound g → Legal g p → cycle_part g ≤ p.length
cycle-below = cycle-bound

-- part c is the least length at which no cycle has a latency sum above length times delay sum; 1 if acyclic
pub cycle-holds : (g : Loop) → Sound g → Free g → (es : List ℕ) → Cycle g.graph es → latencies g es ≤ cycle_part g * sum_of g.delay es
cycle-holds = cycle-paced

pub cycle-minimal : (g : Loop) → Sound g → (l : ℕ) → 1 ≤ l → ((es : List ℕ) → Cycle g.graph es → latencies g es ≤ l * sum_of g.delay es) → cycle_part g ≤ l
cycle-minimal = cycle-least

pub cycle-none : (g : Loop) → Sound g → ((es : List ℕ) → Cycle g.graph es → ⊥) → cycle_part g ≡ 1
cycle-none = acyclic-one

-- no legal plain pair is shorter
pub floor-below : (g : Loop) (p : Pair) → Sound g → Legal g p → p.kind ≡ plain → floor_length g ≤ p.length
floor-below = floor-bound

-- the part that is named attains it, and no part before it does
pub floor-named : (g : Loop) → Attains g (part_of g)
floor-named = named

-- ---- first schedules, of a well-formed form without a knot

module _ (f : Form) (w : WellFormed f) (free : knotted (loop_of f) ≡ false) where
  -- legal with all retimings 0, and 1 to 512 steps long
  pub first-legal : Legal (loop_of (first_form f)) (pair_of (first_form f))
  first-legal = firsts.first-form-legal f w free

  pub first-accepted : judge_of (first_form f) ≡ None
  first-accepted = firsts.first-judged f w free

  pub first-unretimed : (v : ℕ) → retiming_of (first_form f) v ≡ 0
  unfolding first_form with_pair
  first-unretimed v = zeros-at 64 v

  pub first-bounded : (1 ≤ (first_form f).header.length) × ((first_form f).header.length ≤ 512)
  first-bounded = firsts.first-form-length f w free

-- a node's weight is the number of other nodes to which a path of at most N edges of retimed delay 0 leads
pub weight_is : (f : Form) → WellFormed f → (v : ℕ) → v < f.header.nodes
    → Numbers (Leads (loop_of f) (retiming_of f) v) f.header.nodes (get_or (weights_of (loop_of f) (retiming_of f)) v 0)
unfolding loop_of graph_of
weight_is f w v l =
    rw (weights-at (loop_of f) (retiming_of f) v l) (weight-numbers (loop_of f) (retiming_of f) (sound-form f w).joined (sound-form f w).few v l)

-- and there is one such number
pub weight-once : (P : ℕ → Type 0) (n w x : ℕ) → Numbers P n w → Numbers P n x → w ≡ x
weight-once = numbers-once

-- the list rule places every node, from starts that end by step 511
pub list-rule-places : (g : Loop) (r : ℕ → ℕ) → Sound g → filling.Staffed g → filling.Ranked g r → (s : List ℕ) (m : ℕ) → filling.TableEndsBy g s m → m ≤ 511
    → (v : ℕ) → v < g.graph.nodes → 1 ≤ start_number (list_rule_of g r s) v
list-rule-places g r sound staffed ranked s m within l v h = (rule-places g r sound staffed ranked s m within l).placed v h

-- ---- rotations, of a well-formed form with a legal pair

module _ (f : Form) (w : WellFormed f) (legal : Legal (loop_of f) (pair_of f)) (z : ℕ) (one : 1 ≤ z) (below : z < f.header.length) where
  -- a legal pair again, or more than 512 steps
  pub rotation-legal : rotated_length f z ≤ 512 → Legal (loop_of (rotated f z)) (pair_of (rotated f z))
  rotation-legal = rotations.rotated-form-legal f w legal z one below

  pub rotation-accepted : too_long f z ≡ false → judge_of (rotated f z) ≡ None
  rotation-accepted = rotations.rotated-judged f w legal z one below

  pub rotation-long : too_long f z ≡ true → 512 < rotated_length f z
  unfolding too_long
  rotation-long = ltb-true _ _

  pub rotation-short : too_long f z ≡ false → rotated_length f z ≤ 512
  rotation-short = rotations.rotated-form-short f w legal z one below

-- ---- searches, of a well-formed form without a knot, by up to c rotations of size z

-- where a search ends: at the first pair at which it stops, else after c rotations
pub search-ends : (f : Form) (c z : ℕ) → SearchEnds f z c (searched f c z).rotations
search-ends f c z = searched-ends f z c

-- it answers the shortest of the pairs met, the earliest among equals
pub search-shortest : (f : Form) (c z : ℕ) → Shortest f z (searched f c z).rotations (searched f c z).best
search-shortest f c z = searched-shortest f z c

module _ (f : Form) (w : WellFormed f) (free : knotted (loop_of f) ≡ false) (z : ℕ) (small : z < 65536) (c : ℕ) where
  -- every pair met on the way is legal
  pub search-pairs-accepted : (i : ℕ) → i ≤ (searched f c z).rotations → judge_of (met f z i).now ≡ None
  search-pairs-accepted = searches.pair-judged f w free z small c

  -- and so is the one answered
  pub search-legal : Legal (loop_of (searched f c z).best) (pair_of (searched f c z).best)
  search-legal = (searches.best-good f w free z small c).legal

  pub search-accepted : judge_of (searched f c z).best ≡ None
  search-accepted = searches.best-judged f w free z small c
