-- `list_rule::list_rule` meets its contract: in each of its three loops the rest of the rule equals the whole.
-- Assumes nothing.
use mathlib.Core.Path.{refl, ◌∙◌}
use Prim.Native.Nat.{ℕ, ◌<◌}
use native.Mathlib.Omega.{arith}
use lib.ListN.{get_or}
use borrow.Author.Rules.{rules}
use Rattle.reach.specs.Tables.{ends-wide}
use Rattle.list_rule.specs.Tables.{OnBoard}
use Rattle.list_rule.proofs.Units.{on-board, used-fits}
use Rattle.list_rule.proofs.Steps.{Ordered, ordered_of, filling-none, filling-end, filling-done, trying-none, trying-end, trying-placed, trying-waits, trying-full, trying-put, searching-none, searching-next, searching-full, searching-end}
use Rattle.list_rule.proofs.list_rule.Goals.{After-fill_busy, then-start-v-ne0-via-then-start-v-ne0, then-start-v-ne0-via-else-start-v-ne0+then-waits-v-ne0}
use Rattle.list_rule.proofs.list_rule.Goals as goal

-- ---- before the steps

pub weights-weight-requires : goal.weights-weight-requires
weights-weight-requires c = c.requires.0

pub order_of-order-requires : goal.order_of-order-requires
order_of-order-requires c =
    c.requires.0.most

pub fill_busy-requires : goal.fill_busy-requires
fill_busy-requires c =
    record { busy_len = (c.idle-busy.ensures.0, c.idle-busy.ensures.1); nodes_bound = (c.requires.0.most, λ v l. (on-board _ c.requires.1 c.requires.2 v l, omega (arith, c.requires.2.in_body v l))) }

-- the order, from the weights of every loop that the tables tell
ordered : (c : After-fill_busy) → Ordered c.args.edges.count c.args.edges.from.now c.args.edges.to.now c.args.edges.delays.now c.args.times c.order_of-order.result
ordered c =
    ordered_of _ _ _ _ _ _ _ (λ g pair told timed. c.weights-weight.ensures g pair.retiming told (λ v l. timed.retimed v)) c.order_of-order.ensures.0 c.order_of-order.ensures.1

pub steps-init : goal.steps-init
steps-init c = (omega arith, omega arith, filling-none _ _ _ _ _ _ (search rules) c.fill_busy.ensures)

-- ---- a step

pub unplaced-requires : goal.unplaced-requires
unplaced-requires c = c.requires.0.most

pub waiting-waits-requires : goal.waiting-waits-requires
waiting-waits-requires c =
    ends-wide _ _ _ _ c.requires.0

pub nodes-init : goal.nodes-init
nodes-init c =
    (omega arith, trying-none _ _ _ _ _ _ _ _ c.steps.invariant.2 c.steps-test.true _ c.unplaced.ensures c.if-unplaced-eq0.false _ (ordered (goal.at.nodes-init c).After-fill_busy))

-- ---- a node that is tried

node_in : (c : After-fill_busy) (i : ℕ) → i < c.args.times.nodes → get_or c.order_of-order.result i 0 < c.args.times.nodes
node_in c i l = (ordered c).below i l

node-place : (c : After-fill_busy) (i : ℕ) → i < c.args.times.nodes → get_or c.order_of-order.result i 0 < 64
node-place c i l = omega (arith, node_in c i l, c.requires.0.most)

board : (c : After-fill_busy) (i : ℕ) → i < c.args.times.nodes → OnBoard c.args.times.class c.args.times.runs (get_or c.order_of-order.result i 0)
board c i l = on-board _ c.requires.1 c.requires.2 _ (node_in c i l)

pub overflow_cast-v : goal.overflow_cast-v
overflow_cast-v c = omega (arith, c.nodes-test.true, c.requires.0.most)

pub bounds-order-i : goal.bounds-order-i
bounds-order-i c = omega (arith, c.nodes-test.true, c.requires.0.most)

pub overflow_cast-v-in-nodes : goal.overflow_cast-v-in-nodes
overflow_cast-v-in-nodes c = omega (arith, node-place (goal.at.overflow_cast-v-in-nodes c).After-fill_busy c.nodes.i c.nodes-test.true)

pub offset_bounds-start-v : goal.offset_bounds-start-v
offset_bounds-start-v c = omega (arith, node-place (goal.at.offset_bounds-start-v c).After-fill_busy c.nodes.i c.nodes-test.true)

pub bounds-start-v : goal.bounds-start-v
bounds-start-v c = omega (arith, node-place (goal.at.bounds-start-v c).After-fill_busy c.nodes.i c.nodes-test.true)

pub offset_bounds-waits-v : goal.offset_bounds-waits-v
offset_bounds-waits-v c = omega (arith, node-place (goal.at.offset_bounds-waits-v c).After-fill_busy c.nodes.i c.nodes-test.true)

pub bounds-waits-v : goal.bounds-waits-v
bounds-waits-v c = omega (arith, node-place (goal.at.bounds-waits-v c).After-fill_busy c.nodes.i c.nodes-test.true)

pub overflow_step-i : goal.overflow_step-i
overflow_step-i c = omega (arith, c.nodes-test.true, c.requires.0.most)

pub nodes-preserved-then-start-v-ne0 : goal.nodes-preserved-then-start-v-ne0
nodes-preserved-then-start-v-ne0 c =
    let o = ordered (goal.at.nodes-preserved-then-start-v-ne0 c).After-fill_busy in (
      omega (arith, c.nodes-test.true),
      elim c.then-start-v-ne0.branch [
        | then-start-v-ne0-via-then-start-v-ne0 w ↦ trying-placed _ _ _ _ _ _ _ _ _ _ _ c.nodes.invariant.1 o c.requires.0 c.nodes-test.true w.if-start-v-ne0.true
        | then-start-v-ne0-via-else-start-v-ne0+then-waits-v-ne0 w ↦ trying-waits _ _ _ _ _ _ _ _ _ _ _ c.nodes.invariant.1 o c.requires.0 c.nodes-test.true _ c.waiting-waits.ensures w.if-waits-v-ne0.true
      ],
    )

pub bounds-times-v : goal.bounds-times-v
bounds-times-v c = omega (arith, node-place (goal.at.bounds-times-v c).After-fill_busy c.nodes.i c.nodes-test.true)

pub overflow_cast-class : goal.overflow_cast-class
overflow_cast-class c = omega (arith, (board (goal.at.overflow_cast-class c).After-fill_busy c.nodes.i c.nodes-test.true).class-in)

pub offset_bounds-classes-number : goal.offset_bounds-classes-number
offset_bounds-classes-number c = omega (arith, (board (goal.at.offset_bounds-classes-number c).After-fill_busy c.nodes.i c.nodes-test.true).class-in)

pub bounds-classes-number : goal.bounds-classes-number
bounds-classes-number c = (board (goal.at.bounds-classes-number c).After-fill_busy c.nodes.i c.nodes-test.true).class-in

-- ---- the steps that it would hold

pub overflow_add-q-end : goal.overflow_add-q-end
overflow_add-q-end c = omega (arith, (board (goal.at.overflow_add-q-end c).After-fill_busy c.nodes.i c.nodes-test.true).hold_in, c.wide-hold.ensures.0, c.hold_of.ensures, c.steps-test.true)

pub loop-q-init : goal.loop-q-init
loop-q-init c =
    (refl, omega arith, omega (arith, (board (goal.at.loop-q-init c).After-fill_busy c.nodes.i c.nodes-test.true).hold_in, c.wide-hold.ensures.0, c.hold_of.ensures, c.steps-test.true), searching-none _ _ _ _ _ _ _ (c.wide-hold.ensures.0 ∙ c.hold_of.ensures))

pub bounds-busy-spot : goal.bounds-busy-spot
bounds-busy-spot c = omega (arith, c.spot.ensures.0, (board (goal.at.bounds-busy-spot c).After-fill_busy c.nodes.i c.nodes-test.true).class-in, c.loop-q-test.true, c.loop-q.invariant.2)

pub overflow_step-i-then-class-busy : goal.overflow_step-i-then-class-busy
overflow_step-i-then-class-busy c =
    omega (arith, c.loop-q.invariant.0, c.nodes-test.true, c.requires.0.most)

pub nodes-preserved-then-class-busy : goal.nodes-preserved-then-class-busy
nodes-preserved-then-class-busy c =
    let full = searching-full _ _ _ _ _ _ _ c.nodes.invariant.1.used (board (goal.at.nodes-preserved-then-class-busy c).After-fill_busy c.nodes.i c.nodes-test.true).class-in _ _ c.loop-q.invariant.3 c.loop-q-test.true (omega (arith, c.loop-q-test.true, c.loop-q.invariant.2)) _ c.spot.ensures.0 (omega (arith, c.if-class-busy.true)) in
    rw c.loop-q.invariant.0 (omega (arith, c.nodes-test.true), trying-full _ _ _ _ _ _ _ _ _ _ _ c.nodes.invariant.1 (ordered (goal.at.nodes-preserved-then-class-busy c).After-fill_busy) c.requires.0 c.nodes-test.true _ c.waiting-waits.ensures full)

pub overflow_step-q : goal.overflow_step-q
overflow_step-q c = omega (arith, c.loop-q-test.true, c.loop-q.invariant.2)

pub loop-q-preserved : goal.loop-q-preserved
loop-q-preserved c = (
  c.loop-q.invariant.0,
  omega (arith, c.loop-q-test.true),
  c.loop-q.invariant.2,
  searching-next _ _ _ _ _ _ _ c.nodes.invariant.1.used (board (goal.at.loop-q-preserved c).After-fill_busy c.nodes.i c.nodes-test.true).class-in _ _ c.loop-q.invariant.3 c.loop-q-test.true (omega (arith, c.loop-q-test.true, c.loop-q.invariant.2)) _ c.spot.ensures.0 (omega (arith, c.if-class-busy.false)),
)

-- ---- it is placed

pub offset_bounds-start-v-in-nodes : goal.offset_bounds-start-v-in-nodes
offset_bounds-start-v-in-nodes c = omega (arith, node-place (goal.at.offset_bounds-start-v-in-nodes c).After-fill_busy c.nodes.i c.nodes-test.true)

pub bounds-start-v-in-nodes : goal.bounds-start-v-in-nodes
bounds-start-v-in-nodes c = omega (arith, node-place (goal.at.bounds-start-v-in-nodes c).After-fill_busy c.nodes.i c.nodes-test.true)

pub raise-requires : goal.raise-requires
raise-requires c =
    record { busy_len = (c.nodes.invariant.1.used.size, (board (goal.at.raise-requires c).After-fill_busy c.nodes.i c.nodes-test.true).class-in, omega (arith, c.loop-q.invariant.2)); by_index = λ q h. used-fits _ _ _ _ _ c.requires.0.most c.nodes.invariant.1.used _ q (board (goal.at.raise-requires c).After-fill_busy c.nodes.i c.nodes-test.true).class-in h }

pub overflow_step-i-in-nodes : goal.overflow_step-i-in-nodes
overflow_step-i-in-nodes c =
    omega (arith, c.loop-q.invariant.0, c.nodes-test.true, c.requires.0.most)

pub nodes-preserved : goal.nodes-preserved
nodes-preserved c =
    let found = searching-end _ _ _ _ _ _ _ _ c.loop-q-test.false c.loop-q.invariant.3 in
    rw c.loop-q.invariant.0 (omega (arith, c.nodes-test.true), trying-put _ _ _ _ _ _ _ _ _ _ _ c.nodes.invariant.1 (ordered (goal.at.nodes-preserved c).After-fill_busy) c.requires.0 c.nodes-test.true _ c.waiting-waits.ensures _ _ (c.wide-hold.ensures.0 ∙ c.hold_of.ensures) c.if-start-v-ne0.false c.if-waits-v-ne0.false found c.raise.ensures)

pub steps-preserved : goal.steps-preserved
steps-preserved c = (omega arith, omega (arith, c.steps-test.true), trying-end _ _ _ _ _ _ _ _ _ _ _ c.nodes.invariant.1 c.nodes-test.false c.nodes.invariant.0)

pub returns-after-steps : goal.returns-after-steps
returns-after-steps c = filling-end _ _ _ _ _ _ _ _ c.steps.invariant.2 c.steps-test.false

pub returns-then-unplaced-eq0 : goal.returns-then-unplaced-eq0
returns-then-unplaced-eq0 c =
    filling-done _ _ _ _ _ _ _ _ c.steps.invariant.2 c.steps-test.true _ c.unplaced.ensures c.if-unplaced-eq0.true
