-- `issue::issue` meets its contract: what the tables tell decides as the machine does, and its places are stored.
-- Assumes nothing.
use Prim.Native.Nat.{◌+◌, ◌*◌}
use native.Mathlib.Omega.{arith}
use Rattle.operands.proofs.Laws.{place-small}
use Rattle.issue.proofs.Issuing.{sized_same, sized_set, issued-early, issued-busy, issued-goes}
use Rattle.issue.proofs.issue.Goals as goal

pub returns-in-Some : goal.returns-in-Some
returns-in-Some c =
    record {
      sized = sized_same _ _ _ c.requires.all_units;
      outcome = λ g p k told tells follows room point.
          issued-early g p _ k _ _ _ _ _ told _ _ _ _ tells _ _ _ point _ (c.in-Some.ensures.1.is_first g p _ k _ _ tells follows told.goes) c.in-Some.ensures.0;
    }

pub returns-in_default-free_unit : goal.returns-in_default-free_unit
returns-in_default-free_unit c =
    record {
      sized = sized_same _ _ _ c.requires.all_units;
      outcome = λ g p k told tells follows room point.
          issued-busy g p _ k _ _ _ _ _ told _ _ _ _ tells _ _ _ point _ _ (c.in_default.ensures.is_first g p _ k _ _ tells follows told.goes) (omega arith) c.in_default-free_unit.ensures (omega arith);
    }

pub bounds-values-place : goal.bounds-values-place
bounds-values-place c = omega (arith, c.requires.node_in, c.requires.room.for_values)

pub overflow_add-finish : goal.overflow_add-finish
overflow_add-finish c = omega (arith, c.requires.in_steps)

pub bounds-finish-place : goal.bounds-finish-place
bounds-finish-place c = omega (arith, c.requires.node_in, c.requires.for_finish)

pub overflow_add-free : goal.overflow_add-free
overflow_add-free c = omega (arith, c.requires.in_steps)

pub bounds-free-task : goal.bounds-free-task
bounds-free-task c = omega (arith, c.requires.few_kinds, c.requires.few_units)

pub returns : goal.returns
returns c =
    let unit = c.in-Some-free_unit in
    record {
      sized = sized_set c.args.values.now c.args.finish.now c.args.free.now (c.args.iteration.0 * c.args.inputs.nodes + c.args.task.node) c.value_of-value.result
          (c.args.step.0 + c.args.task.class.latency) (8 * c.args.task.runs_on + unit.unit) (c.args.step.0 + c.hold_of.result) c.requires.all_units;
      outcome = λ g p k told tells follows room point.
          issued-goes g p _ k _ _ _ _ _ told _ _ _ _ tells _ _ _ point _ _ _ _ (c.in_default.ensures.is_first g p _ k _ _ tells follows told.goes) (omega arith) unit.ensures.1 unit.ensures.0
          c.requires.all_units room (c.value_of-value.ensures g _ tells follows) c.hold_of.ensures;
    }
