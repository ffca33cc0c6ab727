-- `issue::late_edge` meets its contract: the first late edge from the walk's edge on is the first of all.
-- Assumes nothing.
use mathlib.Core.Path.{sym, ◌∙◌}
use native.Mathlib.Omega.{arith}
use Rattle.issue.specs.Late.{seeking-first, seeking-next, seeking-here, seeking-end, late-missing}
use Rattle.issue.proofs.late_edge.Goals as goal

pub loop-e-init : goal.loop-e-init
loop-e-init c = (c.requires.1, λ g p starts k v o t f is. seeking-first g p starts k _ _ v o _ _ f)

pub returns-then-is_late : goal.returns-then-is_late
returns-then-is_late c = (
  c.loop-e-test.true,
  record {
    is_first = λ g p starts k v o t f is.
        let w = c.loop-e.invariant.1 g p starts k v o t f is in
        seeking-here g p starts k _ _ v c.loop-e.e (omega (arith, t.all_edges)) (late-missing g p starts k _ _ v _ _ _ _ _ c.loop-e.e t is c.loop-e-test.true w ∙ sym c.is_late.ensures ∙ c.if-is_late.true) w;
  },
)

pub loop-e-preserved : goal.loop-e-preserved
loop-e-preserved c = (
  c.requires.0.leads-in c.loop-e.e (omega arith),
  λ g p starts k v o t f is.
      let w = c.loop-e.invariant.1 g p starts k v o t f is in
      seeking-next g p starts k _ _ v o _ _ f c.loop-e.e (omega (arith, t.all_edges)) (late-missing g p starts k _ _ v _ _ _ _ _ c.loop-e.e t is c.loop-e-test.true w ∙ sym c.is_late.ensures ∙ c.if-is_late.false) w,
)

pub returns : goal.returns
returns c = record {
  is_first = λ g p starts k v o t f is. omega (arith, c.loop-e.invariant.0, seeking-end g p starts k c.args.finish.now c.args.step.0 v c.loop-e.e (omega (arith, t.all_edges)) (c.loop-e.invariant.1 g p starts k v o t f is));
}
