-- `drawing::put_class` meets its contract: four fields.
-- Assumes nothing.
use native.Mathlib.Omega.{arith}
use Rattle.drawing.specs.Words.{class_word, latency_word, units_word, plain_word, pipelined_word}
use Rattle.drawing.proofs.Laws.{plain-put, pipelined-put}
use Rattle.drawing.proofs.put_class.Goals as goal

pub returns-then-class-eq0 : goal.returns-then-class-eq0
unfolding class_word latency_word units_word plain_word
returns-then-class-eq0 c = (
  omega (arith, c.field.ensures.0, c.field-2.ensures.0, c.field-3.ensures.0, c.word.ensures.laid.ends),
  plain-put _ _ _ _ _ _ c.field.ensures.1 c.field-2.ensures.1 c.field-3.ensures.1 _ c.if-class-eq0.true c.word.ensures,
)

pub returns : goal.returns
unfolding class_word latency_word units_word pipelined_word
returns c = (
  omega (arith, c.field.ensures.0, c.field-2.ensures.0, c.field-3.ensures.0, c.word-2.ensures.laid.ends),
  pipelined-put _ _ _ _ _ _ c.field.ensures.1 c.field-2.ensures.1 c.field-3.ensures.1 _ c.if-class-eq0.false c.word-2.ensures,
)
