-- `drawing::put_table` meets its contract: the classes, the heads, the rows.
-- Assumes nothing.
use native.Mathlib.Omega.{arith}
use borrow.Author.Rules.{rules}
use Rattle.text.specs.PageLaws.{let-go}
use Rattle.drawing.specs.Words.{step_word}
use Rattle.drawing.proofs.Whole.{tabled-narrow, table-put}
use Rattle.drawing.proofs.put_table.Goals as goal

pub put_classes-requires : goal.put_classes-requires
put_classes-requires c = (omega (arith, c.new-page.ensures.front), (tabled-narrow _ c.requires).few)

pub put_heads-requires : goal.put_heads-requires
put_heads-requires c = (omega (arith, c.new-page.ensures.front, c.put_classes.ensures.0, c.word.ensures.laid.ends), tabled-narrow _ c.requires)

pub put_rows-requires : goal.put_rows-requires
put_rows-requires c = (omega (arith, c.new-page.ensures.front, c.put_classes.ensures.0, c.word.ensures.laid.ends, c.put_heads.ensures.0, c.byte.ensures.laid.ends), c.requires)

pub returns : goal.returns
unfolding step_word
returns c = (
  omega (arith, c.new-page.ensures.front, c.put_classes.ensures.0, c.word.ensures.laid.ends, c.put_heads.ensures.0, c.byte.ensures.laid.ends, c.put_rows.ensures.0),
  λ f e.
      let-go _ _ _ _ _ _ c.new-page.ensures.front c.new-page.ensures.buffer c.new-page.ensures.same
      (table-put f _ e _ _ _ _ _ _ c.put_classes.ensures.1 c.word.ensures c.put_heads.ensures.1 c.byte.ensures (c.put_rows.ensures.1 f e))
      (search rules),
)
