-- `words::put_refusal` meets its contract: the number, a space, the reason, the end of the line.
-- Assumes nothing.
use native.Mathlib.Omega.{arith}
use borrow.Author.Rules.{rules}
use Rattle.text.specs.PageLaws.{followed, let-go}
use Rattle.text.specs.Words.{refused_word}
use Rattle.words.specs.Refusals.{refusal_line, one_text}
use Rattle.words.proofs.put_refusal.Goals as goal

pub returns : goal.returns
unfolding refusal_line one_text refused_word
returns c = (
  omega (arith, c.put_one.ensures.0, c.byte.ensures.laid.ends, c.put_reason.ensures.0, c.byte-2.ensures.laid.ends, c.new-page.ensures.front),
  let-go _ _ _ _ _ _ c.new-page.ensures.front c.new-page.ensures.buffer c.new-page.ensures.same
      (followed _ _ _ _ _ c.put_one.ensures.1 (followed _ _ _ _ _ c.byte.ensures (followed _ _ _ _ _ c.put_reason.ensures.1 c.byte-2.ensures)))
      (search rules),
)
