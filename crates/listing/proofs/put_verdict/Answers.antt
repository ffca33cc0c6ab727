-- `listing::put_verdict` meets its contract: one word or the other.
-- Assumes nothing.
use native.Mathlib.Omega.{arith}
use Rattle.listing.specs.Text.{shortest_word, open_word}
use Rattle.listing.proofs.Laws.{shortest-put, open-put}
use Rattle.listing.proofs.put_verdict.Goals as goal

pub returns-then-length-floor : goal.returns-then-length-floor
unfolding shortest_word
returns-then-length-floor c = (omega (arith, c.word.ensures.laid.ends), shortest-put _ _ _ _ (omega (arith, c.if-length-floor.true)) c.word.ensures)

pub returns : goal.returns
unfolding open_word
returns c = (omega (arith, c.word-2.ensures.laid.ends), open-put _ _ _ _ (λ e. omega (arith, e, c.if-length-floor.false)) c.word-2.ensures)
