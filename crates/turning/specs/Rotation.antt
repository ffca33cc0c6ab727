-- The first schedule, and rotation by z steps.
-- Assumes nothing.
use Rattle.std.specs.Prelude.{Bool, List, ℕ, ltb, replicate}
use Rattle.lists.specs.Pick.{pick}
use Rattle.form.specs.declared.Form.{Form}
use Rattle.legal.specs.Loop.{plain, loop_of, pair_of}
use Rattle.tables.specs.Times.{times_of}
use Rattle.fit.specs.Retimed.{retimings}
use Rattle.list_rule.specs.Rule.{start_number, length_of}
use Rattle.list_rule.specs.FirstLegal.{first_starts}
use Rattle.turning.specs.Turned.{gained_by}
use Rattle.turning.specs.TurnedLegal.{turned_starts}
use Rattle.plans.specs.Pairs.{with_pair}

-- the list rule with all retimings 0
unfoldable pub first_form : Form → Form
first_form f = with_pair f (first_starts (loop_of f)) (length_of (loop_of f) (first_starts (loop_of f))) (replicate 64 0)

module _ (f : Form) (z : ℕ) where
  -- nodes with start at most z gain 1; the others' starts drop by z and stay; the list rule places the rotated nodes
  unfoldable pub rotated_starts : List ℕ
  rotated_starts = turned_starts (loop_of f) (pair_of f) z (times_of f).start

  -- the length is taken anew
  unfoldable pub rotated_length : ℕ
  rotated_length = length_of (loop_of f) rotated_starts

  -- the retiming is fitted afresh
  unfoldable pub rotated : Form
  rotated =
      with_pair f rotated_starts rotated_length
      (retimings (loop_of f) (record { kind = plain; start = start_number rotated_starts; length = rotated_length; retiming = gained_by (pair_of f) z }))

  -- it would need more than 512 steps
  unfoldable pub too_long : Bool
  too_long = ltb 512 rotated_length

  -- the starts and the length alone
  unfoldable pub turned_form : Form
  turned_form = with_pair f rotated_starts rotated_length (replicate 64 0)

  -- no retiming is fitted to what is too long
  unfoldable pub rotated_or : Form
  rotated_or = pick too_long turned_form rotated
