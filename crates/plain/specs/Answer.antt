-- What the plain loop answers of a form, and of a record: what the reader refuses of it first, then a knot, then room.
-- Assumes nothing.
use Rattle.std.specs.Prelude.{◌≡◌, true, false, List, ℕ, ◌*◌, ltb, length, None, Some}
use Rattle.lists.specs.Pick.{pick}
use Rattle.answer.specs.Refused.{Verdict, fine}
use Rattle.answer.specs.declared.Refusal.TheVariants.{Knot, Room}
use Rattle.form.specs.declared.Form.{Form}
use Rattle.reader.specs.Reading.{read_form}
use Rattle.record.specs.ReadFirst.{read_first}
use Rattle.legal.specs.Loop.{Loop, loop_of, pair_of}
use Rattle.legal.specs.Systems.{knotted}
use Rattle.legal.specs.Handed.{Handed}
use Rattle.machine.specs.Plain.{PlainLoop}
use Rattle.machine.specs.Ended.{KeptFrom}
use Rattle.plain.specs.Outcome.{Looped}

-- the start table has 15 numbers for each node, the values one for each node and iteration
unfoldable pub room_of : ℕ → ℕ → ℕ → ℕ → Verdict
room_of nodes k starts values = pick (ltb starts (15 * nodes)) (Some (Room 0)) (pick (ltb values (k * nodes)) (Some (Room 1)) None)

unfoldable pub plain_of : Loop → ℕ → ℕ → ℕ → Verdict
plain_of g k starts values = pick (knotted g) (Some Knot) (room_of g.graph.nodes k starts values)

-- what is refused of the bytes, else of the loop that they hold, with tables of these lengths
unfoldable pub plain_record : List ℕ → ℕ → ℕ → ℕ → Verdict
plain_record s k starts values = read_first s (λ f. plain_of (loop_of f) k starts values)

-- the values of k iterations stand in the buffer, and its places past them are as they were
pub record LoopRan (g : Loop) (k : ℕ) (starts before after : List ℕ) : Type 0 where
  pub plain : PlainLoop g starts k after
  pub kept : KeptFrom (k * g.graph.nodes) before after

pub record FormLooped (f : Form) (k : ℕ) (starts before after : List ℕ) (r : Looped) : Type 0 where
  pub refusal : r.refusal ≡ plain_of (loop_of f) k (length starts) (length before)
  pub handed : Handed (loop_of f) (pair_of f) r.refusal r.cycle
  pub done : fine r.refusal ≡ true → LoopRan (loop_of f) k starts before after
  pub untouched : fine r.refusal ≡ false → after ≡ before

pub record RecordLooped (s : List ℕ) (k : ℕ) (starts before after : List ℕ) (r : Looped) : Type 0 where
  pub refusal : r.refusal ≡ plain_record s k (length starts) (length before)
  pub handed : Handed (loop_of (read_form s).form) (pair_of (read_form s).form) r.refusal r.cycle
  pub done : fine r.refusal ≡ true → LoopRan (loop_of (read_form s).form) k starts before after
  pub untouched : fine r.refusal ≡ false → after ≡ before
