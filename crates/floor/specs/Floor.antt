-- The floor of a form: Knot, else the largest part, the first part that attains it, and with (c) a cycle that breaks the length below.
-- Assumes nothing.
use Rattle.std.specs.Prelude.{◌≡◌, ◌≢◌, List, ℕ, ◌-◌, eqb, None, Some}
use Rattle.lists.specs.Pick.{pick}
use Rattle.lists.specs.First.{first_from}
use Rattle.answer.specs.Refused.{Verdict, fine}
use Rattle.answer.specs.Outcome.{no_cycle, edges_of}
use Rattle.answer.specs.Tally.{Tallies}
use Rattle.answer.specs.declared.Refusal.TheVariants as refusal
use Rattle.form.specs.declared.Form.{Form}
use Rattle.reader.specs.Reading.{read_form}
use Rattle.record.specs.ReadFirst.{read_first}
use Rattle.system.specs.System.{Losing}
use Rattle.legal.specs.Loop.{Loop, loop_of}
use Rattle.legal.specs.Legal.{Knot}
use Rattle.legal.specs.Systems.{knotted, paces}
use Rattle.floor_part.specs.Parts.{Part}
use Rattle.floor_part.specs.Parts as part
use Rattle.floor.specs.Outcome.{Floored}
use Rattle.floor.specs.Parts.{latency_part, units_part, units_parts, floor_length}

-- the first of a, b, c that attains the floor, b with the lowest class
unfoldable pub part_of : Loop → Part
part_of g =
    pick (eqb (latency_part g) (floor_length g)) part.Latency
    (pick (eqb (units_parts g) (floor_length g))
    (part.Units (first_from (λ c. eqb (units_part g c) (floor_length g)) g.classes 0))
    part.Cycle)

-- what is refused of a form
unfoldable pub floor_refusal : Form → Verdict
floor_refusal f = pick (knotted (loop_of f)) (Some refusal.Knot) None

-- the cycle handed over: a knot with Knot, with part c a cycle that the length below the floor is too short for, else none
pub record FloorCycle (g : Loop) (r : Floored) : Type 0 where
  pub knot : r.refusal ≡ Some refusal.Knot → Knot g (edges_of r.cycle)
  pub breaks : r.part ≡ part.Cycle → Losing (paces g (floor_length g - 1)) (edges_of r.cycle)
  pub none : r.refusal ≢ Some refusal.Knot → r.part ≢ part.Cycle → r.cycle ≡ no_cycle
  pub tallies : Tallies r.cycle

pub record FormFloored (f : Form) (r : Floored) : Type 0 where
  pub refusal : r.refusal ≡ floor_refusal f
  pub floor : r.floor ≡ pick (fine r.refusal) (floor_length (loop_of f)) 0
  pub part : r.part ≡ pick (fine r.refusal) (part_of (loop_of f)) part.None
  pub cycle : FloorCycle (loop_of f) r

-- what is refused of the bytes, else of the form that they hold
unfoldable pub floor_record : List ℕ → Verdict
floor_record s = read_first s floor_refusal

pub record RecordFloored (s : List ℕ) (r : Floored) : Type 0 where
  pub refusal : r.refusal ≡ floor_record s
  pub floor : r.floor ≡ pick (fine r.refusal) (floor_length (loop_of (read_form s).form)) 0
  pub part : r.part ≡ pick (fine r.refusal) (part_of (loop_of (read_form s).form)) part.None
  pub cycle : FloorCycle (loop_of (read_form s).form) r
