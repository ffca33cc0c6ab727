-- How an answer tells the part that attains the floor: its number, and its class.
-- Assumes nothing.
use Rattle.std.specs.Prelude.{ℕ, Option, None, Some}
use Rattle.answer.specs.declared.Cycle.{Cycle}
use Rattle.answer.specs.Outcome.{no_cycle}
use Rattle.floor_part.specs.declared.Part.{Part as Told}
use Rattle.floor_part.specs.declared.Part.TheVariants as told
use Rattle.floor_part.specs.Parts.{Part}
use Rattle.floor_part.specs.Parts as part

-- the part's number among the answers, and its class
abbrev pub part_number : Part → ℕ
part_number part.None = 0
part_number part.Latency = 1
part_number (part.Units c) = 2
part_number part.Cycle = 3

abbrev pub part_class : Part → ℕ
part_class part.None = 0
part_class part.Latency = 0
part_class (part.Units c) = c
part_class part.Cycle = 0

-- a part that is told, without its cycle, and the cycle, if it is one
abbrev pub kind_of : Told → Part
kind_of told.Latency = part.Latency
kind_of (told.Units c) = part.Units c
kind_of (told.Cycle c) = part.Cycle

abbrev pub part_cycle : Told → Cycle
part_cycle told.Latency = no_cycle
part_cycle (told.Units c) = no_cycle
part_cycle (told.Cycle c) = c

-- the cycle that a part hands over: none, if it is none
abbrev pub cycle_in : Told → Option Cycle
cycle_in told.Latency = None
cycle_in (told.Units c) = None
cycle_in (told.Cycle c) = Some c
