-- What is refused of a first schedule and of a rotation, and the form rotated.
-- Assumes nothing.
use Rattle.std.specs.Prelude.{Bool, ◌&&◌, ℕ, ltb, None, Some}
use Rattle.lists.specs.Pick.{pick}
use Rattle.answer.specs.Refused.{Verdict, fine}
use Rattle.answer.specs.declared.Refusal.TheVariants.{Knot, Size, Long}
use Rattle.form.specs.declared.Form.{Form}
use Rattle.legal.specs.Loop.{loop_of}
use Rattle.legal.specs.Systems.{knotted}
use Rattle.legal.specs.Judging.{judge_of}
use Rattle.turning.specs.Rotation.{rotated, too_long}

-- the first schedule: only a knot is refused
unfoldable pub first_asked : Form → Verdict
first_asked f = pick (knotted (loop_of f)) (Some Knot) None

-- z steps can be rotated: z is from 1 to the length less 1
unfoldable pub turns : ℕ → ℕ → Bool
turns z l = ltb 0 z && ltb z l

-- a rotation: what the judge refuses, then Size, then Long
unfoldable pub rotate_asked : ℕ → Form → Verdict
rotate_asked z f = pick (fine (judge_of f)) (pick (turns z f.header.length) (pick (too_long f z) (Some Long) None) (Some (Size z))) (judge_of f)

abbrev pub rotated_by : ℕ → Form → Form
rotated_by z f = rotated f z
