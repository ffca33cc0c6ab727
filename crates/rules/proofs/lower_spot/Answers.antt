-- `rules::lower_spot` meets its contract: not lower, not overfull, or the spot.
-- Assumes nothing.
use mathlib.Core.Path.{◌≡◌, ◌∙◌, ap}
use native.Mathlib.Omega.{arith}
use lib.ListN.{get_or}
use Rattle.form.specs.Places.{no_class}
use Rattle.form.specs.Hold.{hold}
use Rattle.rules.specs.Busy.{busy_in}
use Rattle.rules.specs.Lowest.{lower-none, lower-fits, lower-full}
use Rattle.rules.proofs.lower_spot.Goals.{After-busy_in-busy}
use Rattle.rules.proofs.lower_spot.Goals as goal

pub returns-then-lowest-here : goal.returns-then-lowest-here
returns-then-lowest-here c = lower-none _ _ _ _ _ _ _ _ _ 0 c.spot-here.ensures.0 (omega arith)

-- what the step holds of the class
counted : (c : After-busy_in-busy) → c.busy_in-busy.result ≡ busy_in c.args.times.now.length c.args.times.now.runs c.args.times.now.start c.args.number (hold (get_or c.args.times.now.class c.args.number no_class)) c.args.step c.args.times.now.nodes
counted c =
    c.busy_in-busy.ensures ∙ ap (λ x. busy_in c.args.times.now.length c.args.times.now.runs c.args.times.now.start c.args.number x c.args.step c.args.times.now.nodes) c.hold_of.ensures

pub returns-then-busy-units : goal.returns-then-busy-units
returns-then-busy-units c =
    lower-fits _ _ _ _ _ _ _ _ _ _ c.spot-here.ensures.0 (counted (goal.at.returns-then-busy-units c).After-busy_in-busy) (omega arith)

pub returns : goal.returns
returns c =
    lower-full _ _ _ _ _ _ _ _ _ _ c.spot-here.ensures.0 (counted (goal.at.returns c).After-busy_in-busy) (omega arith) (omega arith)
