-- Two answers that tell the same are the same: what Demand1 settles of what a contract speaks of, it settles of what comes back.
-- The contracts speak of a cycle, which is empty where none is handed over; a refusal hands over none, or one that has an edge.
-- Assumes nothing.
use Rattle.std.specs.Prelude.{◌≡◌, refl, ℕ, ◌<◌, Option, None, Some, Result, Ok, Err}
use Rattle.std.specs.Option.{ForSome}
use Rattle.std.proofs.Common.{◌∙◌, ap, arith}
use Rattle.answer.specs.Outcome.{cycle_or}
use Rattle.answer.specs.declared.Cycle.{Cycle}
use Rattle.answer.specs.declared.Refused.{Refused}
use Rattle.judge.specs.Outcome.{Ruling, judged_in}
use Rattle.plans.specs.declared.Rewritten.{Rewritten}
use Rattle.plans.specs.Outcome.{Scheduled, scheduled_in}
use Rattle.floor_part.specs.declared.Part.{Part}
use Rattle.floor_part.specs.declared.Part.TheVariants as part
use Rattle.floor_part.specs.Numbers.{kind_of, part_cycle}
use Rattle.floor.specs.declared.Attained.{Attained}
use Rattle.floor.specs.Outcome.{Floored, floored_in}
use Rattle.plain.specs.Outcome.{Looped, looped_in}

same-cycle : (x y : Option Cycle) → ForSome x (λ c. 0 < c.count) → ForSome y (λ c. 0 < c.count) → cycle_or x ≡ cycle_or y → x ≡ y
same-cycle None None h k e = refl
same-cycle None (Some d) h k e = absurd (omega (arith, k d refl, ap (λ (c : Cycle). c.count) e))
same-cycle (Some c) None h k e = absurd (omega (arith, h c refl, ap (λ (c : Cycle). c.count) e))
same-cycle (Some c) (Some d) h k e = ap Some e

-- two refusals
abbrev pub Alike : Refused → Refused → Type 0
Alike d e = (d.refusal ≡ e.refusal) × (d.cycle ≡ e.cycle)

pub refused-once : (d e : Refused) → Some d.refusal ≡ Some e.refusal → cycle_or d.cycle ≡ cycle_or e.cycle → Alike d e
refused-once d e same cycle = (cc, same-cycle d.cycle e.cycle d.handed e.handed cycle)

-- two outcomes
abbrev pub SameOutcome : {T : Type 0} → Result T Refused → Result T Refused → Type 0
SameOutcome (Ok x) (Ok y) = x ≡ y
SameOutcome (Ok x) (Err e) = ⊥
SameOutcome (Err d) (Ok y) = ⊥
SameOutcome (Err d) (Err e) = Alike d e

-- judging
pub judged-once : (a b : Result Unit Refused) → judged_in a ≡ judged_in b → SameOutcome a b
judged-once (Ok x) (Ok y) e = refl
judged-once (Ok x) (Err d) e = let z : None ≡ Some d.refusal = ap (λ (r : Ruling). r.refusal) e in cc
judged-once (Err d) (Ok y) e = let z : Some d.refusal ≡ None = ap (λ (r : Ruling). r.refusal) e in cc
judged-once (Err c) (Err d) e = refused-once c d (ap (λ (r : Ruling). r.refusal) e) (ap (λ (r : Ruling). r.cycle) e)

-- the plain loop
pub looped-once : (a b : Result Unit Refused) → looped_in a ≡ looped_in b → SameOutcome a b
looped-once (Ok x) (Ok y) e = refl
looped-once (Ok x) (Err d) e = let z : None ≡ Some d.refusal = ap (λ (r : Looped). r.refusal) e in cc
looped-once (Err d) (Ok y) e = let z : Some d.refusal ≡ None = ap (λ (r : Looped). r.refusal) e in cc
looped-once (Err c) (Err d) e = refused-once c d (ap (λ (r : Looped). r.refusal) e) (ap (λ (r : Looped). r.cycle) e)

-- fits, first schedules, rotations and searches
abbrev rewritten : ℕ → ℕ → Rewritten
rewritten size rotations = record { size = size; rotations = rotations }

pub scheduled-once : (a b : Result Rewritten Refused) → scheduled_in a ≡ scheduled_in b → SameOutcome a b
scheduled-once (Ok x) (Ok y) e = ap (λ (n : ℕ). rewritten n x.rotations) (ap (λ (r : Scheduled). r.size) e) ∙ ap (rewritten y.size) (ap (λ (r : Scheduled). r.rotations) e)
scheduled-once (Ok x) (Err d) e = let z : None ≡ Some d.refusal = ap (λ (r : Scheduled). r.refusal) e in cc
scheduled-once (Err d) (Ok y) e = let z : Some d.refusal ≡ None = ap (λ (r : Scheduled). r.refusal) e in cc
scheduled-once (Err c) (Err d) e = refused-once c d (ap (λ (r : Scheduled). r.refusal) e) (ap (λ (r : Scheduled). r.cycle) e)

-- floors
same-part : (x y : Part) → kind_of x ≡ kind_of y → part_cycle x ≡ part_cycle y → x ≡ y
same-part part.Latency part.Latency e c = refl
same-part part.Latency (part.Units m) e c = cc
same-part part.Latency (part.Cycle d) e c = cc
same-part (part.Units n) part.Latency e c = cc
same-part (part.Units n) (part.Units m) e c = cc
same-part (part.Units n) (part.Cycle d) e c = cc
same-part (part.Cycle b) part.Latency e c = cc
same-part (part.Cycle b) (part.Units m) e c = cc
same-part (part.Cycle b) (part.Cycle d) e c = ap part.Cycle c

abbrev attained : ℕ → Part → Attained
attained floor x = record { floor = floor; part = x }

pub floored-once : (a b : Result Attained Refused) → floored_in a ≡ floored_in b → SameOutcome a b
floored-once (Ok x) (Ok y) e =
    ap (λ (n : ℕ). attained n x.part) (ap (λ (r : Floored). r.floor) e) ∙ ap (attained y.floor) (same-part x.part y.part (ap (λ (r : Floored). r.part) e) (ap (λ (r : Floored). r.cycle) e))
floored-once (Ok x) (Err d) e = let z : None ≡ Some d.refusal = ap (λ (r : Floored). r.refusal) e in cc
floored-once (Err d) (Ok y) e = let z : Some d.refusal ≡ None = ap (λ (r : Floored). r.refusal) e in cc
floored-once (Err c) (Err d) e = refused-once c d (ap (λ (r : Floored). r.refusal) e) (ap (λ (r : Floored). r.cycle) e)
