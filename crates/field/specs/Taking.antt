-- A field taken at a cursor: incomplete it is Short, out of range the refusal of its kind, at its offset; after a refusal nothing is taken.
-- Assumes nothing.
use Rattle.std.specs.Prelude.{◌≡◌, List, ℕ, ◌+◌, ◌≤◌, ltb, length, None, Some, Result, IfOk}
use Rattle.lists.specs.Pick.{pick}
use Rattle.answer.specs.Refused.{Verdict, fine}
use Rattle.answer.specs.declared.Refusal.{Refusal}
use Rattle.answer.specs.declared.Refusal.TheVariants as refusal
use Rattle.field.specs.declared.Kind.{Kind}
use Rattle.field.specs.declared.Kind.TheVariants.{Mark, Version, Count, Machine, Node, Edge, Start, Retiming}
use Rattle.field.specs.Outcome.{Cursor, Taken, taken_in}
use Rattle.field.specs.Number.{number_at}

-- the refusal of a field of a kind that is out of range, at its offset
abbrev pub wrong_at : Kind → ℕ → Verdict
wrong_at Mark at = Some (refusal.Mark at)
wrong_at Version at = Some (refusal.Version at)
wrong_at Count at = Some (refusal.Count at)
wrong_at Machine at = Some (refusal.Machine at)
wrong_at Node at = Some (refusal.Node at)
wrong_at Edge at = Some (refusal.Edge at)
wrong_at Start at = Some (refusal.Start at)
wrong_at Retiming at = Some (refusal.Retiming at)

-- a cursor from which reading goes on
abbrev pub onward : ℕ → Cursor
onward at = record { at = at; refusal = None }

abbrev pub stopped_at : ℕ → Verdict → Taken
stopped_at at r = record { value = 0; next = record { at = at; refusal = r } }

unfoldable pub taken : List ℕ → Cursor → ℕ → ℕ → ℕ → Kind → Taken
taken s c width low high kind =
    pick (fine c.refusal)
    (pick (ltb (length s) (c.at + width)) (stopped_at c.at (Some (refusal.Short c.at)))
    (pick (ltb (number_at width s c.at) low) (stopped_at c.at (wrong_at kind c.at))
    (pick (ltb high (number_at width s c.at)) (stopped_at c.at (wrong_at kind c.at))
    (record { value = number_at width s c.at; next = onward (c.at + width) }))))
    (record { value = 0; next = c })

-- a field taken at an offset, or refused there, with the bound that its user needs
pub record Took (s : List ℕ) (at width low high : ℕ) (kind : Kind) (r : Result ℕ Refusal) : Type 0 where
  pub is : taken_in at width r ≡ taken s (onward at) width low high kind
  pub small : IfOk r (λ v. v ≤ high)
