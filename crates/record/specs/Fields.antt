-- A field that was taken at a known offset: its number, its range and where reading goes on.
-- Assumes nothing.
use Rattle.std.specs.Prelude.{◌≡◌, true, List, ◌∷◌, ℕ, suc, ◌+◌, ◌≤◌, ◌<◌, length, take, drop}
use Rattle.std.proofs.Common.{ap, ◌∙◌, mul-zero, add-zero, arith, drop-cons}
use Rattle.answer.specs.Refused.{fine}
use Rattle.field.specs.declared.Kind.{Kind}
use Rattle.field.specs.Outcome.{Cursor, Taken}
use Rattle.field.specs.Number.{number_at}
use Rattle.field.specs.Taking.{taken, onward}
use Rattle.field.specs.Laws.{GoodField, good}

-- what is known of a field that is not refused, at its offset
pub record Got (s : List ℕ) (at to width low high : ℕ) (t : Taken) : Type 0 where
  pub room : at + width ≤ length s
  pub at_least : low ≤ t.value
  pub at_most : t.value ≤ high
  pub number : t.value ≡ number_at width s at
  pub next : t.next ≡ onward to

module _ (s : List ℕ) (c : Cursor) (width low high : ℕ) (kind : Kind) (f : fine (taken s c width low high kind).next.refusal ≡ true) where
  -- a field that is not refused comes after none that was
  pub begun : fine c.refusal ≡ true
  begun = (good s c width low high kind f).begun

  -- a field that is not refused holds the number at its offset
  pub got : (at to : ℕ) → c ≡ onward at → at + width ≡ to → Got s at to width low high (taken s c width low high kind)
  got at to e n =
      let g : GoodField s c width low high (taken s c width low high kind) = good s c width low high kind f in
      let a : c.at ≡ at = ap (λ (k : Cursor). k.at) e in
      record {
        room = omega (arith, g.room);
        at_least = g.at_least;
        at_most = g.at_most;
        number = g.number ∙ rw a;
        next = g.next ∙ rw (a, n);
      }

-- a slice begins with its first byte
pub slice-cons : (s : List ℕ) (at n : ℕ) → at < length s → take (suc n) (drop at s) ≡ number_at 1 s at ∷ take n (drop (suc at) s)
unfolding number_at
slice-cons s at n l = rw (drop-cons s at 0 l, mul-zero, add-zero)
