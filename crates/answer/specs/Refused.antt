-- The number and the details that the scope's table gives each refusal.
-- Assumes nothing.
use Rattle.std.specs.Prelude.{◌≡◌, refl, Bool, true, false, ℕ, eqb, Option, None, Some}
use Rattle.answer.specs.declared.Refusal.{Refusal}
use Rattle.answer.specs.declared.Refusal.TheVariants.{Short, Mark, Version, Count, Machine, Node, Edge, Start, Retiming, Tail, Bare, Knot, Dependence, NoRetiming, Units, Size, Long, Room, Early, Busy}
use Rattle.answer.specs.declared.Details.{Details}

-- what is refused, if anything
abbrev pub Verdict : Type 0
Verdict = Option Refusal

-- its number in the table; 0 where nothing is refused
abbrev pub number_of : Verdict → ℕ
number_of None = 0
number_of (Some (Short a)) = 1
number_of (Some (Mark a)) = 2
number_of (Some (Version a)) = 3
number_of (Some (Count a)) = 4
number_of (Some (Machine a)) = 5
number_of (Some (Node a)) = 6
number_of (Some (Edge a)) = 7
number_of (Some (Start a)) = 8
number_of (Some (Retiming a)) = 9
number_of (Some (Tail a)) = 10
number_of (Some Bare) = 11
number_of (Some Knot) = 12
number_of (Some (Dependence a)) = 13
number_of (Some NoRetiming) = 14
number_of (Some (Units a b)) = 15
number_of (Some (Size a)) = 16
number_of (Some Long) = 17
number_of (Some (Room a)) = 18
number_of (Some (Early a b c)) = 19
number_of (Some (Busy a b c)) = 20

-- nothing is refused
unfoldable pub fine : Verdict → Bool
fine r = eqb (number_of r) 0

-- where nothing is refused it is fine, and a refusal is not
pub none_fine : fine None ≡ true
unfolding fine
none_fine = refl

pub refused_fine : (e : Refusal) → fine (Some e) ≡ false
unfolding fine
refused_fine (Short a) = refl
refused_fine (Mark a) = refl
refused_fine (Version a) = refl
refused_fine (Count a) = refl
refused_fine (Machine a) = refl
refused_fine (Node a) = refl
refused_fine (Edge a) = refl
refused_fine (Start a) = refl
refused_fine (Retiming a) = refl
refused_fine (Tail a) = refl
refused_fine Bare = refl
refused_fine Knot = refl
refused_fine (Dependence a) = refl
refused_fine NoRetiming = refl
refused_fine (Units a b) = refl
refused_fine (Size a) = refl
refused_fine Long = refl
refused_fine (Room a) = refl
refused_fine (Early a b c) = refl
refused_fine (Busy a b c) = refl

pub ruleset fines = (none_fine, refused_fine)

abbrev pub details : ℕ → ℕ → ℕ → Details
details a b c = record { first = a; second = b; third = c }

-- its details in the table's order, 0 where there are fewer
abbrev pub details_of : Verdict → Details
details_of None = details 0 0 0
details_of (Some (Short a)) = details a 0 0
details_of (Some (Mark a)) = details a 0 0
details_of (Some (Version a)) = details a 0 0
details_of (Some (Count a)) = details a 0 0
details_of (Some (Machine a)) = details a 0 0
details_of (Some (Node a)) = details a 0 0
details_of (Some (Edge a)) = details a 0 0
details_of (Some (Start a)) = details a 0 0
details_of (Some (Retiming a)) = details a 0 0
details_of (Some (Tail a)) = details a 0 0
details_of (Some Bare) = details 0 0 0
details_of (Some Knot) = details 0 0 0
details_of (Some (Dependence a)) = details a 0 0
details_of (Some NoRetiming) = details 0 0 0
details_of (Some (Units a b)) = details a b 0
details_of (Some (Size a)) = details a 0 0
details_of (Some Long) = details 0 0 0
details_of (Some (Room a)) = details a 0 0
details_of (Some (Early a b c)) = details a b c
details_of (Some (Busy a b c)) = details a b c
