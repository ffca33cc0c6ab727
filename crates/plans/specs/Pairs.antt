-- A form with another pair, and its timetable with that pair.
-- Assumes nothing.
use Rattle.std.specs.Prelude.{◌≡◌, refl, get_or}
use Rattle.std.proofs.Math.Path.{sym, ap}
use Rattle.std.proofs.Common.{◌∙◌, arith}
use mathlib.Core.List.{List, [], ◌∷◌, map}
use Prim.Native.Nat.{ℕ, zero, suc, ◌≤◌}
use Rattle.std.proofs.Math.Decide.{dec_lt}
use Rattle.std.proofs.Math.ListN.{length}
use Rattle.std.proofs.Math.Seq.{ext_get_or}
use Rattle.lists.specs.Filled.{filled, filled_at, filled-past, filled-length}
use Rattle.form.specs.declared.Form.{Form}
use Rattle.form.specs.declared.BodyStep.{BodyStep}
use Rattle.form.specs.Places.{no_step, start_of, with_counts, with_starts}
use Rattle.legal.specs.Loop.{loop_of, graph_of}
use Rattle.tables.specs.declared.Timetable.{Timetable}
use Rattle.tables.specs.Times.{times_of}

abbrev pub as_body_step : ℕ → BodyStep
as_body_step n = record { 0 = n }

-- the form with the steps, length and retimings given
abbrev pub with_steps : Form → List BodyStep → ℕ → List ℕ → Form
with_steps f s l r = with_counts (with_starts f s r) f.header.classes f.header.nodes f.header.edges l

-- the form with the starts, length and retimings given
unfoldable pub with_pair : Form → List ℕ → ℕ → List ℕ → Form
with_pair f s l r = with_steps f (map as_body_step s) l r

-- the form with the pair of a timetable
unfoldable pub with_times : Form → Timetable → Form
with_times f t = with_pair f t.start t.length t.retiming

-- the timetable with the starts, length and retimings given
unfoldable pub times_with : Timetable → List ℕ → ℕ → List ℕ → Timetable
times_with t s l r = record {
  classes = t.classes;
  nodes = t.nodes;
  length = l;
  class = t.class;
  runs = t.runs;
  latency = t.latency;
  start = s;
  retiming = r;
}

-- g is f but for its pair, which its timetable holds
abbrev pub SameButPair : Form → Form → Type 0
SameButPair f g = g ≡ with_times f (times_of g)

-- a table of 64 starts, 0 past the first n
pub record StartTable (n : ℕ) (s : List ℕ) : Type 0 where
  pub long : length s ≡ 64
  pub past : (v : ℕ) → n ≤ v → ◌≡◌ {A = ℕ} (get_or s v 0) 0

-- a table of numbers as steps
pub step-at : (s : List ℕ) (v : ℕ) → (get_or (map as_body_step s) v no_step).0 ≡ get_or s v 0
step-at [] v = refl
step-at (x ∷ xs) zero = refl
step-at (x ∷ xs) (suc v) = step-at xs v

-- only its pair is another
pub pair-loop : (f : Form) (s : List ℕ) (l : ℕ) (r : List ℕ) → loop_of (with_pair f s l r) ≡ loop_of f
unfolding with_pair loop_of graph_of
pair-loop f s l r = refl

module _ (f : Form) (few : f.header.nodes ≤ 64) (s : List ℕ) (table : StartTable f.header.nodes s) (l : ℕ) (r : List ℕ) where
  starts-filled : filled 64 (start_of (with_pair f s l r)) f.header.nodes ≡ s
  unfolding with_pair
  starts-filled =
      let t : List ℕ = filled 64 (start_of (with_pair f s l r)) f.header.nodes in
      let same : length t ≡ length s = filled-length 64 (start_of (with_pair f s l r)) f.header.nodes few ∙ sym table.long in
      ext_get_or 0 t s same (λ v _.
      elim (dec_lt v f.header.nodes) [
        | yes h ↦ filled_at 64 (start_of (with_pair f s l r)) f.header.nodes v h ∙ step-at s v
        | no h ↦ filled-past 64 (start_of (with_pair f s l r)) f.header.nodes v (omega arith) ∙ sym (table.past v (omega arith))
      ])

  -- the timetable of a form with another pair
  pub pair-times : times_of (with_pair f s l r) ≡ times_with (times_of f) s l r
  unfolding times_of times_with with_pair
  pair-times = ap (λ (t : List ℕ). times_with (times_of f) t l r) starts-filled

  -- gives it back
  pub pair-back : SameButPair f (with_pair f s l r)
  unfolding with_times times_with
  pair-back = sym (ap (with_times f) pair-times)

-- another pair again
pub pair-next : (f g : Form) → g.header.nodes ≤ 64 → (s : List ℕ) → StartTable g.header.nodes s → (l : ℕ) (r : List ℕ) → SameButPair f g → SameButPair f (with_pair g s l r)
unfolding with_times times_with with_pair
pair-next f g few s table l r same =
    ap (λ (h : Form). with_pair h s l r) same ∙ sym (ap (with_times f) (pair-times g few s table l r))

pub same-loop : (f g : Form) → SameButPair f g → loop_of g ≡ loop_of f
unfolding with_times
same-loop f g same = ap loop_of same ∙ pair-loop f _ _ _
