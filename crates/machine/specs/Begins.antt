-- Where a run begins: the first places of its buffers cleared, nothing issued; and how it goes on.
-- Assumes nothing.
use Rattle.std.specs.Prelude.{◌≡◌, refl, true, List, ℕ, zero, suc, ◌+◌, ◌*◌, ◌≤◌, ◌<◌, length, get_or, None}
use Rattle.std.proofs.Common.{◌∙◌, ⊎_elim, arith, eq-or-lt_of_le, le_of_suc-le-suc, length-set, get_or-set_same, get_or-set_other}
use Rattle.lists.specs.Quotient.{rows-below}
use Rattle.answer.specs.Refused.{fine}
use Rattle.legal.specs.Loop.{Loop, Pair}
use Rattle.legal.specs.Shape.{Sound, Starting}
use Rattle.machine.specs.Values.{place_of}
use Rattle.machine.specs.Run.{Machine, visit, cleared}
use Rattle.machine.specs.Moments.{issue_step, moment, step-within}
use Rattle.machine.specs.Visits.{visited}
use Rattle.machine.specs.Sofar.{Sofar}
use Rattle.machine.specs.Issued.{visited-keeps}

pub cleared-length : (n : ℕ) (xs : List ℕ) → length (cleared n xs) ≡ length xs
unfolding cleared
cleared-length zero xs = refl
cleared-length (suc n) xs = length-set (cleared n xs) n 0 ∙ cleared-length n xs

pub cleared_at : (n : ℕ) (xs : List ℕ) (x : ℕ) → x < n → n ≤ length xs → get_or (cleared n xs) x 0 ≡ 0
unfolding cleared
cleared_at zero xs x l h = absurd (omega arith)
cleared_at (suc n) xs x l h =
    ⊎_elim
    (λ e. rw e (get_or-set_same (cleared n xs) n 0 0 (omega (arith, cleared-length n xs))))
    (λ e. get_or-set_other (cleared n xs) n x 0 0 (omega arith) ∙ cleared_at n xs x e (omega arith))
    (eq-or-lt_of_le (le_of_suc-le-suc l))

pub cleared-rest : (n : ℕ) (xs : List ℕ) (x : ℕ) → n ≤ x → get_or (cleared n xs) x 0 ≡ get_or xs x 0
unfolding cleared
cleared-rest zero xs x h = refl
cleared-rest (suc n) xs x h = get_or-set_other (cleared n xs) n x 0 0 (omega arith) ∙ cleared-rest n xs x (omega arith)

-- the machine that a run begins with
unfoldable pub blank : Loop → ℕ → List ℕ → List ℕ → Machine
blank g k values finish = record { values = cleared (k * g.graph.nodes) values; finish = cleared (k * g.graph.nodes) finish; refusal = None }

module _ (g : Loop) (p : Pair) (s : Sound g) (b : Starting g p) (starts : List ℕ) (k : ℕ) (values finish : List ℕ)
    (room : k * g.graph.nodes ≤ length values) (room' : k * g.graph.nodes ≤ length finish) where
  -- no moment comes before the first step
  moment-late : (i v : ℕ) → i < k → v < g.graph.nodes → g.graph.nodes ≤ moment g p i v
  unfolding moment
  moment-late i v one l = omega (arith, rows-below 0 (issue_step g p i v) g.graph.nodes (step-within g p s b starts k i v one l).0)

  -- before it nothing is issued
  pub begins : Sofar g p starts k (blank g k values finish) g.graph.nodes (blank g k values finish)
  unfolding blank
  begins = record {
    values_length = refl;
    finish_length = refl;
    done = λ i v one l h. absurd (omega (arith, moment-late i v one l));
    undone = λ i v one l h. record {
      no_finish = cleared_at (k * g.graph.nodes) finish (place_of g starts i v) (omega (arith, rows-below i k g.graph.nodes one)) room';
      no_value = cleared_at (k * g.graph.nodes) values (place_of g starts i v) (omega (arith, rows-below i k g.graph.nodes one)) room;
    };
    rest_values = λ x h. refl;
    rest_finish = λ x h. refl;
  }

  blank-room : k * g.graph.nodes ≤ length (blank g k values finish).values
  unfolding blank
  blank-room = omega (arith, cleared-length (k * g.graph.nodes) values)

  blank-room' : k * g.graph.nodes ≤ length (blank g k values finish).finish
  unfolding blank
  blank-room' = omega (arith, cleared-length (k * g.graph.nodes) finish)

  -- what holds before a visit that goes on holds after it
  pub keeps : (t v : ℕ) (m : Machine) → 1 ≤ t → v < g.graph.nodes → fine m.refusal ≡ true → fine (visit g p starts k t m v).refusal ≡ true
      → Sofar g p starts k (blank g k values finish) (t * g.graph.nodes + v) m
      → Sofar g p starts k (blank g k values finish) (suc (t * g.graph.nodes + v)) (visit g p starts k t m v)
  keeps t v m one l before after f =
      visited-keeps g p s b starts k (blank g k values finish) blank-room blank-room' t v m l f one _ (visited g p starts k t v m before) after
