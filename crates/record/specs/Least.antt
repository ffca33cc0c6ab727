-- "None is 0", by the test and by a place.
-- Assumes nothing.
use Rattle.std.specs.Prelude.{◌≡◌, refl, true, List, ◌≢◌, ℕ, zero, suc, ◌+◌, ◌≤◌, ◌<◌, eqb, get_or}
use Rattle.std.proofs.Common.{subst, arith, eqb-true, eq-eqb, ne_eqb}
use Rattle.std.proofs.lemmas.Bool.{eqb-false}
use Rattle.lists.specs.Pick.{pick_ind, pick_true, pick-false, both_ways}
use Rattle.form.specs.Places.{scheduled_of}
use Rattle.reader.specs.Reading.{zero_from, some_zero, normalized}

-- a place between two that is 0
pub record Zero (rs : List ℕ) (from past : ℕ) : Type 0 where
  pub place : ℕ
  pub after : from ≤ place
  pub before : place < past
  pub zero_there : get_or rs place 0 ≡ 0

zero-found : (left i : ℕ) (rs : List ℕ) → zero_from left i rs ≡ true → Zero rs i (i + left)
unfolding zero_from
zero-found zero i rs = λ e. both_ways e refl
zero-found (suc left) i rs =
    pick_ind (λ b. b ≡ true → Zero rs i (i + suc left)) (eqb (get_or rs i 0) 0) true (zero_from left (i + 1) rs)
    (λ e h. record { place = i; after = omega arith; before = omega arith; zero_there = eqb-true (get_or rs i 0) 0 e })
    (λ e h.
    let z : Zero rs (i + 1) (i + 1 + left) = zero-found left (i + 1) rs h in
    record { place = z.place; after = omega (arith, z.after); before = omega (arith, z.before); zero_there = z.zero_there })

zero-shown : (left i : ℕ) (rs : List ℕ) (v : ℕ) → i ≤ v → v < i + left → get_or rs v 0 ≡ 0 → zero_from left i rs ≡ true
unfolding zero_from
zero-shown zero i rs v l m z = absurd (omega arith)
zero-shown (suc left) i rs v l m z =
    pick_ind (λ b. b ≡ true) (eqb (get_or rs i 0) 0) true (zero_from left (i + 1) rs) (λ e. refl)
    (λ e.
    let ne : v ≢ i = λ q. eqb-false (get_or rs i 0) 0 e (subst (λ (k : ℕ). get_or rs k 0 ≡ 0) q z) in
    zero-shown left (i + 1) rs v (omega arith) (omega arith) z)

-- where the test passes there is a place that is 0, and the other way round
pub some-zero : (n : ℕ) (rs : List ℕ) → some_zero n rs ≡ true → (v : ℕ) × (v < n) × (get_or rs v 0 ≡ 0)
unfolding some_zero
some-zero n rs e = let z : Zero rs 0 (0 + n) = zero-found n 0 rs e in (z.place, omega (arith, z.before), z.zero_there)

-- a place that is 0 passes the test
pub zero-some : (n : ℕ) (rs : List ℕ) (v : ℕ) → v < n → get_or rs v 0 ≡ 0 → some_zero n rs ≡ true
unfolding some_zero
zero-some n rs v l z = zero-shown n 0 rs v (omega arith) (omega arith) z

-- with a schedule the test is of the retimings
pub normal-some : (last n : ℕ) (rs : List ℕ) → last ≢ 0 → normalized last n rs ≡ some_zero n rs
unfolding normalized
normal-some last n rs ne = pick-false (eqb last 0) true (some_zero n rs) (ne_eqb last 0 ne)

-- without a schedule the test passes
pub normal-none : (last n : ℕ) (rs : List ℕ) → last ≡ 0 → normalized last n rs ≡ true
unfolding normalized
normal-none last n rs e = pick_true (eqb last 0) true (some_zero n rs) (eq-eqb last 0 e)

-- with a schedule every node has a start
pub scheduled-all : (last n : ℕ) → last ≢ 0 → scheduled_of last n ≡ n
unfolding scheduled_of
scheduled-all last n ne = pick-false (eqb last 0) 0 n (ne_eqb last 0 ne)

-- without a schedule there is no start
pub scheduled-none : (last n : ℕ) → last ≡ 0 → scheduled_of last n ≡ 0
unfolding scheduled_of
scheduled-none last n e = pick_true (eqb last 0) 0 n (eq-eqb last 0 e)
