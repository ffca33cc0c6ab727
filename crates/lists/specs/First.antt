-- The first number of a run that passes a test.
-- Assumes nothing.
use Rattle.std.specs.Prelude.{◌≡◌, Bool, true, false, ℕ, zero, suc, ◌+◌, ◌-◌, ◌≤◌, ◌<◌}
use Rattle.std.proofs.Common.{sym, ◌∙◌, true≢false, ⊎_elim, arith, eq-or-lt_of_le}
use Rattle.std.proofs.Math.Decide.{dec_lt}
use Rattle.lists.specs.Pick.{pick, pick_ind}

-- of so many numbers from i on the first that passes; the number past them where none does
unfoldable pub first_from : (ℕ → Bool) → ℕ → ℕ → ℕ
first_from test zero i = i
first_from test (suc left) i = pick (test i) i (first_from test left (i + 1))

-- what the first one tells: it is in the run or just past it, it passes if it is in it, and none before it does
pub record First (test : ℕ → Bool) (left i k : ℕ) : Type 0 where
  pub from : i ≤ k
  pub to : k ≤ i + left
  pub passes : k < i + left → test k ≡ true
  pub before : (j : ℕ) → i ≤ j → j < k → test j ≡ false

pub first-is : (test : ℕ → Bool) (left i : ℕ) → First test left i (first_from test left i)
unfolding first_from
first-is test zero i = record { from = omega arith; to = omega arith; passes = λ h. absurd (omega arith); before = λ j a b. absurd (omega arith) }
first-is test (suc left) i =
    pick_ind (First test (suc left) i) (test i) i (first_from test left (i + 1))
    (λ e. record { from = omega arith; to = omega arith; passes = λ h. e; before = λ j a b. absurd (omega arith) })
    (λ e. later e (first-is test left (i + 1)))
  where
    later : test i ≡ false → First test left (i + 1) (first_from test left (i + 1)) → First test (suc left) i (first_from test left (i + 1))
    later e f = record {
      from = omega arith;
      to = omega arith;
      passes = λ h. f.passes (omega arith);
      before = λ j a b. ⊎_elim (λ q. rw (← q) e) (λ q. f.before j (omega arith) b) (eq-or-lt_of_le a);
    }

-- a loop's turn: number i of n fails, or it is the first
pub first_next : (test : ℕ → Bool) (n i : ℕ) (whole : ℕ) → i < n → test i ≡ false → first_from test (n - i) i ≡ whole → first_from test (n - (i + 1)) (i + 1) ≡ whole
unfolding first_from pick
first_next test n i whole h f e =
    let left : n - i ≡ suc (n - (i + 1)) = omega arith in
    simp f at (rw left at e)

pub first-here : (test : ℕ → Bool) (n i : ℕ) (whole : ℕ) → i < n → test i ≡ true → first_from test (n - i) i ≡ whole → i ≡ whole
unfolding first_from pick
first-here test n i whole h f e =
    let left : n - i ≡ suc (n - (i + 1)) = omega arith in
    simp f at (rw left at e)

pub first-end : (test : ℕ → Bool) (n i : ℕ) (whole : ℕ) → n ≤ i → first_from test (n - i) i ≡ whole → i ≡ whole
unfolding first_from
first-end test n i whole h e =
    let left : n - i ≡ 0 = omega arith in
    rw left at e

-- a number of the run that passes, with none before it, is the first
pub first-only : (test : ℕ → Bool) (left i j : ℕ) → i ≤ j → j < i + left → test j ≡ true → ((k : ℕ) → i ≤ k → k < j → test k ≡ false) → first_from test left i ≡ j
first-only test left i j from to passes before = go (first-is test left i) (dec_lt (first_from test left i) j) (dec_lt j (first_from test left i))
  where
    go : First test left i (first_from test left i) → Dec (first_from test left i < j) → Dec (j < first_from test left i) → first_from test left i ≡ j
    go f (yes l) d = absurd (true≢false (sym (f.passes (omega arith)) ∙ before (first_from test left i) f.from l))
    go f (no l) (yes m) = absurd (true≢false (sym passes ∙ f.before j from m))
    go f (no l) (no m) = omega arith

-- where none of the run passes, the first is past it
pub first_past : (test : ℕ → Bool) (left i : ℕ) → ((k : ℕ) → i ≤ k → k < i + left → test k ≡ false) → first_from test left i ≡ i + left
first_past test left i fails = go (first-is test left i) (dec_lt (first_from test left i) (i + left))
  where
    go : First test left i (first_from test left i) → Dec (first_from test left i < i + left) → first_from test left i ≡ i + left
    go f (yes l) = absurd (true≢false (sym (f.passes l) ∙ fails (first_from test left i) f.from l))
    go f (no l) = omega (arith, f.to)
