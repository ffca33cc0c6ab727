-- Pigeonhole: of n + 1 numbers below n two are equal, and their places are found.
-- Assumes nothing.
use Rattle.std.specs.Prelude.{◌≡◌, ◌⊎◌, ◌≢◌, ℕ, zero, suc, ◌-◌, ◌≤◌, ◌<◌, min, max}
use Rattle.std.proofs.Common.{sym, ◌∙◌, ap, inl, inr, ⊎_elim, arith, not-suc-le-zero, eq-or-lt_of_le, le_of_suc-le-suc}
use Rattle.std.proofs.Math.Decide.{ℕ_discrete, dec_lt}

-- the place of x among the first n values, or that it is not there
place_of : (f : ℕ → ℕ) (x n : ℕ) → ((i : ℕ) × (i < n) × (f i ≡ x)) ⊎ ((i : ℕ) → i < n → f i ≢ x)
place_of f x zero = inr (λ i h e. not-suc-le-zero h)
place_of f x (suc n) = go (ℕ_discrete (f n) x) (place_of f x n)
  where
    go : Dec (f n ≡ x) → ((i : ℕ) × (i < n) × (f i ≡ x)) ⊎ ((i : ℕ) → i < n → f i ≢ x)
        → ((i : ℕ) × (i < suc n) × (f i ≡ x)) ⊎ ((i : ℕ) → i < suc n → f i ≢ x)
    go (yes e) r = inl (n, omega arith, e)
    go (no h) (inl w) = inl (w.0, omega arith, w.2)
    go (no h) (inr k) =
        inr (λ i l e. ⊎_elim (λ p. h (sym (ap f p) ∙ e)) (λ q. k i q e) (eq-or-lt_of_le (le_of_suc-le-suc l)))

pub record Twice (f : ℕ → ℕ) (n : ℕ) : Type 0 where
  pub early : ℕ
  pub late : ℕ
  pub early_lt : early < late
  pub late_le : late ≤ n
  pub same : f early ≡ f late

-- the numbers other than x, closed up
close : ℕ → ℕ → ℕ
close x y = min y (max x y - 1)

close-lt : (x y n : ℕ) → x ≤ n → y ≤ n → y ≢ x → close x y < n
unfolding close
close-lt x y n h k ne = omega arith

close-view : (x y : ℕ) → y ≢ x → ((y < x) × (close x y ≡ y)) ⊎ ((x < y) × (suc (close x y) ≡ y))
unfolding close
close-view x y ne = elim (dec_lt y x) [ yes h ↦ inl (h, omega arith) | no h ↦ inr (omega arith, omega arith) ]

close-inj' : (x y z a b : ℕ) → ((y < x) × (a ≡ y)) ⊎ ((x < y) × (suc a ≡ y)) → ((z < x) × (b ≡ z)) ⊎ ((x < z) × (suc b ≡ z)) → a ≡ b → y ≡ z
close-inj' x y z a b (inl p) (inl q) e = omega arith
close-inj' x y z a b (inl p) (inr q) e = omega arith
close-inj' x y z a b (inr p) (inl q) e = omega arith
close-inj' x y z a b (inr p) (inr q) e = omega arith

close-inj : (x y z : ℕ) → y ≢ x → z ≢ x → close x y ≡ close x z → y ≡ z
unfolding close
close-inj x y z ny nz e = close-inj' x y z (close x y) (close x z) (close-view x y ny) (close-view x z nz) e

-- f at places 0 .. n, all below n
pub pigeon : (n : ℕ) (f : ℕ → ℕ) → ((i : ℕ) → i ≤ n → f i < n) → Twice f n
pigeon zero f h = absurd (not-suc-le-zero (h 0 (omega arith)))
pigeon (suc n) f h = go (place_of f (f (suc n)) (suc n)) (λ g. pigeon n g)
  where
    go : ((i : ℕ) × (i < suc n) × (f i ≡ f (suc n))) ⊎ ((i : ℕ) → i < suc n → f i ≢ f (suc n))
        → ((g : ℕ → ℕ) → ((i : ℕ) → i ≤ n → g i < n) → Twice g n) → Twice f (suc n)
    go (inl w) r = record { early = w.0; late = suc n; early_lt = w.1; late_le = omega arith; same = w.2 }
    go (inr k) r =
        let x = f (suc n) in
        let t = r (λ i. close x (f i)) (λ i l. close-lt x (f i) n (omega (arith, h (suc n) (omega arith))) (omega (arith, h i (omega arith))) (k i (omega arith))) in
        record {
          early = t.early;
          late = t.late;
          early_lt = t.early_lt;
          late_le = omega arith;
          same = close-inj x (f t.early) (f t.late) (k t.early (omega arith)) (k t.late (omega arith)) t.same;
        }

-- among f at places 0 .. n two are equal, or all are apart
pub twice-or-apart : (f : ℕ → ℕ) (n : ℕ) → Twice f n ⊎ ((a b : ℕ) → a < b → b ≤ n → f a ≢ f b)
twice-or-apart f zero = inr (λ a b l m e. omega arith)
twice-or-apart f (suc n) = go (place_of f (f (suc n)) (suc n)) (twice-or-apart f n)
  where
    go : ((i : ℕ) × (i < suc n) × (f i ≡ f (suc n))) ⊎ ((i : ℕ) → i < suc n → f i ≢ f (suc n))
        → Twice f n ⊎ ((a b : ℕ) → a < b → b ≤ n → f a ≢ f b) → Twice f (suc n) ⊎ ((a b : ℕ) → a < b → b ≤ suc n → f a ≢ f b)
    go (inl w) r = inl (record { early = w.0; late = suc n; early_lt = w.1; late_le = omega arith; same = w.2 })
    go (inr k) (inl t) = inl (record { early = t.early; late = t.late; early_lt = t.early_lt; late_le = omega arith; same = t.same })
    go (inr k) (inr h) =
        inr (λ a b l m e. ⊎_elim (λ q. k a (omega arith) (e ∙ ap f q)) (λ q. h a b l (le_of_suc-le-suc q) e) (eq-or-lt_of_le m))
