-- Laws that the proofs of this crate share: buffers cleared, steps of bodies, the depth, the nodes placed in order.
-- Assumes nothing.
use mathlib.Core.Path.{◌≡◌, refl}
use mathlib.Core.List.{List}
use mathlib.Core.Logic.{◌≢◌}
use Prim.Native.Nat.{ℕ, ◌+◌, ◌*◌, ◌≤◌, ◌<◌}
use native.Mathlib.Omega.{arith}
use native.Mathlib.Numerals.{add-one}
use native.Mathlib.Nat.{mul-le-mul}
use borrow.Author.Rules.{rules}
use borrow.Author.Tests.{eq-eqb, ne_eqb, le-leb, lt-leb, le-ltb, lt-ltb}
use lib.ListN.{set, take}
use Rattle.lists.specs.Sums.{top-under}
use Rattle.form.specs.declared.Form.{Form}
use Rattle.form.specs.Places.{retiming_of}
use Rattle.form.specs.Ranges.{WellFormed}
use Rattle.legal.specs.Loop.{graph_of, loop_of, pair_of}
use Rattle.tables.specs.Most.{most_of}
use Rattle.machine.specs.Run.{depth, cleared}
use Rattle.run.specs.Order.{step_at, order_from}
use Rattle.run.specs.Repeat.{order}

pub ruleset tests = (rules, eq-eqb, ne_eqb, le-leb, lt-leb, le-ltb, lt-ltb)

-- ---- buffers cleared

pub cleared-none : (xs : List ℕ) → xs ≡ cleared 0 xs
unfolding cleared
cleared-none xs = refl

pub cleared_more : (i : ℕ) (xs ys : List ℕ) → ys ≡ cleared i xs → set ys i 0 ≡ cleared (i + 1) xs
unfolding cleared
cleared_more i xs ys e = rw (add-one i, e)

pub cleared-all : (i n : ℕ) (xs ys : List ℕ) → ys ≡ cleared i xs → i ≡ n → ys ≡ cleared n xs
cleared-all i n xs ys e q = rw (← q) e

-- ---- steps

pub body-steps : (j l : ℕ) → j ≤ 65598 → l ≤ 512 → j * l ≤ 33586176
body-steps j l a b = mul-le-mul a b

pub places-small : (k n : ℕ) → k ≤ 65535 → n ≤ 255 → k * n ≤ 16711425
places-small k n a b = mul-le-mul a b

-- every node starts in the body
pub starts-in : (f : Form) → WellFormed f → f.header.length ≢ 0 → (v : ℕ) → v < f.header.nodes → (1 ≤ step_at f.start v) × (step_at f.start v < 1 + f.header.length)
starts-in f w some v l =
    let s = (w.schedule some).starts v l in
    (s.begins, omega (arith, s.ends, (w.class _ (w.node v l)).latency.0))

pub start-few : (f : Form) → WellFormed f → f.header.length ≢ 0 → (v : ℕ) → v < f.header.nodes → step_at f.start v ≤ 512
start-few f w some v l = omega (arith, (starts-in f w some v l).1, w.length)

-- ---- the order and the depth

pub order-whole : (f : Form) (table : List ℕ) → take f.header.nodes table ≡ order_from (step_at f.start) f.header.nodes 1 f.header.length → take f.header.nodes table ≡ order (loop_of f) (pair_of f)
unfolding loop_of graph_of pair_of
order-whole f table e = e

pub depth-whole : (f : Form) (d : ℕ) → WellFormed f → f.header.length ≢ 0 → d ≡ most_of f.retiming f.header.nodes → (d ≡ depth (loop_of f) (pair_of f)) × (d ≤ 63)
unfolding most_of depth loop_of graph_of pair_of
depth-whole f d w some e = (e, omega (arith, e, top-under (retiming_of f) 63 f.header.nodes (λ u l. ((w.schedule some).starts u l).retiming)))
