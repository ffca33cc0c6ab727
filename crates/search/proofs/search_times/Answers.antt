-- `search::search_times` meets its contract: the rest of the search equals the whole.
-- Assumes nothing.
use mathlib.Core.Path.{◌≡◌, subst}
use Prim.Native.Nat.{ℕ}
use native.Mathlib.Omega.{arith}
use borrow.Author.Rules.{rules}
use Rattle.search.specs.Searching.{Answers}
use Rattle.search.proofs.Going.{begun_first, going-none, going-some, going_end, going-zero, going-turnable, going-long, going-turn}
use Rattle.search.proofs.search_times.Goals as goal

pub loop-rotations-init : goal.loop-rotations-init
loop-rotations-init c f k = going-none f _ _ _ _ _ k _ _ (search rules)

pub halve-steps-requires : goal.halve-steps-requires
halve-steps-requires c =
    let b = begun_first c.requires.0 _ _ _ _ _ c.requires.1 _ (c.first_times-now.ensures c.requires.0 c.requires.1) in
    going-some c.requires.0 _ _ _ _ _ _ (c.loop-rotations.invariant c.requires.0 b)

pub rotate_times-turned-requires : goal.rotate_times-turned-requires
rotate_times-turned-requires c =
    let b = begun_first c.requires.0 _ _ _ _ _ c.requires.1 _ (c.first_times-now.ensures c.requires.0 c.requires.1) in
    let g = c.loop-rotations.invariant c.requires.0 b in
    (g.at_hand, going-turnable c.requires.0 _ _ _ _ _ _ g _ c.halve-steps.ensures (λ e. omega (arith, e, c.if-steps-eq0.false)) _ _ _ _ _ b)

pub loop-rotations-preserved : goal.loop-rotations-preserved
loop-rotations-preserved c f b =
    let g = c.loop-rotations.invariant f b in
    let turns = going-turnable f _ _ _ _ _ _ g _ c.halve-steps.ensures (λ e. omega (arith, e, c.if-steps-eq0.false)) _ _ _ _ _ b in
    going-turn f _ _ _ _ _ _ g _ c.halve-steps.ensures _ (c.rotate_times-turned.ensures g.at_hand turns) (λ e. omega (arith, e, c.if-steps-eq0.false))
    (omega (arith, c.if-long.false)) (omega (arith, c.loop-rotations-test.true)) _ c.shorter_of-best.ensures _ (omega arith)

pub returns : goal.returns
returns c f k =
    let b = begun_first f _ _ _ _ _ k _ (c.first_times-now.ensures f k) in
    let all : c.loop-rotations.rotations ≡ c.args.count = omega arith in
    let ends = going_end f _ _ _ _ _ _ (c.loop-rotations.invariant f b) (omega arith) in
    rw (c.found-2.ensures.0, c.found-2.ensures.1) (subst (λ (n : ℕ). Answers f c.args.count c.args.size c.loop-rotations.best n) all ends)

pub returns-then-steps-eq0 : goal.returns-then-steps-eq0
returns-then-steps-eq0 c f k =
    let b = begun_first f _ _ _ _ _ k _ (c.first_times-now.ensures f k) in
    rw (c.found.ensures.0, c.found.ensures.1) (going-zero f _ _ _ _ _ _ (c.loop-rotations.invariant f b) _ c.halve-steps.ensures (omega (arith, c.loop-rotations-test.true)) (omega (arith, c.if-steps-eq0.true)))

pub returns-then-long : goal.returns-then-long
returns-then-long c f k =
    let b = begun_first f _ _ _ _ _ k _ (c.first_times-now.ensures f k) in
    let g = c.loop-rotations.invariant f b in
    let turns = going-turnable f _ _ _ _ _ _ g _ c.halve-steps.ensures (λ e. omega (arith, e, c.if-steps-eq0.false)) _ _ _ _ _ b in
    rw (c.found-then-long.ensures.0, c.found-then-long.ensures.1) (going-long f _ _ _ _ _ _ g _ c.halve-steps.ensures _ (c.rotate_times-turned.ensures g.at_hand turns) (omega (arith, c.loop-rotations-test.true)) (omega (arith, c.if-long.true)))
