-- `plain::plain_form` meets its contract: a knot, room, then the loop.
-- Assumes nothing.
use mathlib.Core.Path.{◌≡◌, refl}
use mathlib.Core.Bool.{false}
use native.Mathlib.Omega.{arith}
use lib.ListN.{get_or}
use borrow.Author.Rules.{rules}
use Rattle.std.proofs.lemmas.Result.{err_from_is_err_and}
use Rattle.answer.specs.Refused.{none_fine, refused_fine}
use Rattle.legal.specs.Loop.{loop_of}
use Rattle.legal.specs.Systems.{knotted}
use Rattle.machine.specs.Unique.{Ranks}
use Rattle.sorted.specs.Ordered.{table_below}
use Rattle.plain.proofs.Answers.{room_for, lent-ends, lent-told, ranked-free, looped-knotted, looped-refused, looped-done}
use Rattle.plain.proofs.plain_form.Goals.{In_ok-rank}
use Rattle.plain.proofs.plain_form.Goals as goal

pub ranked-requires : goal.ranked-requires
ranked-requires c = lent-ends c.args.form _ _ _ c.edges.ensures.count c.edges.ensures.tables.0 c.edges.ensures.tables.1 c.requires

-- what is not refused has no knot, and its ranks rise
free : (c : In_ok-rank) → (knotted (loop_of c.args.form) ≡ false) × Ranks (loop_of c.args.form) (λ v. get_or c.in_ok-rank.rank v 0)
free c =
    let t = lent-told c.args.form _ _ _ _ c.edges.ensures.count c.edges.ensures.tables in
    ranked-free c.args.form c.ranked.result c.map_err.result _ c.in_ok-rank.rank (c.ranked.ensures.found _ t) c.map_err.ensures.cases (search rules)

pub returns-in_err-rank : goal.returns-in_err-rank
returns-in_err-rank c =
    let p = err_from_is_err_and c.from_residual.result c.from_residual.ensures.1 in
    let t = lent-told c.args.form _ _ _ _ c.edges.ensures.count c.edges.ensures.tables in
    rw (p.1, p.2) (looped-knotted c.args.form _ _ _ c.ranked.result c.map_err.result _ c.in_err-rank.field-0.0 (c.ranked.ensures.found _ t) c.ranked.ensures.some c.map_err.ensures.cases c.in_err-rank.was (λ k p. p))

pub returns-in_err-room_of : goal.returns-in_err-room_of
returns-in_err-room_of c =
    let p = err_from_is_err_and c.from_residual-in_err-room_of.result c.from_residual-in_err-room_of.ensures.1 in
    rw (p.1, p.2.0, p.2.1) (looped-refused c.args.form _ _ _ (free (goal.at.returns-in_err-room_of c).In_ok-rank).0 _ c.in_err-room_of.ensures (refused_fine _))

pub iterate_all-requires : goal.iterate_all-requires
iterate_all-requires c =
    let fits = room_for c.args.form.header.nodes _ _ _ _ c.in_ok-room_of.ensures none_fine in
    record { well_formed = c.requires; order_len = (c.sorted-order.ensures.0, table_below _ c.args.form.header.nodes _ c.sorted-order.ensures.1); nodes_in_bounds = (fits.0, omega (arith, fits.1)) }

pub returns : goal.returns
returns c =
    let free = free (goal.at.returns c).In_ok-rank in
    looped-done c.args.form _ _ _ free.0 _ c.in_ok-room_of.ensures c.requires c.in_ok-rank.rank free.1 refl _ c.sorted-order.ensures.1 _ c.iterate_all.ensures
