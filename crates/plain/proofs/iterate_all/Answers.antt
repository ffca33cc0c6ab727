-- `plain::iterate_all` meets its contract: the values so far are stored.
-- Assumes nothing.
use mathlib.Core.Path.{◌≡◌, refl, sym, ◌∙◌, subst}
use Prim.Native.Nat.{ℕ, ◌+◌, ◌*◌, ◌≤◌, ◌<◌}
use native.Mathlib.Omega.{arith}
use lib.ListN.{length, length-set, get_or, take}
use Rattle.lists.specs.Quotient.{rows-below}
use Rattle.legal.specs.Loop.{loop_of, graph_of}
use Rattle.operands.specs.Given.{form-tells, links-fit, links-begin, links-follow}
use Rattle.plain.specs.Looping.{iterated}
use Rattle.plain.proofs.Laws.{stored-none, stored_more, looped-none, looped-more}
use Rattle.plain.proofs.iterate_all.Goals.{In-loop-k}
use Rattle.plain.proofs.iterate_all.Goals as goal

pub loop-i-init : goal.loop-i-init
loop-i-init c = (refl, sym (looped-none _ _ _ _))

pub loop-k-init : goal.loop-k-init
loop-k-init c = (refl, sym (stored-none _ _ c.args.order _ _))

-- the node whose turn it is
abbrev node : In-loop-k → ℕ
node p = get_or p.args.order p.loop-k.k 0

node-small : (p : In-loop-k) → node p < 64
node-small p = omega (arith, p.requires.order_len.1 p.loop-k.k p.loop-k-test.true, p.requires.well_formed.nodes.1)

-- its row is among the values
row_in : (p : In-loop-k) → p.loop-i.i * p.args.form.header.nodes + p.args.form.header.nodes ≤ length p.loop-k.values
row_in p =
    omega (arith, rows-below p.loop-i.i p.args.iterations p.args.form.header.nodes p.loop-i-test.true, p.requires.nodes_in_bounds.1, p.loop-i.invariant.0, p.loop-k.invariant.0)

pub value_of-value-requires : goal.value_of-value-requires
value_of-value-requires c =
    let p = (goal.at.value_of-value-requires c).In-loop-k in
    let f = c.args.form in
    let chains = c.links_of-links.ensures.chains in (
      links-fit f _ _ chains c.requires.well_formed,
      record { for_starts = c.requires.nodes_in_bounds.0; for_values = row_in p },
      links-begin f _ _ chains _ (node-small p),
      (loop_of f, (_, form-tells f, links-follow f _ _ chains _ (node-small p))),
    )

pub loop-k-preserved : goal.loop-k-preserved
unfolding loop_of graph_of
loop-k-preserved c =
    let p = (goal.at.loop-k-preserved c).In-loop-k in
    let f = c.args.form in (
      length-set c.loop-k.values _ _ ∙ c.loop-k.invariant.0,
      stored_more (loop_of f) c.args.starts.now c.args.order c.loop-i.i c.loop-k.k c.loop-i.values c.loop-k.values (omega (arith, c.requires.order_len.0, c.requires.well_formed.nodes.1)) c.loop-k.invariant.1 _
          (c.value_of-value.ensures (loop_of f) (node p) (form-tells f) (links-follow f _ _ c.links_of-links.ensures.chains (node p) (node-small p))),
    )

pub loop-i-preserved : goal.loop-i-preserved
loop-i-preserved c =
    let e : c.loop-k.k ≡ c.args.form.header.nodes = omega arith in (
      c.loop-k.invariant.0 ∙ c.loop-i.invariant.0,
      looped-more (loop_of c.args.form) c.args.starts.now (take c.args.form.header.nodes c.args.order) c.loop-i.i c.args.values.now c.loop-i.values c.loop-k.values c.loop-i.invariant.1
          (subst (λ (n : ℕ). c.loop-k.values ≡ iterated (loop_of c.args.form) c.args.starts.now (take n c.args.order) c.loop-i.values c.loop-i.i) e c.loop-k.invariant.1),
    )
