-- `listing::put_view` meets its contract: a form, or a refusal's number.
-- Assumes nothing.
use native.Mathlib.Omega.{arith}
use borrow.Author.Rules.{rules}
use Rattle.text.specs.Page.{Puts}
use Rattle.text.specs.PageLaws.{let-go}
use Rattle.listing.specs.Lines.{refused_line}
use Rattle.listing.specs.Shown.{view_text}
use Rattle.listing.proofs.Accepted.{small_number}
use Rattle.listing.proofs.put_view.Goals.{in-Ok, in-Err}
use Rattle.listing.proofs.put_view.Goals as goal

pub put_form-requires : goal.put_form-requires
put_form-requires c = (rw c.in-Ok.is at c.requires, c.new-page.ensures.front)

pub put_refused-requires : goal.put_refused-requires
put_refused-requires c = (omega (arith, c.number.ensures, small_number c.in-Err.refused.refusal), c.new-page.ensures.front)

pub returns : goal.returns
unfolding view_text refused_line
returns c =
    elim c.match-view.branch [
      | in-Ok w ↦
          let put : Puts c.new-page.result c.match-view.page (view_text c.args.view) = rw (w.page-is, w.in-Ok.is) w.put_form.ensures.1 in
          (rw w.page-is w.put_form.ensures.0, let-go _ _ _ _ _ _ c.new-page.ensures.front c.new-page.ensures.buffer c.new-page.ensures.same put (search rules))
      | in-Err w ↦
          let put : Puts c.new-page.result c.match-view.page (view_text c.args.view) = rw (w.page-is, w.in-Err.is, ← w.number.ensures) w.put_refused.ensures.1 in
          (rw w.page-is w.put_refused.ensures.0, let-go _ _ _ _ _ _ c.new-page.ensures.front c.new-page.ensures.buffer c.new-page.ensures.same put (search rules))
    ]
