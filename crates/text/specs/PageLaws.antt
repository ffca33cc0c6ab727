-- What is put on a page, one run after the other.
-- Assumes nothing.
use Rattle.std.specs.Prelude.{◌≡◌, refl, List, [], ◌++◌, ℕ, ◌+◌, length}
use Rattle.std.proofs.Common.{sym, ◌∙◌}
use Rattle.laid.specs.Laid.{Laid}
use Rattle.laid.specs.Rows.{rows}
use Rattle.laid.specs.Laws.{nothing, both, row_more, rows_whole, same-long}
use Rattle.text.specs.declared.Page.{Page}
use Rattle.text.specs.Page.{Puts}

-- nothing is put
pub blank : (p : Page) → Puts p p []
blank p = record { same = refl; laid = nothing _ _ }

-- one run, then another
pub followed : (p q r : Page) (vs ws : List ℕ) → Puts p q vs → Puts q r ws → Puts p r (vs ++ ws)
followed p q r vs ws x y = record { same = y.same ∙ x.same; laid = both _ _ vs ws _ _ _ _ x.laid y.laid }

-- one row more
pub row-put : (p q r : Page) (row : ℕ → List ℕ) (i : ℕ) → Puts p q (rows row i) → Puts q r (row i) → Puts p r (rows row (i + 1))
row-put p q r row i x y = record { same = y.same ∙ x.same; laid = row_more _ _ row i _ _ _ _ x.laid y.laid }

-- no row
pub no-row : (p : Page) (row : ℕ → List ℕ) → Puts p p (rows row 0)
unfolding rows
no-row p row = blank p

-- rows up to the last
pub rows-put : (p q : Page) (row : ℕ → List ℕ) (n i : ℕ) → Puts p q (rows row i) → i ≡ n → Puts p q (rows row n)
rows-put p q row n i x h = record { same = x.same; laid = rows_whole _ _ row _ n i _ x.laid h }

-- a page's buffer keeps its length
pub page-long : (p q : Page) (vs : List ℕ) → Puts p q vs → length q.out.now ≡ length p.out.now
page-long p q vs x = same-long _ vs _ _ _ x.laid

-- what is put on the page of a buffer is laid into the buffer, once the page is let go
pub let-go : (p q : Page) (bytes out last : List ℕ) (name : ℕ) → p.at ≡ 0 → p.out.now ≡ out → p.out.ghost_name ≡ name
    → Puts p q bytes → (name ≡ q.out.ghost_name → last ≡ q.out.now) → Laid out 0 bytes last q.at
let-go p q bytes out last name front buffer same x kept = rw (kept (sym (x.same ∙ same)), ← front, ← buffer) x.laid
