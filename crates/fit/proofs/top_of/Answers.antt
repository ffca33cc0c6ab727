-- `fit::top_of` meets its contract: it folds over the first values.
-- Assumes nothing.
use Prim.Native.Nat.{max}
use lib.ListN.{take}
use native.Mathlib.Omega.{arith}
use borrow.Author.Rules.{rules}
use Rattle.std.proofs.lemmas.Iterator.{YieldsList-from_slice}
use Rattle.std.proofs.lemmas.Iterator.Consumers.{YieldsList-from_copied, fold_from_yields_List}
use Rattle.fit.proofs.Laws.{max-fold}
use Rattle.fit.proofs.top_of.Goals as goal

pub returns : goal.returns
returns c =
    let all = YieldsList-from_copied {s = c.copied.result} (YieldsList-from_slice (take c.args.nodes c.args.values.now) cc) in
    let folded = fold_from_yields_List _ max _ _ c.fold.ensures.ran all (λ most here more same called. search rules) in
    omega (arith, folded, max-fold 0 (take c.args.nodes c.args.values.now))
