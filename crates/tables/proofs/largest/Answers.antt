-- `tables::largest` meets its contract: it folds over the first numbers.
-- Assumes nothing.
use Prim.Native.Nat.{max}
use lib.ListN.{take}
use native.Mathlib.Omega.{arith}
use borrow.Author.Rules.{rules}
use Rattle.std.proofs.lemmas.Iterator.{YieldsList-from_slice}
use Rattle.std.proofs.lemmas.Iterator.Consumers.{YieldsList-from_copied, fold_from_yields_List}
use Rattle.tables.specs.Most.{most-front}
use Rattle.tables.proofs.largest.Goals as goal

pub returns : goal.returns
returns c =
    let all = YieldsList-from_copied {s = c.copied.result} (YieldsList-from_slice (take c.args.count c.args.table.now) cc) in
    let folded = fold_from_yields_List _ max _ _ c.fold.ensures.ran all (λ most here more same called. search rules) in
    omega (arith, folded, most-front c.args.table.now c.args.count (omega arith))
