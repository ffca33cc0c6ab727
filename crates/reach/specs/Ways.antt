-- Tables that are lent together: the same as of each of them.
-- Assumes nothing.
use Rattle.std.specs.Prelude.{List, ℕ}
use Rattle.form.specs.declared.Edges.{Edges}
use Rattle.legal.specs.Loop.{Loop}
use Rattle.reach.specs.declared.Ways.{Ways}
use Rattle.reach.specs.Tables.{TightsTabled, HeadsLinked, TellsTight}
use Rattle.reach.specs.Marking.{Spread, Levelled, Reaches}

-- a 1 for each tight edge, and for no other
abbrev pub TightsOf : Edges → List ℕ → List ℕ → Type 0
TightsOf e retiming tights = TightsTabled e.from.now e.to.now e.delays.now retiming e.count tights

abbrev pub LinkedBy : Ways → Type 0
LinkedBy w = HeadsLinked w.edges w.first.now w.next.now w.heads.now

abbrev pub TightBy : Loop → (ℕ → ℕ) → Ways → Type 0
TightBy g r w = TellsTight g r w.edges w.first.now w.next.now w.heads.now w.tights.now

abbrev pub SpreadBy : Ways → ℕ → List ℕ → List ℕ → ℕ → List ℕ → List ℕ → ℕ → Type 0
SpreadBy w node m q end m' q' end' = Spread w.edges w.first.now w.next.now w.heads.now w.tights.now node m q end m' q' end'

abbrev pub LevelledBy : Ways → ℕ → List ℕ → List ℕ → ℕ → List ℕ → List ℕ → ℕ → Type 0
LevelledBy w from m q to m' q' end = Levelled w.edges w.first.now w.next.now w.heads.now w.tights.now from m q to m' q' end

abbrev pub ReachesBy : Ways → ℕ → ℕ → List ℕ → List ℕ → ℕ → List ℕ → List ℕ → ℕ → Type 0
ReachesBy w from left m q to m' q' end = Reaches w.edges w.first.now w.next.now w.heads.now w.tights.now from left m q to m' q' end
