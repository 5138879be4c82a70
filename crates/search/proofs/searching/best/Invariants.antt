-- `best` meets its contract: the best so far is that of the seeds met. Assumes nothing.
use mathlib.Core.Path.{◌≡◌}
use Rattle.definition.specs.Search.{best_of}
use Rattle.search.specs.Steps.{Remembered}
use Rattle.search.proofs.searching.best.Given as goal

abbrev pub invariant-loop-seed : goal.invariant-loop-seed
invariant-loop-seed g l =
    let step = g.S.Search.step l.search in
    record { best_so_far : l.best ≡ best_of (g.S.Search.point_of l.search) step (g.S.Search.target l.search) l.limit l.fn.start l.seeds l.seed-index; remembered : Remembered step l.known }
