-- The nodes met have been put.
use Rattle.std.proofs.Common.{◌+◌, ◌*◌, get_or}
use Rattle.std.specs.Float.{nan}
use Rattle.definition.specs.Lists.{each}
use Rattle.definition.specs.Rows.{kept}
use Rattle.triplets.specs.Lent.{Puts}
use Rattle.operators.proofs.put_row.Given as goal

abbrev pub invariant-loop-j : goal.invariant-loop-j
invariant-loop-j l =
    Puts l.initial.strip l.strip (each (λ j. each (λ d. kept l.row (l.columns * get_or l.nodes j 0 + d) (get_or l.entries (l.columns * j + d) nan)) l.columns) l.j)
