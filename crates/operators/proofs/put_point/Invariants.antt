-- The rows met have been put.
use Rattle.std.proofs.Common.{◌+◌, ◌*◌, get_or}
use Rattle.std.specs.Float.{nan}
use Rattle.definition.specs.Lists.{each}
use Rattle.definition.specs.Rows.{kept}
use Rattle.triplets.specs.Lent.{Puts}
use Rattle.operators.proofs.put_point.Given as goal

abbrev pub invariant-loop-i : goal.invariant-loop-i
invariant-loop-i l =
    Puts l.initial.strip l.strip
    (each (λ i. each (λ j. each (λ d. kept (l.rows * l.p + i) (l.columns * get_or l.nodes j 0 + d) (get_or l.entries (l.columns * l.count * i + l.columns * j + d) nan)) l.columns) l.count) l.i)
