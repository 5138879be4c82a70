-- The triplets of the points met have been put.
use Rattle.operators.specs.Values.{triplets_till}
use Rattle.triplets.specs.Lent.{Puts}
use Rattle.operators.proofs.put_points.Given as goal

abbrev pub invariant-loop-p : goal.invariant-loop-p
invariant-loop-p g l =
    Puts l.initial.strip l.strip (triplets_till (g.O.Operator.base l.operator) g.row.ROWS g.row.COLUMNS (g.O.Operator.value l.operator) l.p)
