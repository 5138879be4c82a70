-- `put_point` meets its contract: the rows met have been put. Assumes nothing.
use Prim.Native.Nat.{◌*◌}
use lib.ListN.{get_or}
use Rattle.triplets.proofs.Putting.{puts_each}
use Rattle.operators.proofs.Filling.{row_part}
use Rattle.operators.proofs.put_point.Goals as goal

pub loop-i-preserved : goal.loop-i-preserved
loop-i-preserved c =
    puts_each _ c.loop-i.i c.loop-i.invariant
    (row_part c.args.columns c.args.count (λ j. get_or c.args.nodes.now j 0) (c.args.columns * c.args.count * c.loop-i.i) c.args.entries.now _ c.put_row.ensures)
