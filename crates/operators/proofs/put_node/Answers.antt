-- `put_node` meets its contract: the components met have been put. Assumes nothing.
use Rattle.triplets.proofs.Putting.{puts_each}
use Rattle.operators.proofs.put_node.Goals as goal

pub loop-d-preserved : goal.loop-d-preserved
loop-d-preserved c = puts_each _ c.loop-d.d c.loop-d.invariant c.put_triplet.ensures
