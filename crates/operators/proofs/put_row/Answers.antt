-- `put_row` meets its contract: the nodes met have been put. Assumes nothing.
use Prim.Native.Nat.{◌*◌}
use native.Mathlib.Omega.{arith}
use Rattle.lists.proofs.Parts.{part_fits}
use Rattle.triplets.proofs.Putting.{puts_each}
use Rattle.operators.proofs.Filling.{node_part}
use Rattle.operators.proofs.put_row.Goals as goal

pub loop-j-preserved : goal.loop-j-preserved
loop-j-preserved c =
    let put = node_part c.args.columns (c.args.columns * c.loop-j.j) c.args.entries.now (omega (arith, part_fits c.args.columns c.loop-j-test.true, c.requires.2)) _ _ c.put_node.ensures in
    puts_each _ c.loop-j.j c.loop-j.invariant (rw c.get_or-node.ensures at put)
