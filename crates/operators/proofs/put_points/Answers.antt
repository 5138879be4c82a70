-- `put_points` meets its contract: the triplets of the points met have been put. Assumes nothing.
use Rattle.definition.specs.Lists.{each}
use Rattle.triplets.proofs.Putting.{puts_none}
use Rattle.operators.proofs.Filling.{point_next}
use Rattle.operators.proofs.put_points.Goals as goal

pub loop-p-init : goal.loop-p-init
unfolding each
loop-p-init g c = puts_none _

pub loop-p-preserved : goal.loop-p-preserved
loop-p-preserved g c =
    point_next (g.O.Operator.base c.args.operator.now) g.row.ROWS g.row.COLUMNS (g.O.Operator.value c.args.operator.now) c.loop-p.p c.loop-p.entries
    (rw (c.mesh-mesh.ensures, c.base-call.ensures) at c.nodes_per_element-count.ensures.value)
    (rw (c.mesh-mesh.ensures, c.element_at.ensures, c.base-call.ensures) at c.element_nodes-nodes.ensures)
    c.put_values.ensures
    c.loop-p.invariant
    c.put_point.ensures
