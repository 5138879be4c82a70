-- `put_shape_row` meets its contract: one row of one column a node. Assumes nothing.
use Rattle.operators.proofs.Filling.{shape_row}
use Rattle.operators.proofs.put_shape_row.Goals as goal

pub returns : goal.returns
returns c = shape_row _ _ _ _ c.nodes_per_element-count.ensures.value c.put_point.ensures
