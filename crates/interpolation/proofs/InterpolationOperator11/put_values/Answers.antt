-- `put_values` meets its contract: the numbers copied are the shape numbers at the point's reference, one a node. Assumes nothing.
use Rattle.std.proofs.Common.{rules}
use Rattle.interpolation.proofs.Written.{first_written}
use Rattle.interpolation.proofs.InterpolationOperator11.put_values.Goals as goal

pub returns : goal.returns
returns c =
    first_written _ c.shape-shape.result _ _ c.nodes_per_element-count.result
    (rw c.mesh-mesh.ensures at c.nodes_per_element-count.ensures.value)
    (rw (c.family.ensures, c.reference_at-reference.ensures, c.mesh-mesh.ensures) at c.shape-shape.ensures)
    (Prim.search rules)
    c.copy_from_slice.ensures.after
