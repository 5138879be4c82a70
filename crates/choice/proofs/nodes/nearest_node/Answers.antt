-- `nearest_node` meets its contract: by the law of the first minimum. Assumes nothing.
use mathlib.Core.Path.{refl}
use Rattle.definition.specs.Choice.{pick}
use Rattle.choice.proofs.nodes.nearest_node.Goals as goal

pub loop-node_index-init : goal.loop-node_index-init
unfolding pick
loop-node_index-init c = (refl, c.node_square-square.ensures)
