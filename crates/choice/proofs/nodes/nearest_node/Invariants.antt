-- `nearest_node` meets its contract: the number so far is that of the first minimum of the nodes met, and its square stands beside it. Assumes nothing.
use mathlib.Core.Path.{◌≡◌}
use Rattle.definition.specs.Choice.{pick, node_square}
use Rattle.choice.proofs.nodes.nearest_node.Given as goal

abbrev pub invariant-loop-node_index : goal.invariant-loop-node_index
invariant-loop-node_index l = (l.at ≡ pick (node_square l.mesh 0 l.target) l.node_index) × (l.square ≡ node_square l.mesh 0 l.target l.at)
