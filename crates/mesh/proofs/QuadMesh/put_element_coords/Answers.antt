-- `put_element_coords` meets its contract. The loop's invariant: the first local_index pairs are written over the list. Assumes nothing.
use mathlib.Core.Path.{refl}
use native.Mathlib.Omega.{arith}
use Rattle.definition.specs.Lists.{each, over}
use Rattle.mesh.proofs.Gathering.{gather_next}
use Rattle.mesh.proofs.QuadMesh.put_element_coords.Goals as goal

pub loop-local_index-init : goal.loop-local_index-init
unfolding each over
loop-local_index-init c = refl

pub loop-local_index-preserved : goal.loop-local_index-preserved
loop-local_index-preserved c =
    let l = c.loop-local_index in
    gather_next c.args.self.now c.args.element_index l.local_index c.args.xy.now (omega arith) l.invariant c.element_nodes-row.ensures c.get_or-node_index.ensures c.node-p.ensures
