-- `put_element_coords` meets its contract. The loop's invariant: the first local_index pairs are written over the list. Assumes nothing.
use mathlib.Core.Path.{◌≡◌}
use Rattle.definition.specs.Lists.{each, over}
use Rattle.mesh.proofs.Gathering.{coords_of}
use Rattle.mesh.proofs.QuadMesh.put_element_coords.Given as goal

abbrev pub invariant-loop-local_index : goal.invariant-loop-local_index
invariant-loop-local_index l = l.xy ≡ over (each (coords_of l.self l.element_index) l.local_index) l.initial.xy
