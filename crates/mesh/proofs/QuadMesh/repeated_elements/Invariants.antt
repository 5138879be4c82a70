-- `repeated_elements` meets its contract. The loop's invariant: the count is that of the elements passed. Assumes nothing.
use mathlib.Core.Path.{◌≡◌}
use Prim.Native.Nat.{◌≤◌}
use Rattle.definition.specs.Lists.{count_of}
use Rattle.mesh.proofs.Counting.{few}
use Rattle.mesh.proofs.QuadMesh.repeated_elements.Given as goal

abbrev pub invariant-loop-element_index : goal.invariant-loop-element_index
invariant-loop-element_index l = record { some : l.repeated ≤ l.element_index; counted : l.repeated ≡ count_of (few l.self) l.element_index }
