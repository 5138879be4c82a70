-- The rows of the connectivity: an element of the mesh has a whole row. Assumes nothing.
use mathlib.Core.Path.{◌≡◌}
use mathlib.Core.Bool.{Bool}
use mathlib.Core.List.{List}
use Prim.Native.Nat.{ℕ, ◌<◌}
use native.Mathlib.Nat.{mul-div-le}
use native.Mathlib.Omega.{arith}
use lib.Dec.{ltb}
use lib.ListN.{length, length-take, length-drop}
use Rattle.definition.specs.Elements.{nodes_of}
use Rattle.definition.specs.Mesh.{Mesh, element_count, element_nodes, distinct}
use Rattle.lists.proofs.Parts.{part_fits}
use Rattle.mesh.proofs.Counting.{few}

pub row_length : (m : Mesh) (e : ℕ) → e < element_count m → length (element_nodes m e) ≡ nodes_of m.family
unfolding element_nodes
row_length m e h = simp (length-take, length-drop) (omega (arith, part_fits (nodes_of m.family) h, mul-div-le (length m.elements) (nodes_of m.family)))

-- what a test of an element's row says of the element
pub row_repeats : (m : Mesh) (e : ℕ) {row : List ℕ} {b : Bool} → e < element_count m → row ≡ element_nodes m e → b ≡ ltb (distinct row) (length row) → b ≡ few m e
row_repeats m e h r t = rw (r, row_length m e h) at t
