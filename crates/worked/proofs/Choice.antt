-- The choice at a point, whole: nodes compare squared distances where elements and faces compare rooted ones.
-- Assumes nothing.
use mathlib.Core.Path.{◌≡◌, refl}
use Prim.Native.Nat.{ℕ}
use Rattle.definition.specs.Choice.{point_answer}
use Rattle.definition.specs.declared.PointAnswer.{PointAnswer}
use Rattle.definition.proofs.Computing.{searching}
use Rattle.definition.proofs.Choice.{two_places, origin}

-- the numbers of the nearest node, element, and face's element and face
abbrev named : PointAnswer → ℕ × ℕ × ℕ × ℕ
named a = (a.node.node_index, a.element.element_index, a.face.element_index, a.face.local_face)

-- node 1 is nearer by its square; the elements tie by their roots, and so do the faces, and the first is named
rooted_and_squared : named (point_answer two_places 0 origin) ≡ (1, 0, 0, 0)
unfolding searching
rooted_and_squared = refl
