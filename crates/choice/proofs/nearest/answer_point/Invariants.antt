-- `answer_point` meets its contract: the element and the face are the nearest of those met. Assumes nothing.
use mathlib.Core.Path.{◌≡◌}
use Prim.Native.Nat.{◌+◌, ◌*◌}
use Rattle.choice.specs.Nearest.{IsNearest}
use Rattle.choice.proofs.Places.{element_at, face_at, IsFound}
use Rattle.choice.proofs.nearest.answer_point.Given as goal

abbrev pub invariant-loop-element_index : goal.invariant-loop-element_index
invariant-loop-element_index l = record {
  in_hand : l.element_index ≡ 0 → IsFound l.mesh l.max_iterations l.target 0 l.found;
  nearest_element : IsNearest (element_at l.mesh l.max_iterations l.target) l.element_index l.element;
  nearest_face : IsNearest (face_at l.mesh l.max_iterations l.target) (4 * l.element_index) l.face;
}

abbrev pub invariant-loop-local_face : goal.invariant-loop-local_face
invariant-loop-local_face l = record {
  nearest_face : IsNearest (face_at l.mesh l.max_iterations l.target) (4 * l.element_index + l.local_face) l.face;
}
