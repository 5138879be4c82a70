-- `answer_point` meets its contract: by the laws of the first minimum, over the elements and over the faces. Assumes nothing.
use mathlib.Core.Path.{◌≡◌, ◌∙◌}
use Prim.Native.Nat.{◌+◌, ◌*◌, ◌/◌}
use native.Mathlib.Omega.{arith}
use lib.ListN.{length}
use Rattle.definition.specs.Choice.{point_answer}
use Rattle.definition.specs.Search.{closest_reference_point, closest_face_point}
use Rattle.choice.proofs.Choosing.{first_is}
use Rattle.choice.proofs.Places.{element_at, face_at, IsFound, face_found}
use Rattle.choice.proofs.nearest.answer_point.Goals as goal
use Rattle.choice.proofs.nearest.answer_point.Goals.{then-element_index-gt0, else-element_index-gt0}

pub loop-element_index-init : goal.loop-element_index-init
loop-element_index-init c =
    let a = c.args in
    let in_hand : IsFound a.mesh.now a.max_iterations a.target 0 c.bests-found.result = (rw c.element_coords.ensures at c.bests-found.ensures.element, rw c.element_coords.ensures at c.bests-found.ensures.faces) in
    record {
      in_hand = λ _. in_hand;
      nearest_element = first_is (element_at a.mesh.now a.max_iterations a.target) c.new-element.result c.new-element.ensures.0 (c.new-element.ensures.1 ∙ in_hand.0);
      nearest_face = first_is (face_at a.mesh.now a.max_iterations a.target) c.new-face.result c.new-face.ensures.0 (c.new-face.ensures.1 ∙ face_found a.mesh.now a.max_iterations a.target 0 0 c.bests-found.result _ (omega arith) in_hand);
    }

pub loop-local_face-preserved : goal.loop-local_face-preserved
loop-local_face-preserved c =
    let a = c.args in
    let i = c.loop-element_index.element_index in
    let f = c.loop-local_face.local_face in
    let found : IsFound a.mesh.now a.max_iterations a.target i c.if-element_index-gt0.found =
    elim c.if-element_index-gt0.branch [
      | then-element_index-gt0 w ↦ rw (w.found-is, ← w.element_coords-e.ensures) (w.bests-found-then-element_index-gt0.ensures.element, w.bests-found-then-element_index-gt0.ensures.faces)
      | else-element_index-gt0 w ↦ (let first : i ≡ 0 = omega (arith, w.if-element_index-gt0.false) in rw (w.found-is, first) (c.loop-element_index.invariant.in_hand first))
    ] in
    let next : 4 * i + f + 1 ≡ 4 * i + (f + 1) = omega arith in
    let nearest = c.or_nearer-face.ensures (face_at a.mesh.now a.max_iterations a.target) c.loop-local_face.invariant.nearest_face (face_found a.mesh.now a.max_iterations a.target i f c.if-element_index-gt0.found _ c.loop-local_face-test.true found) in
    record { nearest_face = rw next at nearest }

pub returns : goal.returns
unfolding point_answer closest_reference_point closest_face_point
returns c =
    let a = c.args in
    let l = c.loop-element_index in
    let all : l.element_index ≡ length c.elements.result.now / c.nodes_per_element.result = omega arith in
    let element = l.invariant.nearest_element in
    let face = l.invariant.nearest_face in
    rw (c.nearest_node_projection.ensures, l.element.rooted, l.face.rooted, element.1, face.1, element.0, face.0, all, c.elements.ensures, c.nodes_per_element.ensures.value)
