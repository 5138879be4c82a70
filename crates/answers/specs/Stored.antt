-- What storing a point's answer makes of the lent lists. A value without a place is left out, and of two numbers of a point both are stored or none.
use Rattle.std.specs.Prelude.{cond, List, ℕ, ◌+◌, ◌*◌, ◌/◌, ltb, length, set, Float}
use Rattle.definition.specs.Query.{QueryLists}
use Rattle.definition.specs.declared.ElementProjection.{ElementProjection}
use Rattle.definition.specs.declared.FaceProjection.{FaceProjection}
use Rattle.definition.specs.declared.NodeProjection.{NodeProjection}
use Rattle.definition.specs.declared.PointAnswer.{PointAnswer}

-- two numbers of point p in their places
abbrev pub pair_stored : ℕ → Float → Float → List Float → List Float
pair_stored p x y l = cond (ltb p (length l / 2)) (set (set l (2 * p) x) (2 * p + 1) y) l

-- the lists of the nearest nodes, and with the node of point p in its places
abbrev pub NodeLists : Type 0
NodeLists = List ℕ × List Float × List Float

abbrev pub node_stored : NodeProjection → ℕ → NodeLists → NodeLists
node_stored node p (indices, points, distances) = (
  set indices p node.node_index,
  pair_stored p node.point.x node.point.y points,
  set distances p node.distance,
)

-- the lists of the nearest elements, and with the element of point p in its places
abbrev pub ElementLists : Type 0
ElementLists = List ℕ × List Float × List Float × List Float

abbrev pub element_stored : ElementProjection → ℕ → ElementLists → ElementLists
element_stored element p (indices, references, points, distances) = (
  set indices p element.element_index,
  pair_stored p element.reference.xi element.reference.eta references,
  pair_stored p element.point.x element.point.y points,
  set distances p element.distance,
)

-- the lists of the nearest faces, and with the face of point p in its places
abbrev pub FaceLists : Type 0
FaceLists = List ℕ × List ℕ × List Float × List Float × List Float

abbrev pub face_stored : FaceProjection → ℕ → FaceLists → FaceLists
face_stored face p (elements, faces, coordinates, points, distances) = (
  set elements p face.element_index,
  set faces p face.local_face,
  set coordinates p face.s,
  pair_stored p face.point.x face.point.y points,
  set distances p face.distance,
)

-- the answer of point p in its places of each list
abbrev pub stored : PointAnswer → ℕ → QueryLists → QueryLists
stored a p l =
    record {
      node_indices = set l.node_indices p a.node.node_index;
      node_points = pair_stored p a.node.point.x a.node.point.y l.node_points;
      node_distances = set l.node_distances p a.node.distance;
      element_indices = set l.element_indices p a.element.element_index;
      element_references = pair_stored p a.element.reference.xi a.element.reference.eta l.element_references;
      element_points = pair_stored p a.element.point.x a.element.point.y l.element_points;
      element_distances = set l.element_distances p a.element.distance;
      face_element_indices = set l.face_element_indices p a.face.element_index;
      face_local_faces = set l.face_local_faces p a.face.local_face;
      face_coordinates = set l.face_coordinates p a.face.s;
      face_points = pair_stored p a.face.point.x a.face.point.y l.face_points;
      face_distances = set l.face_distances p a.face.distance;
    }
