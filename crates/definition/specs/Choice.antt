-- The choice among all nodes, elements and faces, and the twelve values of a point: `query_quad_mesh`, at one point.
use Rattle.std.specs.Prelude.{cond, ℕ, zero, suc, ◌*◌, ◌/◌, ◌%◌, Float}
use Rattle.std.specs.Float.Ieee.{lt}
use Rattle.definition.specs.Binary64.{squared_distance}
use Rattle.definition.specs.Root.{root_of}
use Rattle.definition.specs.Mapping.{first, second}
use Rattle.definition.specs.Search.{closest_reference_point, closest_face_point}
use Rattle.definition.specs.Mesh.{Mesh, node_count, element_count, pair_at, gathered}
use Rattle.definition.specs.declared.Point.{Point}
use Rattle.definition.specs.declared.NodeProjection.{NodeProjection}
use Rattle.definition.specs.declared.ElementProjection.{ElementProjection}
use Rattle.definition.specs.declared.FaceProjection.{FaceProjection}
use Rattle.definition.specs.declared.PointAnswer.{PointAnswer}

-- Which of n distances is named: "the first element begins the walk", and it goes on to another only where that one is smaller.
-- "Replacement only on smaller, so equals keep the first, and a NaN in first place stays."
unfoldable pub pick : (ℕ → Float) → ℕ → ℕ
pick distance zero = 0
pick distance (suc zero) = 0
pick distance (suc (suc n)) = let b = pick distance (suc n) in cond (lt (distance (suc n)) (distance b)) (suc n) b

module _ (m : Mesh) (limit : ℕ) (t : Point) where
  -- "By these formulas a point has a distance to every node, the root of the squared one, and to every element and face, the rooted distance of its search's best."
  abbrev pub node_square : ℕ → Float
  node_square i = squared_distance (first m.nodes i) (second m.nodes i) t.x t.y

  abbrev pub node_distance : ℕ → Float
  node_distance i = root_of (node_square i)

  abbrev pub element_answer : ℕ → ElementProjection
  element_answer e = closest_reference_point (gathered m e) e t limit

  abbrev pub element_distance : ℕ → Float
  element_distance e = (element_answer e).distance

  -- face 4 × e + f is face f of element e: "faces by element and then face"
  abbrev pub face_answer : ℕ → FaceProjection
  face_answer k = closest_face_point (gathered m (k / 4)) (k / 4) (k % 4) t limit

  abbrev pub face_distance : ℕ → Float
  face_distance k = (face_answer k).distance

  -- "Nodes compare squared distances": `nearest_node_projection`
  abbrev pub node_answer : ℕ → NodeProjection
  node_answer i = record { node_index = i; point = pair_at m.nodes i; distance = node_distance i }

  -- ".. elements and faces compare rooted ones"
  unfoldable pub point_answer : PointAnswer
  point_answer =
      let node = node_answer (pick node_square (node_count m)) in
      let element = element_answer (pick element_distance (element_count m)) in
      let face = face_answer (pick face_distance (4 * element_count m)) in
      record { node = node; element = element; face = face }
