-- The twelve lent lists as the code holds them, in the definition's words.
use Rattle.std.specs.Prelude.{◌≡◌}
use Rattle.definition.specs.Query.{QueryLists as Lists}
use Rattle.answers.specs.declared.lent.QueryLists.{QueryLists}

abbrev pub query_lists : QueryLists → Lists
query_lists l =
    record {
      node_indices = l.nearest_node_indices.now;
      node_points = l.nearest_node_points.now;
      node_distances = l.nearest_node_distances.now;
      element_indices = l.nearest_element_indices.now;
      element_references = l.nearest_element_reference_points.now;
      element_points = l.nearest_element_points.now;
      element_distances = l.nearest_element_distances.now;
      face_element_indices = l.nearest_face_element_indices.now;
      face_local_faces = l.nearest_face_local_faces.now;
      face_coordinates = l.nearest_face_reference_coordinates.now;
      face_points = l.nearest_face_points.now;
      face_distances = l.nearest_face_distances.now;
    }

-- the lists are the same ones after a call, whatever they hold
pub record SameLists (old new : QueryLists) : Type 0 where
  pub nearest_node_indices : new.nearest_node_indices.ghost_name ≡ old.nearest_node_indices.ghost_name
  pub nearest_node_points : new.nearest_node_points.ghost_name ≡ old.nearest_node_points.ghost_name
  pub nearest_node_distances : new.nearest_node_distances.ghost_name ≡ old.nearest_node_distances.ghost_name
  pub nearest_element_indices : new.nearest_element_indices.ghost_name ≡ old.nearest_element_indices.ghost_name
  pub nearest_element_reference_points : new.nearest_element_reference_points.ghost_name ≡ old.nearest_element_reference_points.ghost_name
  pub nearest_element_points : new.nearest_element_points.ghost_name ≡ old.nearest_element_points.ghost_name
  pub nearest_element_distances : new.nearest_element_distances.ghost_name ≡ old.nearest_element_distances.ghost_name
  pub nearest_face_element_indices : new.nearest_face_element_indices.ghost_name ≡ old.nearest_face_element_indices.ghost_name
  pub nearest_face_local_faces : new.nearest_face_local_faces.ghost_name ≡ old.nearest_face_local_faces.ghost_name
  pub nearest_face_reference_coordinates : new.nearest_face_reference_coordinates.ghost_name ≡ old.nearest_face_reference_coordinates.ghost_name
  pub nearest_face_points : new.nearest_face_points.ghost_name ≡ old.nearest_face_points.ghost_name
  pub nearest_face_distances : new.nearest_face_distances.ghost_name ≡ old.nearest_face_distances.ghost_name
