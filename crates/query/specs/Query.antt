-- The parameters of a query as the definition's records, for callers that hold its lists apart.
use Rattle.std.specs.Prelude.{List, ℕ, Float}
use Rattle.definition.specs.Query.{QueryCall, QueryLists}

abbrev pub call : ℕ → ℕ → List Float → List ℕ → List Float → QueryCall
call family iterations nodes elements points = record { mesh = record { family = family; nodes = nodes; elements = elements }; iterations = iterations; points = points }

-- the lists in the order of `QuadMeshQueryResult`
abbrev pub lists : List ℕ → List Float → List Float → List ℕ → List Float → List Float → List Float → List ℕ → List ℕ → List Float → List Float → List Float → QueryLists
lists nodes node_points node_distances elements references element_points element_distances face_elements faces coordinates face_points face_distances =
    record {
      node_indices = nodes;
      node_points = node_points;
      node_distances = node_distances;
      element_indices = elements;
      element_references = references;
      element_points = element_points;
      element_distances = element_distances;
      face_element_indices = face_elements;
      face_local_faces = faces;
      face_coordinates = coordinates;
      face_points = face_points;
      face_distances = face_distances;
    }
