-- A query's answer and its twelve lists, as they are listed: each point's answer is read back from its places.
use Rattle.std.specs.Prelude.{Result, Ok, Err, List, ◌++◌, ℕ, min, length, get_or}
use Rattle.std.specs.Float.{nan}
use Rattle.definition.specs.Lists.{each}
use Rattle.definition.specs.Mapping.{first, second}
use Rattle.definition.specs.Mesh.{pair_at}
use Rattle.definition.specs.Query.{QueryLists}
use Rattle.definition.specs.Questions.{number_of}
use Rattle.definition.specs.Job.{refusal_line, counts_line, point_line}
use Rattle.definition.specs.declared.PointAnswer.{PointAnswer}
use Rattle.definition.specs.declared.QueryCounts.{QueryCounts}
use Rattle.definition.specs.declared.Refusal.{Refusal}
use Rattle.definition.specs.declared.NumberedRefusal.{NumberedRefusal}

-- the answer of point p in the lists
abbrev pub answer_in : QueryLists → ℕ → PointAnswer
answer_in l p =
    record {
      node = record { node_index = get_or l.node_indices p 0; point = pair_at l.node_points p; distance = get_or l.node_distances p nan };
      element = record {
        element_index = get_or l.element_indices p 0;
        reference = record { xi = first l.element_references p; eta = second l.element_references p };
        point = pair_at l.element_points p;
        distance = get_or l.element_distances p nan;
      };
      face = record {
        element_index = get_or l.face_element_indices p 0;
        local_face = get_or l.face_local_faces p 0;
        s = get_or l.face_coordinates p nan;
        point = pair_at l.face_points p;
        distance = get_or l.face_distances p nan;
      };
    }

-- of so many points, those that the lists have a place for
abbrev pub listed_of : ℕ → QueryLists → ℕ
listed_of points l = min points (length l.node_indices)

-- the listing of an answer with its lists
abbrev pub answer_listing : Result QueryCounts Refusal → QueryLists → List ℕ
answer_listing (Ok counts) l = counts_line counts ++ each (λ p. point_line p (answer_in l p)) (listed_of counts.points l)
answer_listing (Err refusal) l = refusal_line (number_of refusal.question) refusal.place

-- the listing of an answer of which a refusal may have any number
abbrev pub numbered_listing : Result QueryCounts NumberedRefusal → QueryLists → List ℕ
numbered_listing (Ok counts) l = answer_listing (Ok counts) l
numbered_listing (Err refusal) l = refusal_line refusal.question refusal.place
