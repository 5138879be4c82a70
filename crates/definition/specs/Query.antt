-- The query: its questions, its answer and its twelve lent lists.
use Rattle.std.specs.Prelude.{◌≡◌, Result, Bool, ◌&&◌, List, [], ◌∷◌, ◌++◌, ℕ, ◌*◌, leb, length, Float}
use Rattle.std.specs.Float.Ieee.{eq}
use Rattle.definition.specs.Lists.{each, over, count_of}
use Rattle.definition.specs.Binary64.{plus0}
use Rattle.definition.specs.Mesh.{Mesh, pair_count, pair_at, repeated_count}
use Rattle.definition.specs.Choice.{point_answer}
use Rattle.definition.specs.Questions.{Question, Outcome, accepted, refused, asked, outcome, family_known, nodes_whole, elements_whole, iterations_few, points_whole, room, node_numbers, some_node, some_element}
use Rattle.definition.specs.declared.Point.{Point}
use Rattle.definition.specs.declared.PointAnswer.{PointAnswer}
use Rattle.definition.specs.declared.QueryCounts.{QueryCounts}
use Rattle.definition.specs.declared.Refusal.{Refusal}

-- what a query is given
pub record QueryCall : Type 0 where
  pub mesh : Mesh
  pub iterations : ℕ
  pub points : List Float

-- the twelve lists of `QuadMeshQueryResult`, each with one place a point, or two where the answer is a pair of coordinates
pub record QueryLists : Type 0 where
  pub node_indices : List ℕ
  pub node_points : List Float
  pub node_distances : List Float
  pub element_indices : List ℕ
  pub element_references : List Float
  pub element_points : List Float
  pub element_distances : List Float
  pub face_element_indices : List ℕ
  pub face_local_faces : List ℕ
  pub face_coordinates : List Float
  pub face_points : List Float
  pub face_distances : List Float

-- "one place a point for the query, two where the answer is a pair of coordinates"
unfoldable pub query_room : QueryLists → ℕ → Bool
query_room l n =
    leb n (length l.node_indices)
    && leb (2 * n) (length l.node_points)
    && leb n (length l.node_distances)
    && leb n (length l.element_indices)
    && leb (2 * n) (length l.element_references)
    && leb (2 * n) (length l.element_points)
    && leb n (length l.element_distances)
    && leb n (length l.face_element_indices)
    && leb n (length l.face_local_faces)
    && leb n (length l.face_coordinates)
    && leb (2 * n) (length l.face_points)
    && leb n (length l.face_distances)

-- questions 1, 2, 3, 4, 5, 7, 8, 9, 10
unfoldable pub query_questions : QueryCall → QueryLists → List Question
query_questions q lent =
    family_known q.mesh ∷ nodes_whole q.mesh ∷ elements_whole q.mesh ∷ iterations_few q.iterations ∷ points_whole q.points ∷ []
    ++ room (query_room lent (pair_count q.points)) ∷ []
    ++ node_numbers q.mesh
    ++ some_node q.mesh ∷ some_element q.mesh ∷ []

-- the twelve values of point p
abbrev pub answer_at : QueryCall → ℕ → PointAnswer
answer_at q p = point_answer q.mesh q.iterations (pair_at q.points p)

-- "A point counts as inside when its element distance is 0"
unfoldable pub inside_count : QueryCall → ℕ
inside_count q = count_of (λ p. eq (answer_at q p).element.distance plus0) (pair_count q.points)

-- what a query answers: the numbers of points, of elements with fewer than F distinct nodes and of points inside
unfoldable pub queried : QueryCall → QueryLists → Outcome QueryCounts
queried q lent = asked (query_questions q lent) (record { points = pair_count q.points; repeated = repeated_count q.mesh; inside = inside_count q })

-- one value a point, and one pair of coordinates a point, of the first n points
abbrev pub values : {A : Type 0} → (ℕ → A) → ℕ → List A
values v n = each (λ p. v p ∷ []) n

abbrev pub coordinates : (ℕ → Point) → ℕ → List Float
coordinates v n = each (λ p. (v p).x ∷ (v p).y ∷ []) n

-- "On acceptance only the first n places (2n in a list of coordinate pairs) are written, n in the result": the answers of the first n points, and the rest as before
unfoldable pub answers_over : QueryCall → ℕ → QueryLists → QueryLists
answers_over q n lent =
    record {
      node_indices = over (values (λ p. (answer_at q p).node.node_index) n) lent.node_indices;
      node_points = over (coordinates (λ p. (answer_at q p).node.point) n) lent.node_points;
      node_distances = over (values (λ p. (answer_at q p).node.distance) n) lent.node_distances;
      element_indices = over (values (λ p. (answer_at q p).element.element_index) n) lent.element_indices;
      element_references = over (each (λ p. (answer_at q p).element.reference.xi ∷ (answer_at q p).element.reference.eta ∷ []) n) lent.element_references;
      element_points = over (coordinates (λ p. (answer_at q p).element.point) n) lent.element_points;
      element_distances = over (values (λ p. (answer_at q p).element.distance) n) lent.element_distances;
      face_element_indices = over (values (λ p. (answer_at q p).face.element_index) n) lent.face_element_indices;
      face_local_faces = over (values (λ p. (answer_at q p).face.local_face) n) lent.face_local_faces;
      face_coordinates = over (values (λ p. (answer_at q p).face.s) n) lent.face_coordinates;
      face_points = over (coordinates (λ p. (answer_at q p).face.point) n) lent.face_points;
      face_distances = over (values (λ p. (answer_at q p).face.distance) n) lent.face_distances;
    }

-- the lent lists after a query. "Outputs are untouched by it" (a refusal)
abbrev pub query_lists : QueryCall → Outcome QueryCounts → QueryLists → QueryLists
query_lists q (accepted counts) lent = answers_over q counts.points lent
query_lists q (refused number place) lent = lent

-- THE PROMISE of `query_quad_mesh`: given q, and lent the lists `before`, it answers `answer` and leaves the lists `after`
pub record QueryPromise (q : QueryCall) (before : QueryLists) (answer : Result QueryCounts Refusal) (after : QueryLists) : Type 0 where
  pub answers : outcome answer ≡ queried q before
  pub leaves : after ≡ query_lists q (queried q before) before
