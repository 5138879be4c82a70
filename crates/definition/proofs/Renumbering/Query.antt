-- The query's part of demand 3: the one law of the first minimum, for nodes, elements and faces, read off the lists after the two runs.
-- Assumes nothing.
use mathlib.Core.Path.{◌≡◌, sym, ap, ◌∙◌, subst}
use mathlib.Core.Bool.{true}
use Prim.Native.Nat.{ℕ, ◌+◌, ◌*◌, ◌/◌, ◌%◌, ◌<◌}
use native.Mathlib.Nat.{mod-lt}
use native.Mathlib.Omega.{arith}
use lib.ListN.{get_or}
use lib.Ieee.{nan}
use Rattle.definition.specs.Binary64.{squared_distance}
use Rattle.definition.specs.Root.{root_of}
use Rattle.definition.specs.Mapping.{first, second}
use Rattle.definition.specs.Search.{element_best, closest_reference_point, face_best, closest_face_point}
use Rattle.definition.specs.Mesh.{Mesh, node_count, element_count, pair_count, pair_at, gathered, repeated_count}
use Rattle.definition.specs.Choice.{pick, node_square, node_distance, element_distance, face_distance, point_answer}
use Rattle.definition.specs.Questions.{Outcome, accepted}
use Rattle.definition.specs.declared.QueryCounts.{QueryCounts}
use Rattle.definition.specs.Query.{QueryCall, QueryLists, query_questions, inside_count, queried, query_lists, answer_at, answers_over}
use Rattle.definition.specs.Renumbering.{within, Renumbering, Renumbered, NoNan, TwoQueries, Named, Chosen, SameDistances, QueryKept}
use Rattle.definition.specs.declared.Point.{Point}
use Rattle.definition.proofs.Lists.{value_read}
use Rattle.definition.proofs.Passing.{passes, asked_passed, asked_accepted}
use Rattle.definition.proofs.Root.{root_not_smaller}
use Rattle.definition.proofs.Renumbering.Moves.{moved_pair, within_permutes}
use Rattle.definition.proofs.Renumbering.Distance.{IsNumber, square_is_distance, root_number, element_distance_is, face_distance_is}
use Rattle.definition.proofs.Renumbering.FirstMinimum.{Choice, choice}
use Rattle.definition.proofs.Renumbering.Mesh.{Passed, passed_says, nodes_count, elements_count, points_count, gathered_same, point_same, query_passes}

-- ---- what the lists after an accepted query hold at point p
pub record Read (q : QueryCall) (l : QueryLists) (p : ℕ) : Type 0 where
  pub node : get_or l.node_indices p 0 ≡ (answer_at q p).node.node_index
  pub node_distance_is : get_or l.node_distances p nan ≡ (answer_at q p).node.distance
  pub element : get_or l.element_indices p 0 ≡ (answer_at q p).element.element_index
  pub element_distance_is : get_or l.element_distances p nan ≡ (answer_at q p).element.distance
  pub face_element : get_or l.face_element_indices p 0 ≡ (answer_at q p).face.element_index
  pub local_face : get_or l.face_local_faces p 0 ≡ (answer_at q p).face.local_face
  pub face_distance_is : get_or l.face_distances p nan ≡ (answer_at q p).face.distance

pub read : (q : QueryCall) (n : ℕ) (lent : QueryLists) (p : ℕ) → p < n → Read q (answers_over q n lent) p
unfolding answers_over
read q n lent p h =
    record {
      node = value_read (λ p. (answer_at q p).node.node_index) lent.node_indices 0 h;
      node_distance_is = value_read (λ p. (answer_at q p).node.distance) lent.node_distances nan h;
      element = value_read (λ p. (answer_at q p).element.element_index) lent.element_indices 0 h;
      element_distance_is = value_read (λ p. (answer_at q p).element.distance) lent.element_distances nan h;
      face_element = value_read (λ p. (answer_at q p).face.element_index) lent.face_element_indices 0 h;
      local_face = value_read (λ p. (answer_at q p).face.local_face) lent.face_local_faces 0 h;
      face_distance_is = value_read (λ p. (answer_at q p).face.distance) lent.face_distances nan h;
    }

-- ---- one point of a query and of the query renumbered
module _ (q : QueryCall) (r : Renumbering q) (q' : QueryCall) (R : Renumbered q r q') (P : Passed q) (p : ℕ) (lp : p < pair_count q.points)
    (N : NoNan q.mesh q.iterations (pair_at q.points p)) where
  abbrev m : Mesh
  m = q.mesh

  abbrev m' : Mesh
  m' = q'.mesh

  abbrev k : ℕ
  k = q.iterations

  abbrev k' : ℕ
  k' = q'.iterations

  abbrev t : Point
  t = pair_at q.points p

  abbrev t' : Point
  t' = pair_at q'.points (r.to_p p)

  at : t' ≡ t
  at = point_same q r q' R P p lp

  -- a distance to a node, an element or a face is the same in the new order
  node_same : (i : ℕ) → i < node_count m → node_square m' k' t' (r.to_n i) ≡ node_square m k t i
  node_same i l = let v = moved_pair R.nodes l in λ j. squared_distance (v.0 j) (v.1 j) (at j).x (at j).y

  element_same : (e : ℕ) → e < element_count m → element_distance m' k' t' (r.to_e e) ≡ element_distance m k t e
  unfolding closest_reference_point
  element_same e l = λ i. root_of (element_best (gathered_same q r q' R P e l i) (at i) (R.iterations i)).square

  face_same : (f : ℕ) → f < 4 * element_count m → face_distance m' k' t' (within 4 r.to_e f) ≡ face_distance m k t f
  unfolding closest_face_point
  face_same f l =
      let e = r.to_e (f / 4) in
      let part : (4 * e + f % 4) / 4 ≡ e = omega arith in
      let face : (4 * e + f % 4) % 4 ≡ f % 4 = omega arith in
      let g : gathered m' ((4 * e + f % 4) / 4) ≡ gathered m (f / 4) = ap (gathered m') part ∙ gathered_same q r q' R P (f / 4) (omega arith) in
      λ i. root_of (face_best (g i) (face i) (at i) (R.iterations i)).square

  -- and they are numbers
  node_number : (i : ℕ) → i < node_count m → IsNumber (node_square m k t i)
  node_number i l = root_number (square_is_distance (first m.nodes i) (second m.nodes i) t.x t.y) (N.nodes i l)

  element_number : (e : ℕ) → e < element_count m → IsNumber (element_distance m k t e)
  element_number e l = record { is_distance = element_distance_is (gathered m e) e t k; not_nan = N.elements e l }

  face_number : (f : ℕ) → f < 4 * element_count m → IsNumber (face_distance m k t f)
  face_number f l = record { is_distance = face_distance_is (gathered m (f / 4)) (f / 4) (f % 4) t k; not_nan = N.faces f l }

  -- the one law, three times
  pub nodes_choice : Choice (node_square m k t) (node_square m' k' t') (node_count m) (node_count m') r.to_n
  nodes_choice = choice (node_count m) (node_count m') (nodes_count q r q' R P) P.some_node_lem r.to_n r.from_n r.nodes (node_square m k t) (node_square m' k' t') node_same node_number

  pub elements_choice : Choice (element_distance m k t) (element_distance m' k' t') (element_count m) (element_count m') r.to_e
  elements_choice = choice (element_count m) (element_count m') (elements_count q r q' R P) P.some_element_lem r.to_e r.from_e r.elements (element_distance m k t) (element_distance m' k' t') element_same element_number

  pub faces_choice : Choice (face_distance m k t) (face_distance m' k' t') (4 * element_count m) (4 * element_count m') (within 4 r.to_e)
  faces_choice =
      choice (4 * element_count m) (4 * element_count m') (ap (λ (n : ℕ). 4 * n) (elements_count q r q' R P)) (omega (arith, P.some_element_lem)) (within 4 r.to_e) (within 4 r.from_e)
      (within_permutes (omega arith) r.elements) (face_distance m k t) (face_distance m' k' t') face_same face_number

-- the law of the choice at one point
pub record Choices (q : QueryCall) (r : Renumbering q) (q' : QueryCall) (p : ℕ) : Type 0 where
  pub nodes : Choice (node_square q.mesh q.iterations (pair_at q.points p)) (node_square q'.mesh q'.iterations (pair_at q'.points (r.to_p p))) (node_count q.mesh) (node_count q'.mesh) r.to_n
  pub elements : Choice (element_distance q.mesh q.iterations (pair_at q.points p)) (element_distance q'.mesh q'.iterations (pair_at q'.points (r.to_p p))) (element_count q.mesh) (element_count q'.mesh) r.to_e
  pub faces : Choice (face_distance q.mesh q.iterations (pair_at q.points p)) (face_distance q'.mesh q'.iterations (pair_at q'.points (r.to_p p))) (4 * element_count q.mesh) (4 * element_count q'.mesh) (within 4 r.to_e)

-- what a query names is the first of the nearest: from the law of the choice at its point
named : (q : QueryCall) (l : QueryLists) (p : ℕ) → Read q l p
    → ((i : ℕ) → i < node_count q.mesh → IsNumber (node_square q.mesh q.iterations (pair_at q.points p) i))
    → Named (node_square q.mesh q.iterations (pair_at q.points p)) (node_count q.mesh) (pick (node_square q.mesh q.iterations (pair_at q.points p)) (node_count q.mesh))
    → Named (element_distance q.mesh q.iterations (pair_at q.points p)) (element_count q.mesh) (pick (element_distance q.mesh q.iterations (pair_at q.points p)) (element_count q.mesh))
    → Named (face_distance q.mesh q.iterations (pair_at q.points p)) (4 * element_count q.mesh) (pick (face_distance q.mesh q.iterations (pair_at q.points p)) (4 * element_count q.mesh))
    → Chosen q l p
unfolding point_answer closest_reference_point closest_face_point
named q l p v numbers node element face =
    let m = q.mesh in
    let k = q.iterations in
    let t = pair_at q.points p in
    let f = pick (face_distance m k t) (4 * element_count m) in
    let split : 4 * (f / 4) + f % 4 ≡ f = omega arith in
    let face-is : 4 * get_or l.face_element_indices p 0 + get_or l.face_local_faces p 0 ≡ f = (λ i. 4 * v.face_element i + v.local_face i) ∙ split in
    record {
      node = rw v.node node;
      node_distance_is = v.node_distance_is ∙ ap (node_distance m k t) (sym v.node);
      node_least = λ i h. rw v.node_distance_is (root_not_smaller (node_square m k t i) (node_square m k t (pick (node_square m k t) (node_count m))) (numbers i h).is_distance.fitting (numbers (pick (node_square m k t) (node_count m)) node.inside).is_distance.fitting (node.least i h));
      element = rw v.element element;
      element_distance_is = v.element_distance_is ∙ ap (element_distance m k t) (sym v.element);
      local_face = rw v.local_face (mod-lt f (omega arith));
      face = rw face-is face;
      face_distance_is = v.face_distance_is ∙ ap (face_distance m k t) (sym face-is);
    }

-- ---- the two runs
module _ (t : TwoQueries) where
  abbrev q : QueryCall
  q = t.query

  abbrev q' : QueryCall
  q' = t.query'

  questions_pass : (passes (query_questions q t.before) ≡ true) × (record { points = pair_count q.points; repeated = repeated_count q.mesh; inside = inside_count q } ≡ t.counts)
  unfolding queried
  questions_pass = asked_accepted (query_questions q t.before) (sym t.promise.answers ∙ t.passed)

  pub passed : Passed q
  passed = passed_says q t.before questions_pass.0

  pub points_are : pair_count q.points ≡ t.counts.points
  points_are = ap (λ (c : QueryCounts). c.points) questions_pass.1

  pub point_in : (p : ℕ) → p < t.counts.points → p < pair_count q.points
  point_in p l = rw points_are l

  abbrev counts' : QueryCounts
  counts' = record { points = pair_count q'.points; repeated = repeated_count q'.mesh; inside = inside_count q' }

  queried' : queried q' t.before' ≡ accepted counts'
  unfolding queried
  queried' = asked_passed (query_questions q' t.before') counts' (query_passes q t.order q' t.renumbered passed t.before t.before' t.lengths ∙ questions_pass.0)

  pub points_are' : pair_count q'.points ≡ t.counts.points
  points_are' = points_count q t.order q' t.renumbered passed ∙ points_are

  pub after_is : t.after ≡ answers_over q t.counts.points t.before
  after_is = t.promise.leaves ∙ ap (λ (o : Outcome QueryCounts). query_lists q o t.before) (sym t.promise.answers ∙ t.passed)

  pub after_is' : t.after' ≡ answers_over q' t.counts.points t.before'
  after_is' = t.promise'.leaves ∙ ap (λ (o : Outcome QueryCounts). query_lists q' o t.before') queried' ∙ ap (λ (n : ℕ). answers_over q' n t.before') points_are'

  reads : (p : ℕ) → p < t.counts.points → Read q t.after p
  reads p l = subst (λ (x : QueryLists). Read t.query x p) (sym after_is) (read q t.counts.points t.before p l)

  reads' : (p : ℕ) → p < t.counts.points → Read q' t.after' p
  reads' p l = subst (λ (x : QueryLists). Read t.query' x p) (sym after_is') (read q' t.counts.points t.before' p l)

  pub new_point : (p : ℕ) → p < t.counts.points → t.order.to_p p < t.counts.points
  new_point p l = rw (← points_are) (t.order.points.to_in p (point_in p l))

  pub choices : (p : ℕ) → p < t.counts.points → Choices q t.order q' p
  choices p l =
      let lp = point_in p l in
      record {
        nodes = nodes_choice q t.order q' t.renumbered passed p lp (t.no_nan p lp);
        elements = elements_choice q t.order q' t.renumbered passed p lp (t.no_nan p lp);
        faces = faces_choice q t.order q' t.renumbered passed p lp (t.no_nan p lp);
      }

  module _ (p : ℕ) (l : p < t.counts.points) where
    distances : SameDistances t.after p t.after' (t.order.to_p p)
    unfolding point_answer closest_reference_point closest_face_point
    distances =
        let a = reads p l in
        let b = reads' (t.order.to_p p) (new_point p l) in
        let c = choices p l in
        record {
          node = b.node_distance_is ∙ ap root_of c.nodes.distance ∙ sym a.node_distance_is;
          element = b.element_distance_is ∙ c.elements.distance ∙ sym a.element_distance_is;
          face = b.face_distance_is ∙ c.faces.distance ∙ sym a.face_distance_is;
        }

    chosen : Chosen q t.after p
    chosen =
        let c = choices p l in
        named q t.after p (reads p l) (node_number q t.order q' t.renumbered passed p (point_in p l) (t.no_nan p (point_in p l))) c.nodes.named c.elements.named c.faces.named

    chosen_moved : Chosen q' t.after' (t.order.to_p p)
    chosen_moved =
        let c = choices p l in
        named q' t.after' (t.order.to_p p) (reads' (t.order.to_p p) (new_point p l)) c.nodes.numbers' c.nodes.named' c.elements.named' c.faces.named'

  pub query_kept : QueryKept t.query t.order t.query' t.counts t.after t.after' t.answer'
  query_kept =
      record {
        counts' = counts';
        passed' = t.promise'.answers ∙ queried';
        points' = points_are';
        distances = distances;
        chosen = chosen;
        chosen' = λ p l.
            let lo = t.order.points.from_in p (point_in p l) in
            rw (t.order.points.to_from p (point_in p l)) at (chosen_moved (t.order.from_p p) (rw (← points_are) lo));
      }
