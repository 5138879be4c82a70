-- What a query's promise says of its listing: each answer is read back from the places to which it was written. Assumes nothing.
use Rattle.std.proofs.Common.{◌≡◌, refl, sym, ap, Result, Ok, Err, ◌++◌, ℕ, ◌≤◌, ◌<◌, length, arith}
use lib.Ieee.{nan}
use Rattle.definition.specs.Lists.{over}
use Rattle.definition.specs.Query.{QueryCall, QueryLists, answer_at, query_questions, queried, values, answers_over, QueryPromise}
use Rattle.definition.specs.Job.{counts_line, point_line, own_lists, query_listing}
use Rattle.definition.specs.declared.QueryCounts.{QueryCounts}
use Rattle.definition.specs.declared.Refusal.{Refusal}
use Rattle.definition.proofs.Lists.{each_same, values_length, over_length, value_read, first_read, second_read}
use Rattle.definition.proofs.Passing.{asked_accepted}
use Rattle.listing.specs.Page.{Puts}
use Rattle.listing.specs.declared.Page.{Page}
use Rattle.listing.specs.Answers.{answer_in, listed_of, answer_listing}

-- ---- one place of the lists with the answers over them

answers_read : (q : QueryCall) (lent : QueryLists) {n p : ℕ} → p < n → answer_in (answers_over q n lent) p ≡ answer_at q p
unfolding answers_over
answers_read q lent {n} {p} l =
    rw (
      value_read (λ i. (answer_at q i).node.node_index) lent.node_indices 0 l,
      first_read (λ i. (answer_at q i).node.point.x) (λ i. (answer_at q i).node.point.y) lent.node_points nan l,
      second_read (λ i. (answer_at q i).node.point.x) (λ i. (answer_at q i).node.point.y) lent.node_points nan l,
      value_read (λ i. (answer_at q i).node.distance) lent.node_distances nan l,
      value_read (λ i. (answer_at q i).element.element_index) lent.element_indices 0 l,
      first_read (λ i. (answer_at q i).element.reference.xi) (λ i. (answer_at q i).element.reference.eta) lent.element_references nan l,
      second_read (λ i. (answer_at q i).element.reference.xi) (λ i. (answer_at q i).element.reference.eta) lent.element_references nan l,
      first_read (λ i. (answer_at q i).element.point.x) (λ i. (answer_at q i).element.point.y) lent.element_points nan l,
      second_read (λ i. (answer_at q i).element.point.x) (λ i. (answer_at q i).element.point.y) lent.element_points nan l,
      value_read (λ i. (answer_at q i).element.distance) lent.element_distances nan l,
      value_read (λ i. (answer_at q i).face.element_index) lent.face_element_indices 0 l,
      value_read (λ i. (answer_at q i).face.local_face) lent.face_local_faces 0 l,
      value_read (λ i. (answer_at q i).face.s) lent.face_coordinates nan l,
      first_read (λ i. (answer_at q i).face.point.x) (λ i. (answer_at q i).face.point.y) lent.face_points nan l,
      second_read (λ i. (answer_at q i).face.point.x) (λ i. (answer_at q i).face.point.y) lent.face_points nan l,
      value_read (λ i. (answer_at q i).face.distance) lent.face_distances nan l,
    )

-- ---- the promise

-- the points that have places are all listed
listed_all : (q : QueryCall) (lent : QueryLists) {n : ℕ} → n ≤ length lent.node_indices → listed_of n (answers_over q n lent) ≡ n
unfolding answers_over
listed_all q lent {n} h =
    let v : ℕ → ℕ = λ p. (answer_at q p).node.node_index in
    let size : length (over (values v n) lent.node_indices) ≡ length lent.node_indices = over_length (values v n) lent.node_indices (rw (values_length v n) h) in
    omega arith

-- the program's own lists have 256 places
pub own_room : length own_lists.node_indices ≡ 256
unfolding own_lists
own_room = refl

-- the points of a query of at most 512 coordinates all have places
same_listing : (q : QueryCall) (lent : QueryLists) (answer : Result QueryCounts Refusal) {after : QueryLists} → length q.points ≤ 512 → length lent.node_indices ≡ 256 → QueryPromise q lent answer after → query_listing q (queried q lent) ≡ answer_listing answer after
unfolding queried
same_listing q lent (Ok counts) few room h =
    let same = (asked_accepted (query_questions q lent) (sym h.answers)).1 in
    let n = ap (λ (c : QueryCounts). c.points) same in
    let lists = rw (← h.answers) at h.leaves in
    rw (← h.answers, lists, listed_all q lent {n = counts.points} (omega (arith, n))) (ap (λ l. counts_line counts ++ l) (each_same (λ p l. ap (point_line p) (sym (answers_read q lent l)))))
same_listing q lent (Err refusal) few room h = rw (← h.answers) refl

pub promised_listing : (q : QueryCall) (lent : QueryLists) (answer : Result QueryCounts Refusal) {after : QueryLists} {p r : Page} → length q.points ≤ 512 → length lent.node_indices ≡ 256 → QueryPromise q lent answer after → Puts p r (answer_listing answer after) → Puts p r (query_listing q (queried q lent))
promised_listing q lent answer few room h puts = rw (same_listing q lent answer few room h) puts
