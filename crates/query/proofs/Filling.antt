-- Lists filled point by point come to hold the definition's answers where they have room, since each store has its place. No store changes a length. Assumes nothing.
use mathlib.Core.Path.{◌≡◌, refl}
use mathlib.Core.Bool.{Bool, true, false, cond}
use mathlib.Core.List.{List, [], ◌∷◌}
use Prim.Native.Nat.{ℕ, zero, suc, ◌+◌, ◌*◌, ◌/◌, ◌≤◌, ◌<◌}
use native.Mathlib.Numerals.{add-one}
use native.Mathlib.Omega.{arith}
use Rattle.std.proofs.lemmas.Bool.Decides.{nat_tests}
use borrow.Author.Tests.{lt-ltb}
use lib.Dec.{ltb}
use lib.ListN.{length, set, length-set}
use lib.Ieee.{Float, eq}
use mir.Val.{bool_byte}
use Rattle.definition.specs.Binary64.{plus0}
use Rattle.definition.specs.Lists.{each, over, count_of}
use Rattle.definition.specs.Query.{QueryCall, QueryLists, query_room, values, answer_at, answers_over}
use Rattle.definition.specs.declared.PointAnswer.{PointAnswer}
use Rattle.definition.proofs.Lists.{over_value, over_pair, over_length, pairs_length}
use Rattle.answers.specs.Stored.{pair_stored, stored}
use Rattle.query.specs.Filled.{is_inside, filled}

-- one value a point, and one pair a point, of the first n points, each stored in its place
unfoldable stores : {A : Type 0} → (ℕ → A) → ℕ → List A → List A
stores v zero l = l
stores v (suc n) l = set (stores v n l) n (v n)

unfoldable pair_stores : (ℕ → Float) → (ℕ → Float) → ℕ → List Float → List Float
pair_stores x y zero l = l
pair_stores x y (suc n) l = pair_stored n (x n) (y n) (pair_stores x y n l)

stores_over : {A : Type 0} (v : ℕ → A) (n : ℕ) (l : List A) → n ≤ length l → stores v n l ≡ over (values v n) l
unfolding stores each over
stores_over v zero l h = refl
stores_over v (suc n) l h = rw (stores_over v n l (omega arith), ← over_value v n l h, add-one)

pair_stores_over : (x y : ℕ → Float) (n : ℕ) (l : List Float) → 2 * n ≤ length l → pair_stores x y n l ≡ over (each (λ p. x p ∷ y p ∷ []) n) l
unfolding pair_stores each over
pair_stores_over x y zero l h = refl
pair_stores_over x y (suc n) l h =
    let before = each (λ p. x p ∷ y p ∷ []) n in
    let same : length (over before l) ≡ length l = over_length before l (rw (pairs_length x y n) (omega arith)) in
    let below : n < length (over before l) / 2 = rw same (omega arith) in
    rw (pair_stores_over x y n l (omega arith), lt-ltb n (length (over before l) / 2) below, ← over_pair x y n l (omega arith), add-one)

-- the lists filled, each apart
filled_apart : (q : QueryCall) (n : ℕ) (l : QueryLists) → filled q n l ≡ record {
  node_indices = stores (λ p. (answer_at q p).node.node_index) n l.node_indices;
  node_points = pair_stores (λ p. (answer_at q p).node.point.x) (λ p. (answer_at q p).node.point.y) n l.node_points;
  node_distances = stores (λ p. (answer_at q p).node.distance) n l.node_distances;
  element_indices = stores (λ p. (answer_at q p).element.element_index) n l.element_indices;
  element_references = pair_stores (λ p. (answer_at q p).element.reference.xi) (λ p. (answer_at q p).element.reference.eta) n l.element_references;
  element_points = pair_stores (λ p. (answer_at q p).element.point.x) (λ p. (answer_at q p).element.point.y) n l.element_points;
  element_distances = stores (λ p. (answer_at q p).element.distance) n l.element_distances;
  face_element_indices = stores (λ p. (answer_at q p).face.element_index) n l.face_element_indices;
  face_local_faces = stores (λ p. (answer_at q p).face.local_face) n l.face_local_faces;
  face_coordinates = stores (λ p. (answer_at q p).face.s) n l.face_coordinates;
  face_points = pair_stores (λ p. (answer_at q p).face.point.x) (λ p. (answer_at q p).face.point.y) n l.face_points;
  face_distances = stores (λ p. (answer_at q p).face.distance) n l.face_distances;
}
unfolding filled stores pair_stores
filled_apart q zero l = refl
filled_apart q (suc n) l = rw (filled_apart q n l)

-- each list has the places of n points
record Roomy (l : QueryLists) (n : ℕ) : Type 0 where
  node_indices : n ≤ length l.node_indices
  node_points : 2 * n ≤ length l.node_points
  node_distances : n ≤ length l.node_distances
  element_indices : n ≤ length l.element_indices
  element_references : 2 * n ≤ length l.element_references
  element_points : 2 * n ≤ length l.element_points
  element_distances : n ≤ length l.element_distances
  face_element_indices : n ≤ length l.face_element_indices
  face_local_faces : n ≤ length l.face_local_faces
  face_coordinates : n ≤ length l.face_coordinates
  face_points : 2 * n ≤ length l.face_points
  face_distances : n ≤ length l.face_distances

-- "one place a point for the query, two where the answer is a pair of coordinates", list by list
room_parts : (l : QueryLists) (n : ℕ) → query_room l n ≡ true → Roomy l n
unfolding query_room
room_parts l n h = grind (arith, nat_tests)

pub filled_answers : (q : QueryCall) (n : ℕ) (l : QueryLists) → query_room l n ≡ true → filled q n l ≡ answers_over q n l
unfolding answers_over
filled_answers q n l h =
    let r = room_parts l n h in
    rw filled_apart (simp (
      stores_over,
      pair_stores_over,
      r.node_indices,
      r.node_points,
      r.node_distances,
      r.element_indices,
      r.element_references,
      r.element_points,
      r.element_distances,
      r.face_element_indices,
      r.face_local_faces,
      r.face_coordinates,
      r.face_points,
      r.face_distances,
    ))

-- ---- each list keeps its length, with room or without

-- the lengths of the lists, in their order
abbrev pub lengths : QueryLists → List ℕ
lengths l =
    length l.node_indices
    ∷ length l.node_points
    ∷ length l.node_distances
    ∷ length l.element_indices
    ∷ length l.element_references
    ∷ length l.element_points
    ∷ length l.element_distances
    ∷ length l.face_element_indices
    ∷ length l.face_local_faces
    ∷ length l.face_coordinates
    ∷ length l.face_points
    ∷ length l.face_distances
    ∷ []

pair_length : (p : ℕ) (x y : Float) (l : List Float) → length (pair_stored p x y l) ≡ length l
pair_length p x y l = elim (ltb p (length l / 2)) as (λ b. length (cond b (set (set l (2 * p) x) (2 * p + 1) y) l) ≡ length l) [ true ↦ simp length-set | false ↦ refl ]

pub filled_lengths : (q : QueryCall) (n : ℕ) (l : QueryLists) → lengths (filled q n l) ≡ lengths l
unfolding filled
filled_lengths q zero l = refl
filled_lengths q (suc n) l = simp (pair_length, length-set) (filled_lengths q n l)

-- ---- one point more

pub filled_next : (q : QueryCall) (n : ℕ) (l : QueryLists) {cur : QueryLists} {a : PointAnswer} → cur ≡ filled q n l → a ≡ answer_at q n → stored a n cur ≡ filled q (n + 1) l
unfolding filled
filled_next q n l h e = rw (h, e, add-one n)

-- a test as a number is 1 or 0
byte_is : (b : Bool) → bool_byte b ≡ cond b 1 0
byte_is true = refl
byte_is false = refl

pub byte_le_one : (b : Bool) {one : ℕ} → one ≡ bool_byte b → one ≤ 1
byte_le_one true e = omega arith
byte_le_one false e = omega arith

pub inside_next : (q : QueryCall) (n : ℕ) {inside one : ℕ} {a : PointAnswer} → inside ≡ count_of (is_inside q) n → a ≡ answer_at q n → one ≡ bool_byte (eq a.element.distance plus0) → inside + one ≡ count_of (is_inside q) (n + 1)
unfolding count_of
inside_next q n h e o = rw (h, o, e, add-one n, byte_is)
