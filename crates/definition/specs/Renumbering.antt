-- Demand 3: what a renumbering of nodes, elements and points keeps. This is the statement; `proofs/Renumbering.antt` proves it.
-- "A renumbering permutes the nodes, with the connectivity's numbers changed to match; the elements, with their material numbers and pairs; and the points. The order inside an element's row stays, so faces and coordinates do too. The lent outputs keep their lengths. All other arguments stay".
use Rattle.std.specs.Prelude.{◌≡◌, Result, true, false, cond, List, [], ◌∷◌, map, ℕ, ◌+◌, ◌*◌, ◌/◌, ◌%◌, ◌<◌, eqb, length, get_or, take, Float}
use Rattle.std.specs.Float.{nan}
use Rattle.std.specs.Float.Ieee.{lt, is_nan}
use Rattle.definition.specs.Lists.{each}
use Rattle.definition.specs.Elements.{nodes_of}
use Rattle.definition.specs.Mesh.{Mesh, node_count, element_count, pair_count, pair_at}
use Rattle.definition.specs.Choice.{node_square, node_distance, element_distance, face_distance}
use Rattle.definition.specs.Questions.{outcome, Outcome, accepted, refused}
use Rattle.definition.specs.Query.{QueryCall, QueryLists, QueryPromise}
use Rattle.definition.specs.Rows.{Triplet}
use Rattle.definition.specs.Operators.{InterpolationCall, StrainCall, StressCall, TripletLists, Operator, OperatorPromise, interpolation, strain, stress}
use Rattle.definition.specs.declared.Point.{Point}
use Rattle.definition.specs.declared.QueryCounts.{QueryCounts}
use Rattle.definition.specs.declared.OperatorCounts.{OperatorCounts}
use Rattle.definition.specs.declared.Refusal.{Refusal}

-- ---- permutations, and lists whose records are moved

-- a permutation of the numbers below n: `to` gives the new number of each, `from` the old one
pub record Permutation (n : ℕ) (to from : ℕ → ℕ) : Type 0 where
  pub to_in : (i : ℕ) → i < n → to i < n
  pub from_in : (i : ℕ) → i < n → from i < n
  pub from_to : (i : ℕ) → i < n → from (to i) ≡ i
  pub to_from : (i : ℕ) → i < n → to (from i) ≡ i

-- number i of part i / k goes with its part and keeps its place in it: a face with its element, a row with its point, a column with its node
abbrev pub within : ℕ → (ℕ → ℕ) → ℕ → ℕ
within k to i = k * to (i / k) + i % k

-- l' is l with its n records of k entries each moved: record i is record `to i`, each entry changed by g; d stands past a list's end
pub record Moved {A : Type 0} (k n : ℕ) (to : ℕ → ℕ) (g : A → A) (d : A) (l l' : List A) : Type 0 where
  pub same_length : length l' ≡ length l
  pub entries : (i j : ℕ) → i < n → j < k → get_or l' (k * to i + j) d ≡ g (get_or l (k * i + j) d)

abbrev pub same : {A : Type 0} → A → A
same x = x

-- the three permutations of a query
pub record Renumbering (q : QueryCall) : Type 0 where
  pub to_n : ℕ → ℕ
  pub from_n : ℕ → ℕ
  pub to_e : ℕ → ℕ
  pub from_e : ℕ → ℕ
  pub to_p : ℕ → ℕ
  pub from_p : ℕ → ℕ
  pub nodes : Permutation (node_count q.mesh) to_n from_n
  pub elements : Permutation (element_count q.mesh) to_e from_e
  pub points : Permutation (pair_count q.points) to_p from_p

-- q' is q renumbered
pub record Renumbered (q : QueryCall) (r : Renumbering q) (q' : QueryCall) : Type 0 where
  pub family : q'.mesh.family ≡ q.mesh.family
  pub iterations : q'.iterations ≡ q.iterations
  pub nodes : Moved 2 (node_count q.mesh) r.to_n same nan q.mesh.nodes q'.mesh.nodes
  pub elements : Moved (nodes_of q.mesh.family) (element_count q.mesh) r.to_e r.to_n 0 q.mesh.elements q'.mesh.elements
  pub points : Moved 2 (pair_count q.points) r.to_p same nan q.points q'.points

-- "The lent outputs keep their lengths."
pub record SameLengths (l l' : QueryLists) : Type 0 where
  pub node_indices : length l'.node_indices ≡ length l.node_indices
  pub node_points : length l'.node_points ≡ length l.node_points
  pub node_distances : length l'.node_distances ≡ length l.node_distances
  pub element_indices : length l'.element_indices ≡ length l.element_indices
  pub element_references : length l'.element_references ≡ length l.element_references
  pub element_points : length l'.element_points ≡ length l.element_points
  pub element_distances : length l'.element_distances ≡ length l.element_distances
  pub face_element_indices : length l'.face_element_indices ≡ length l.face_element_indices
  pub face_local_faces : length l'.face_local_faces ≡ length l.face_local_faces
  pub face_coordinates : length l'.face_coordinates ≡ length l.face_coordinates
  pub face_points : length l'.face_points ≡ length l.face_points
  pub face_distances : length l'.face_distances ≡ length l.face_distances

-- ---- the query

-- "no distance from a point to a node, element or face, as document 01 defines them, is NaN": of the point t
pub record NoNan (m : Mesh) (limit : ℕ) (t : Point) : Type 0 where
  pub nodes : (i : ℕ) → i < node_count m → is_nan (node_distance m limit t i) ≡ false
  pub elements : (e : ℕ) → e < element_count m → is_nan (element_distance m limit t e) ≡ false
  pub faces : (k : ℕ) → k < 4 * element_count m → is_nan (face_distance m limit t k) ≡ false

-- two runs of the query, the second on the first's lists renumbered: each meets the query's promise, all questions of the first pass, and no distance in it is NaN
pub record TwoQueries : Type 0 where
  pub query : QueryCall
  pub query' : QueryCall
  pub before : QueryLists
  pub before' : QueryLists
  pub after : QueryLists
  pub after' : QueryLists
  pub answer : Result QueryCounts Refusal
  pub answer' : Result QueryCounts Refusal
  pub promise : QueryPromise query before answer after
  pub promise' : QueryPromise query' before' answer' after'
  pub order : Renumbering query
  pub renumbered : Renumbered query order query'
  pub lengths : SameLengths before before'
  pub counts : QueryCounts
  pub passed : outcome answer ≡ accepted counts
  pub no_nan : (p : ℕ) → p < pair_count query.points → NoNan query.mesh query.iterations (pair_at query.points p)

-- number b is the first of the nearest: none of the n distances is smaller, and every earlier one is larger
pub record Named (d : ℕ → Float) (n b : ℕ) : Type 0 where
  pub inside : b < n
  pub least : (i : ℕ) → i < n → lt (d i) (d b) ≡ false
  pub first : (i : ℕ) → i < b → lt (d b) (d i) ≡ true

-- What the lists after a query say of point p: each of its three distances is that of what is named, and is the least; of those that tie the first is named.
-- "Nodes tie where squared distances are equal; elements and faces, where rooted ones are."
pub record Chosen (q : QueryCall) (l : QueryLists) (p : ℕ) : Type 0 where
  pub node : Named (node_square q.mesh q.iterations (pair_at q.points p)) (node_count q.mesh) (get_or l.node_indices p 0)
  pub node_distance_is : get_or l.node_distances p nan ≡ node_distance q.mesh q.iterations (pair_at q.points p) (get_or l.node_indices p 0)
  pub node_least : (i : ℕ) → i < node_count q.mesh → lt (node_distance q.mesh q.iterations (pair_at q.points p) i) (get_or l.node_distances p nan) ≡ false
  pub element : Named (element_distance q.mesh q.iterations (pair_at q.points p)) (element_count q.mesh) (get_or l.element_indices p 0)
  pub element_distance_is : get_or l.element_distances p nan ≡ element_distance q.mesh q.iterations (pair_at q.points p) (get_or l.element_indices p 0)
  pub local_face : get_or l.face_local_faces p 0 < 4
  pub face : Named (face_distance q.mesh q.iterations (pair_at q.points p)) (4 * element_count q.mesh) (4 * get_or l.face_element_indices p 0 + get_or l.face_local_faces p 0)
  pub face_distance_is : get_or l.face_distances p nan ≡ face_distance q.mesh q.iterations (pair_at q.points p) (4 * get_or l.face_element_indices p 0 + get_or l.face_local_faces p 0)

-- point p of the lists l is point p' of the lists l', with the same three distances, bit for bit
pub record SameDistances (l : QueryLists) (p : ℕ) (l' : QueryLists) (p' : ℕ) : Type 0 where
  pub node : get_or l'.node_distances p' nan ≡ get_or l.node_distances p nan
  pub element : get_or l'.element_distances p' nan ≡ get_or l.element_distances p nan
  pub face : get_or l'.face_distances p' nan ≡ get_or l.face_distances p nan

-- "The renumbered query is accepted too. Each point keeps its three distances, bit for bit. Each is the least .. Of those that tie, the first in the new order is named."
pub record QueryKept (q : QueryCall) (r : Renumbering q) (q' : QueryCall) (counts : QueryCounts) (after after' : QueryLists) (answer' : Result QueryCounts Refusal) : Type 0 where
  pub counts' : QueryCounts
  pub passed' : outcome answer' ≡ accepted counts'
  pub points' : counts'.points ≡ counts.points
  pub distances : (p : ℕ) → p < counts.points → SameDistances after p after' (r.to_p p)
  pub chosen : (p : ℕ) → p < counts.points → Chosen q after p
  pub chosen' : (p : ℕ) → p < counts.points → Chosen q' after' p

-- ---- the operators

-- "An element is a nearest one of a point when no element has a smaller distance."
abbrev pub Nearest : (ℕ → Float) → ℕ → ℕ → Type 0
Nearest d n b = (i : ℕ) → i < n → lt (d i) (d b) ≡ false

-- "each point has just one nearest element"
abbrev pub JustOneNearest : QueryCall → Type 0
JustOneNearest q =
    (p : ℕ) → p < pair_count q.points → (a b : ℕ) → a < element_count q.mesh → b < element_count q.mesh
    → Nearest (element_distance q.mesh q.iterations (pair_at q.points p)) (element_count q.mesh) a
    → Nearest (element_distance q.mesh q.iterations (pair_at q.points p)) (element_count q.mesh) b
    → a ≡ b

-- "an operator gets the query's mesh and, unchanged, the numbers of the nearest elements and the reference points in them that the query handed out": n points of them
pub record HandedOut (q : QueryCall) (l : QueryLists) (n : ℕ) (c : InterpolationCall) : Type 0 where
  pub mesh : c.mesh ≡ q.mesh
  pub element_indices : c.element_indices ≡ take n l.element_indices
  pub reference_points : c.reference_points ≡ take (2 * n) l.element_references

-- the lent lists of an operator keep their lengths
pub record SameTripletLengths (l l' : TripletLists) : Type 0 where
  pub rows : length l'.rows ≡ length l.rows
  pub columns : length l'.columns ≡ length l.columns
  pub values : length l'.values ≡ length l.values

-- A list of k numbers an element moves with the elements. A list of any other length stays the same: "and so does a list of material numbers or pairs whose count isn't that of the elements".
pub record Attached {A : Type 0} (k n : ℕ) (to : ℕ → ℕ) (d : A) (l l' : List A) : Type 0 where
  pub moves : length l ≡ k * n → Moved k n to same d l l'
  pub stays : (length l ≡ k * n → ⊥) → l' ≡ l

-- the first n triplets that three lists hold
abbrev pub triplets_of : TripletLists → ℕ → List Triplet
triplets_of l n = each (λ i. record { row = get_or l.rows i 0; column = get_or l.columns i 0; value = get_or l.values i nan } ∷ []) n

-- the triplets of point p: those in its k rows
unfoldable pub of_point : ℕ → ℕ → List Triplet → List Triplet
of_point k p [] = []
of_point k p (t ∷ ts) = cond (eqb (t.row / k) p) (t ∷ of_point k p ts) (of_point k p ts)

-- "row k × p + i of a point p that becomes q is renamed k × q + i; a column goes to its node's new number, with the same component", of c columns a node
abbrev pub renamed : ℕ → ℕ → (ℕ → ℕ) → (ℕ → ℕ) → Triplet → Triplet
renamed k c to_p to_n t = record { row = within k to_p t.row; column = within c to_n t.column; value = t.value }

-- Two accepted runs, with the triplets ts and ts': "The triplets of q are those of p in their order, renamed, the value with the same bits or NaN both times. The numbers of rows and columns stay." NaN is one value here.
pub record SameRows (k c n : ℕ) (to_p to_n : ℕ → ℕ) (s s' : OperatorCounts) (ts ts' : List Triplet) : Type 0 where
  pub rows : s'.rows ≡ s.rows
  pub columns : s'.columns ≡ s.columns
  pub by_point : ts' ≡ each (λ p. of_point k p ts') n
  pub triplets : (p : ℕ) → p < n → of_point k (to_p p) ts' ≡ map (renamed k c to_p to_n) (of_point k p ts)

-- "Each operator is refused both times by its questions, or accepted both times." The number and the place of a refusal are free: they "are those of the new order".
abbrev pub BothTimes : ℕ → ℕ → ℕ → (ℕ → ℕ) → (ℕ → ℕ) → TripletLists → TripletLists → Outcome OperatorCounts → Outcome OperatorCounts → Type 0
BothTimes k c n to_p to_n l l' (refused number place) (refused number' place') = Unit {0}
BothTimes k c n to_p to_n l l' (refused number place) (accepted s') = ⊥
BothTimes k c n to_p to_n l l' (accepted s) (refused number' place') = ⊥
BothTimes k c n to_p to_n l l' (accepted s) (accepted s') = SameRows k c n to_p to_n s s' (triplets_of l s.triplets) (triplets_of l' s'.triplets)

-- two runs of one operator on what two queries handed out for n points; o and o' are what the definition makes of the two calls
pub record TwoOperators (q q' : QueryCall) (l l' : QueryLists) (n : ℕ) (c c' : InterpolationCall) (o o' : TripletLists → Operator) : Type 0 where
  pub handed : HandedOut q l n c
  pub handed' : HandedOut q' l' n c'
  pub before : TripletLists
  pub before' : TripletLists
  pub after : TripletLists
  pub after' : TripletLists
  pub lengths : SameTripletLengths before before'
  pub answer : Result OperatorCounts Refusal
  pub answer' : Result OperatorCounts Refusal
  pub promise : OperatorPromise (o before) before answer after
  pub promise' : OperatorPromise (o' before') before' answer' after'

-- they agree, with k rows a point and c columns a node
abbrev pub OperatorKept : (k c : ℕ) {q q' : QueryCall} {l l' : QueryLists} {n : ℕ} {a a' : InterpolationCall} {o o' : TripletLists → Operator} → (ℕ → ℕ) → (ℕ → ℕ) → TwoOperators q q' l l' n a a' o o' → Type 0
OperatorKept k c {n = n} to_p to_n r = BothTimes k c n to_p to_n r.after r.after' (outcome r.answer) (outcome r.answer')

-- ---- DEMAND 3

pub record Demand3 : Type 0 where
  pub query_kept : (t : TwoQueries) → QueryKept t.query t.order t.query' t.counts t.after t.after' t.answer'
  pub interpolation_kept : (t : TwoQueries) → JustOneNearest t.query → (c c' : InterpolationCall)
      → (r : TwoOperators t.query t.query' t.after t.after' t.counts.points c c' (interpolation c) (interpolation c')) → OperatorKept 1 1 t.order.to_p t.order.to_n r
  pub strain_kept : (t : TwoQueries) → JustOneNearest t.query → (c c' : StrainCall) → c'.formulation ≡ c.formulation
      → (r : TwoOperators t.query t.query' t.after t.after' t.counts.points c.base c'.base (strain c) (strain c')) → OperatorKept 4 2 t.order.to_p t.order.to_n r
  pub stress_kept : (t : TwoQueries) → JustOneNearest t.query → (c c' : StressCall) → c'.formulation ≡ c.formulation
      → Attached 1 (element_count t.query.mesh) t.order.to_e 0 c.material_ids c'.material_ids → c'.material_table ≡ c.material_table
      → c'.pairs_given ≡ c.pairs_given → Attached 2 (element_count t.query.mesh) t.order.to_e nan c.pairs c'.pairs
      → (r : TwoOperators t.query t.query' t.after t.after' t.counts.points c.base c'.base (stress c) (stress c')) → OperatorKept 4 2 t.order.to_p t.order.to_n r

-- ---- the same with the renumbered lists computed

-- the list l with its records moved: the entry at each place is that of the place it comes from, changed by g
unfoldable pub move_list : {A : Type 0} → ℕ → (ℕ → ℕ) → (A → A) → A → List A → List A
move_list k from g d l = each (λ s. g (get_or l (within k from s) d) ∷ []) (length l)

abbrev pub renumbered_query : (q : QueryCall) → Renumbering q → QueryCall
renumbered_query q r =
    record {
      mesh = record {
        family = q.mesh.family;
        nodes = move_list 2 r.from_n same nan q.mesh.nodes;
        elements = move_list (nodes_of q.mesh.family) r.from_e r.to_n 0 q.mesh.elements;
      };
      iterations = q.iterations;
      points = move_list 2 r.from_p same nan q.points;
    }

-- a list of k numbers an element, for n elements: it stays where its count is another
abbrev pub attached_list : {A : Type 0} → ℕ → ℕ → (ℕ → ℕ) → A → List A → List A
attached_list k n from d l = cond (eqb (length l) (k * n)) (move_list k from same d l) l

-- a run of the query, and a run of the query renumbered
pub record ComputedQueries : Type 0 where
  pub query : QueryCall
  pub order : Renumbering query
  pub before : QueryLists
  pub before' : QueryLists
  pub after : QueryLists
  pub after' : QueryLists
  pub answer : Result QueryCounts Refusal
  pub answer' : Result QueryCounts Refusal
  pub promise : QueryPromise query before answer after
  pub promise' : QueryPromise (renumbered_query query order) before' answer' after'
  pub lengths : SameLengths before before'
  pub counts : QueryCounts
  pub passed : outcome answer ≡ accepted counts
  pub no_nan : (p : ℕ) → p < pair_count query.points → NoNan query.mesh query.iterations (pair_at query.points p)

-- DEMAND 3 again: whatever the permutations, of the lists that they give
pub record Demand3Computed : Type 0 where
  pub query_kept : (t : ComputedQueries) → QueryKept t.query t.order (renumbered_query t.query t.order) t.counts t.after t.after' t.answer'
  pub interpolation_kept : (t : ComputedQueries) → JustOneNearest t.query → (c c' : InterpolationCall)
      → (r : TwoOperators t.query (renumbered_query t.query t.order) t.after t.after' t.counts.points c c' (interpolation c) (interpolation c')) → OperatorKept 1 1 t.order.to_p t.order.to_n r
  pub strain_kept : (t : ComputedQueries) → JustOneNearest t.query → (c c' : StrainCall) → c'.formulation ≡ c.formulation
      → (r : TwoOperators t.query (renumbered_query t.query t.order) t.after t.after' t.counts.points c.base c'.base (strain c) (strain c')) → OperatorKept 4 2 t.order.to_p t.order.to_n r
  pub stress_kept : (t : ComputedQueries) → JustOneNearest t.query → (c c' : StressCall) → c'.formulation ≡ c.formulation
      → c'.material_ids ≡ attached_list 1 (element_count t.query.mesh) t.order.from_e 0 c.material_ids → c'.material_table ≡ c.material_table
      → c'.pairs_given ≡ c.pairs_given → c'.pairs ≡ attached_list 2 (element_count t.query.mesh) t.order.from_e nan c.pairs
      → (r : TwoOperators t.query (renumbered_query t.query t.order) t.after t.after' t.counts.points c.base c'.base (stress c) (stress c')) → OperatorKept 4 2 t.order.to_p t.order.to_n r
