-- An instance of demand 3: two squares, a point on their common side that ties, another that does not, and three permutations that move everything. It meets the hypotheses, and its conclusions are computed.
-- Assumes nothing.
use mathlib.Core.Path.{◌≡◌, refl, sym, ap, ◌∙◌}
use mathlib.Core.Bool.{Bool, true, false, not, ◌&&◌, ◌||◌}
use mathlib.Core.List.{List, [], ◌∷◌}
use Rattle.std.specs.Prelude.{Ok}
use Prim.Native.Nat.{ℕ, ◌+◌, ◌-◌, ◌*◌, ◌%◌, ◌<◌}
use borrow.Author.Tests.{ltb-true, eqb-true}
use lib.Dec.{ltb, eqb}
use lib.ListN.{replicate, take}
use lib.Ieee.{Float, binary64, round, lt, is_nan, of_bits}
use Rattle.std.proofs.lemmas.Bool.{and_parts}
use Rattle.definition.specs.Lists.{every, each, over}
use Rattle.definition.specs.Binary64.{plus0, one, two, minus_one, half, quarter}
use Rattle.definition.specs.Mesh.{Mesh, node_count, element_count, pair_count, pair_at}
use Rattle.definition.specs.Choice.{node_distance, element_distance, face_distance}
use Rattle.definition.specs.Questions.{Outcome, accepted}
use Rattle.definition.specs.Query.{QueryCall, QueryLists, queried, query_lists, answer_at, answers_over}
use Rattle.definition.specs.Operators.{InterpolationCall, TripletLists, operated, triplet_lists, interpolation}
use Rattle.definition.specs.Rows.{Triplet}
use Rattle.definition.specs.Renumbering.{Permutation, Renumbering, SameLengths, NoNan, QueryKept, Nearest, JustOneNearest, triplets_of, TwoOperators, OperatorKept, move_list, renumbered_query, ComputedQueries}
use Rattle.definition.specs.declared.Point.{Point}
use Rattle.definition.specs.declared.PointAnswer.{PointAnswer}
use Rattle.definition.specs.declared.ElementProjection.{ElementProjection}
use Rattle.definition.specs.declared.QueryCounts.{QueryCounts}
use Rattle.definition.specs.declared.OperatorCounts.{OperatorCounts}
use Rattle.definition.proofs.Computing.{querying, operating}
use Rattle.definition.proofs.Lists.{every_at}
use Rattle.definition.proofs.Renumbering.Computed.{demand3_computed}

-- ---- hypotheses by tests that compute

-- whether to and from permute the numbers below n
permutes : ℕ → (ℕ → ℕ) → (ℕ → ℕ) → Bool
permutes n to from = every (λ i. (ltb (to i) n && ltb (from i) n) && (eqb (from (to i)) i && eqb (to (from i)) i)) n

permutation : (n : ℕ) (to from : ℕ → ℕ) → permutes n to from ≡ true → Permutation n to from
unfolding permutes
permutation n to from h =
    record {
      to_in = λ i l. ltb-true (to i) n (and_parts (ltb (to i) n) (ltb (from i) n) (at i l).0).0;
      from_in = λ i l. ltb-true (from i) n (and_parts (ltb (to i) n) (ltb (from i) n) (at i l).0).1;
      from_to = λ i l. eqb-true (from (to i)) i (and_parts (eqb (from (to i)) i) (eqb (to (from i)) i) (at i l).1).0;
      to_from = λ i l. eqb-true (to (from i)) i (and_parts (eqb (from (to i)) i) (eqb (to (from i)) i) (at i l).1).1;
    }
  where
    at : (i : ℕ) → i < n → ((ltb (to i) n && ltb (from i) n) ≡ true) × ((eqb (from (to i)) i && eqb (to (from i)) i) ≡ true)
    at i l = and_parts _ _ (every_at (λ i. (ltb (to i) n && ltb (from i) n) && (eqb (from (to i)) i && eqb (to (from i)) i)) h l)

-- whether none of n values is NaN
numbers : (ℕ → Float) → ℕ → Bool
numbers d n = every (λ i. not (is_nan (d i))) n

not_nan : (d : ℕ → Float) (n : ℕ) → numbers d n ≡ true → (i : ℕ) → i < n → is_nan (d i) ≡ false
unfolding numbers
not_nan d n h i l = by (is_nan (d i)) (every_at (λ i. not (is_nan (d i))) h l)
  where
    by : (b : Bool) → not b ≡ true → b ≡ false
    by true e = sym e
    by false e = refl

-- ---- the two squares of probe 13

abbrev number : ℕ → Float
number n = round binary64 false n 1

abbrev squares : Mesh
squares =
    record {
      family = 4;
      nodes = plus0 ∷ plus0 ∷ two ∷ plus0 ∷ two ∷ two ∷ plus0 ∷ two ∷ number 4 ∷ plus0 ∷ number 4 ∷ two ∷ [];
      elements = 0 ∷ 1 ∷ 2 ∷ 3 ∷ 1 ∷ 4 ∷ 5 ∷ 2 ∷ [];
    }

abbrev query_at : List Float → QueryCall
query_at points = record { mesh = squares; iterations = 0; points = points }

-- (2, 1) lies on both squares; (5, 1) is nearest to the second
abbrev tied : QueryCall
tied = query_at (two ∷ one ∷ number 5 ∷ one ∷ [])

-- nodes one up in a ring, the two elements exchanged, the two points exchanged
abbrev up : ℕ → ℕ
up i = (i + 1) % 6

abbrev down : ℕ → ℕ
down i = (i + 5) % 6

abbrev exchange : ℕ → ℕ
exchange i = 1 - i

all_permute : permutes 6 up down && (permutes 2 exchange exchange) ≡ true
unfolding permutes querying
all_permute = refl

order : (points : List Float) → pair_count points ≡ 2 → Renumbering (query_at points)
order points e =
    record {
      to_n = up;
      from_n = down;
      to_e = exchange;
      from_e = exchange;
      to_p = exchange;
      from_p = exchange;
      nodes = permutation 6 up down (and_parts (permutes 6 up down) (permutes 2 exchange exchange) all_permute).0;
      elements = unfold querying in permutation 2 exchange exchange (and_parts (permutes 6 up down) (permutes 2 exchange exchange) all_permute).1;
      points = rw e (permutation 2 exchange exchange (and_parts (permutes 6 up down) (permutes 2 exchange exchange) all_permute).1);
    }

-- ---- the query

-- twelve lent lists for n points, every place 9
abbrev nines : ℕ → QueryLists
nines n =
    record {
      node_indices = replicate n 9;
      node_points = replicate (2 * n) (number 9);
      node_distances = replicate n (number 9);
      element_indices = replicate n 9;
      element_references = replicate (2 * n) (number 9);
      element_points = replicate (2 * n) (number 9);
      element_distances = replicate n (number 9);
      face_element_indices = replicate n 9;
      face_local_faces = replicate n 9;
      face_coordinates = replicate n (number 9);
      face_points = replicate (2 * n) (number 9);
      face_distances = replicate n (number 9);
    }

-- what a query that answers `accepted` leaves
abbrev left : QueryCall → QueryLists
left q = query_lists q (queried q (nines 2)) (nines 2)

-- no distance of the two points is NaN
numbers_of : (m : Mesh) (limit : ℕ) (t : Point) → Bool
numbers_of m limit t = numbers (node_distance m limit t) (node_count m) && (numbers (element_distance m limit t) (element_count m) && numbers (face_distance m limit t) (4 * element_count m))

no_nan : (m : Mesh) (limit : ℕ) (t : Point) → numbers_of m limit t ≡ true → NoNan m limit t
unfolding numbers_of
no_nan m limit t h =
    let a = and_parts (numbers (node_distance m limit t) (node_count m)) _ h in
    let b = and_parts (numbers (element_distance m limit t) (element_count m)) _ a.1 in
    record {
      nodes = not_nan (node_distance m limit t) (node_count m) a.0;
      elements = not_nan (element_distance m limit t) (element_count m) b.0;
      faces = not_nan (face_distance m limit t) (4 * element_count m) b.1;
    }

tied_numbers : every (λ p. numbers_of squares 0 (pair_at tied.points p)) 2 ≡ true
unfolding numbers_of numbers querying
tied_numbers = refl

tied_order : Renumbering tied
tied_order = order tied.points refl

abbrev tied' : QueryCall
tied' = renumbered_query tied tied_order

same_lengths : (l : QueryLists) → SameLengths l l
same_lengths l =
    record {
      node_indices = refl;
      node_points = refl;
      node_distances = refl;
      element_indices = refl;
      element_references = refl;
      element_points = refl;
      element_distances = refl;
      face_element_indices = refl;
      face_local_faces = refl;
      face_coordinates = refl;
      face_points = refl;
      face_distances = refl;
    }

-- both queries are accepted, with two points, no repeated node and one point inside
abbrev two_points : Outcome QueryCounts
two_points = accepted (record { points = 2; repeated = 0; inside = 1 })

tied_accepted : two_points ≡ queried tied (nines 2)
unfolding querying
tied_accepted = refl

tied_accepted' : two_points ≡ queried tied' (nines 2)
unfolding tied_order order move_list querying
tied_accepted' = refl

-- it meets the hypotheses
tied_runs : ComputedQueries
tied_runs =
    record {
      query = tied;
      order = tied_order;
      before = nines 2;
      before' = nines 2;
      after = left tied;
      after' = left tied';
      answer = Ok (record { points = 2; repeated = 0; inside = 1 });
      answer' = Ok (record { points = 2; repeated = 0; inside = 1 });
      promise = record { answers = tied_accepted; leaves = refl };
      promise' = record { answers = tied_accepted'; leaves = refl };
      lengths = same_lengths (nines 2);
      counts = record { points = 2; repeated = 0; inside = 1 };
      passed = refl;
      no_nan = λ p l. no_nan squares 0 (pair_at tied.points p) (every_at (λ p. numbers_of squares 0 (pair_at tied.points p)) tied_numbers l);
    }

tied_kept : QueryKept tied tied_order tied' (record { points = 2; repeated = 0; inside = 1 }) (left tied) (left tied') (Ok (record { points = 2; repeated = 0; inside = 1 }))
unfolding tied_runs
tied_kept = demand3_computed.query_kept tied_runs

-- the two answers, computed: numbers of nodes, elements, faces' elements and faces; reference points; distances to node, element and face
abbrev shown : QueryLists → List (List ℕ) × List Float × List (List Float)
shown l = (
  l.node_indices ∷ l.element_indices ∷ l.face_element_indices ∷ l.face_local_faces ∷ [],
  l.element_references,
  l.node_distances ∷ l.element_distances ∷ l.face_distances ∷ [],
)

-- the same, of the answers at the two points: each is then computed once, and not once a list
abbrev shown_of : PointAnswer → PointAnswer → List (List ℕ) × List Float × List (List Float)
shown_of a b = (
  (a.node.node_index ∷ b.node.node_index ∷ [])
      ∷ (a.element.element_index ∷ b.element.element_index ∷ [])
      ∷ (a.face.element_index ∷ b.face.element_index ∷ [])
      ∷ (a.face.local_face ∷ b.face.local_face ∷ [])
      ∷ [],
  a.element.reference.xi ∷ a.element.reference.eta ∷ b.element.reference.xi ∷ b.element.reference.eta ∷ [],
  (a.node.distance ∷ b.node.distance ∷ []) ∷ (a.element.distance ∷ b.element.distance ∷ []) ∷ (a.face.distance ∷ b.face.distance ∷ []) ∷ [],
)

shown_of_lem : (q : QueryCall) → two_points ≡ queried q (nines 2) → shown (left q) ≡ shown_of (answer_at q 0) (answer_at q 1)
unfolding answers_over each over
shown_of_lem q e = ap (λ o. shown (query_lists q o (nines 2))) (sym e)

abbrev root_two : Float
root_two = of_bits binary64 0x3ff6a09e667f3bcd

tied_before : shown (left tied)
    ≡ (
      (1 ∷ 4 ∷ []) ∷ (0 ∷ 1 ∷ []) ∷ (0 ∷ 1 ∷ []) ∷ (1 ∷ 1 ∷ []) ∷ [],
      one ∷ plus0 ∷ one ∷ plus0 ∷ [],
      (one ∷ root_two ∷ []) ∷ (plus0 ∷ one ∷ []) ∷ (plus0 ∷ one ∷ []) ∷ [],
    )
unfolding querying
tied_before = shown_of_lem tied tied_accepted

-- The points have changed places. (5, 1) names the old node 5, which is now 0 and the first of two that tie, and the old element 1, now 0.
-- (2, 1) names the old node 1, now 2, and of the two elements that tie the old element 1, which is now the first, at (-1, 0), and its left face.
tied_after : shown (left tied')
    ≡ (
      (0 ∷ 2 ∷ []) ∷ (0 ∷ 0 ∷ []) ∷ (0 ∷ 0 ∷ []) ∷ (1 ∷ 3 ∷ []) ∷ [],
      one ∷ plus0 ∷ minus_one ∷ plus0 ∷ [],
      (root_two ∷ one ∷ []) ∷ (one ∷ plus0 ∷ []) ∷ (one ∷ plus0 ∷ []) ∷ [],
    )
unfolding tied_order order move_list querying
tied_after = shown_of_lem tied' tied_accepted'

-- ---- an operator, at two points that have just one nearest element each

-- whether number b alone is nearest of n
alone : (ℕ → Float) → ℕ → ℕ → Bool
alone d n b = every (λ i. eqb i b || lt (d b) (d i)) n

only_nearest : (d : ℕ → Float) (n b : ℕ) → b < n → alone d n b ≡ true → (a : ℕ) → a < n → Nearest d n a → a ≡ b
unfolding alone
only_nearest d n b lb h a la near = by (eqb a b) (lt (d b) (d a)) refl (every_at (λ i. eqb i b || lt (d b) (d i)) h la) (near b lb)
  where
    by : (e l : Bool) → eqb a b ≡ e → (e || l) ≡ true → l ≡ false → a ≡ b
    by true l q h k = eqb-true a b q
    by false l q h k = cc

abbrev single : QueryCall
single = query_at (half ∷ one ∷ number 5 ∷ one ∷ [])

single_order : Renumbering single
single_order = order single.points refl

abbrev single' : QueryCall
single' = renumbered_query single single_order

single_numbers : every (λ p. numbers_of squares 0 (pair_at single.points p)) 2 ≡ true
unfolding numbers_of numbers querying
single_numbers = refl

single_alone : every (λ p. alone (element_distance squares 0 (pair_at single.points p)) 2 p) 2 ≡ true
unfolding alone querying
single_alone = refl

-- point p names element p alone
just_one : JustOneNearest single
unfolding querying
just_one p lp a b la lb na nb =
    let d = element_distance squares 0 (pair_at single.points p) in
    let h = every_at (λ p. alone (element_distance squares 0 (pair_at single.points p)) 2 p) single_alone lp in
    only_nearest d 2 p lp h a la na ∙ sym (only_nearest d 2 p lp h b lb nb)

abbrev none_inside : Outcome QueryCounts
none_inside = accepted (record { points = 2; repeated = 0; inside = 0 })

single_accepted : none_inside ≡ queried single (nines 2)
unfolding querying
single_accepted = refl

single_accepted' : none_inside ≡ queried single' (nines 2)
unfolding single_order order move_list querying
single_accepted' = refl

single_runs : ComputedQueries
single_runs =
    record {
      query = single;
      order = single_order;
      before = nines 2;
      before' = nines 2;
      after = left single;
      after' = left single';
      answer = Ok (record { points = 2; repeated = 0; inside = 0 });
      answer' = Ok (record { points = 2; repeated = 0; inside = 0 });
      promise = record { answers = single_accepted; leaves = refl };
      promise' = record { answers = single_accepted'; leaves = refl };
      lengths = same_lengths (nines 2);
      counts = record { points = 2; repeated = 0; inside = 0 };
      passed = refl;
      no_nan = λ p l. no_nan squares 0 (pair_at single.points p) (every_at (λ p. numbers_of squares 0 (pair_at single.points p)) single_numbers l);
    }

-- interpolation on what each query handed out
abbrev handed_from : Mesh → QueryLists → InterpolationCall
handed_from m l = record { mesh = m; element_indices = take 2 l.element_indices; reference_points = take 4 l.element_references }

abbrev handed : QueryCall → InterpolationCall
handed q = handed_from q.mesh (left q)

-- the same, of the elements that the two points name
abbrev named : Mesh → ElementProjection → ElementProjection → InterpolationCall
named m a b = record { mesh = m; element_indices = a.element_index ∷ b.element_index ∷ []; reference_points = a.reference.xi ∷ a.reference.eta ∷ b.reference.xi ∷ b.reference.eta ∷ [] }

handed_of : (q : QueryCall) → none_inside ≡ queried q (nines 2) → handed q ≡ named q.mesh (answer_at q 0).element (answer_at q 1).element
unfolding answers_over each over
handed_of q e = ap (λ o. handed_from q.mesh (query_lists q o (nines 2))) (sym e)

-- both queries name element 0 and then element 1, on the line η = 0
abbrev middles : Mesh → Float → Float → InterpolationCall
middles m ξ ξ' = record { mesh = m; element_indices = 0 ∷ 1 ∷ []; reference_points = ξ ∷ plus0 ∷ ξ' ∷ plus0 ∷ [] }

single_handed : handed single ≡ middles squares plus0 one
unfolding querying
single_handed = handed_of single single_accepted

single_handed' : handed single' ≡ middles single'.mesh one plus0
unfolding single_order order move_list querying
single_handed' = handed_of single' single_accepted'

abbrev lent : TripletLists
lent = record { rows = replicate 8 9; columns = replicate 8 9; values = replicate 8 (number 9) }

abbrev written : InterpolationCall → TripletLists
written c = triplet_lists (interpolation c lent) (operated (interpolation c lent)) lent

abbrev interpolated : QueryCall → TripletLists
interpolated q = written (handed q)

-- two points, six nodes, six triplets
abbrev six_triplets : Outcome OperatorCounts
six_triplets = accepted (record { rows = 2; columns = 6; triplets = 6 })

interpolation_accepted : six_triplets ≡ operated (interpolation (handed single) lent)
unfolding operating
interpolation_accepted = ap (λ c. operated (interpolation c lent)) (sym single_handed)

interpolation_accepted' : six_triplets ≡ operated (interpolation (handed single') lent)
unfolding single_order order move_list operating
interpolation_accepted' = ap (λ c. operated (interpolation c lent)) (sym single_handed')

interpolation_runs : TwoOperators single single' (left single) (left single') 2 (handed single) (handed single') (interpolation (handed single)) (interpolation (handed single'))
interpolation_runs =
    record {
      handed = record { mesh = refl; element_indices = refl; reference_points = refl };
      handed' = record { mesh = refl; element_indices = refl; reference_points = refl };
      before = lent;
      before' = lent;
      after = interpolated single;
      after' = interpolated single';
      lengths = record { rows = refl; columns = refl; values = refl };
      answer = Ok (record { rows = 2; columns = 6; triplets = 6 });
      answer' = Ok (record { rows = 2; columns = 6; triplets = 6 });
      promise = record { answers = interpolation_accepted; leaves = refl };
      promise' = record { answers = interpolation_accepted'; leaves = refl };
    }

single_kept : OperatorKept 1 1 exchange up interpolation_runs
unfolding single_runs single_order order
single_kept = demand3_computed.interpolation_kept single_runs just_one (handed single) (handed single') interpolation_runs

-- the triplets, computed: (1/2, 1) is at the middle of the first square, (5, 1) at the middle of the second one's right side
abbrev triplet : ℕ → ℕ → Float → Triplet
triplet r c v = record { row = r; column = c; value = v }

triplets_before : triplets_of (interpolated single) 6
    ≡ triplet 0 0 quarter ∷ triplet 0 1 quarter ∷ triplet 0 2 quarter ∷ triplet 0 3 quarter ∷ triplet 1 4 half ∷ triplet 1 5 half ∷ []
unfolding operating
triplets_before = ap (λ c. triplets_of (written c) 6) single_handed

-- point 1 is point 0, and node i is node i + 1, node 5 node 0
triplets_after : triplets_of (interpolated single') 6
    ≡ triplet 0 5 half ∷ triplet 0 0 half ∷ triplet 1 1 quarter ∷ triplet 1 2 quarter ∷ triplet 1 3 quarter ∷ triplet 1 4 quarter ∷ []
unfolding single_order order move_list operating
triplets_after = ap (λ c. triplets_of (written c) 6) single_handed'
