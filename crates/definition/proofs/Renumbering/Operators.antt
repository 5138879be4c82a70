-- The operators' part of demand 3: where each point has just one nearest element, that element is named again by its new number, so the operators get the same coordinates and the same reference points,
-- their questions have the same answers point by point, and their values are the same. One law over the questions and the values serves all three. Assumes nothing.
use mathlib.Core.Path.{◌≡◌, refl, sym, ap, ap₂, ◌∙◌}
use mathlib.Core.Bool.{Bool, true, false}
use mathlib.Core.List.{List, [], ◌∷◌, map}
use Prim.Native.Nat.{ℕ, ◌*◌, ◌<◌}
use Rattle.std.specs.Prelude.{Result}
use lib.ListN.{length, get_or, take}
use lib.Ieee.{Float, nan}
use Rattle.definition.specs.Lists.{each, over}
use Rattle.definition.specs.Elements.{nodes_of}
use Rattle.definition.specs.Mapping.{first, second}
use Rattle.definition.specs.Search.{element_best, closest_reference_point}
use Rattle.definition.specs.Mesh.{Mesh, node_count, element_count, pair_at, gathered, node_of}
use Rattle.definition.specs.Choice.{pick, element_distance, point_answer}
use Rattle.definition.specs.Questions.{Question, Outcome, accepted, outcome}
use Rattle.definition.specs.Query.{QueryCall, QueryLists, answer_at, answers_over, values}
use Rattle.definition.specs.Rows.{Triplet, point_triplets}
use Rattle.definition.specs.Operators.{InterpolationCall, TripletLists, Operator, operated, triplet_lists, OperatorPromise, operator_of, element_at, reference_at, gathered_at}
use Rattle.definition.specs.Renumbering.{TwoQueries, JustOneNearest, HandedOut, triplets_of, of_point, renamed, SameRows, BothTimes}
use Rattle.definition.specs.declared.OperatorCounts.{OperatorCounts}
use Rattle.definition.specs.declared.Refusal.{Refusal}
use Rattle.definition.proofs.Lists.{each_same, values_at, values_length, pairs_first, pairs_second, pairs_length, over_take}
use Rattle.definition.proofs.Passing.{passes, asked_passed, asked_refused}
use Rattle.definition.proofs.Renumbering.Mesh.{nodes_count, node_moved, gathered_same, point_same}
use Rattle.definition.proofs.Renumbering.Triplets.{triplets_read, of_point_each, own_rows, point_triplets_renamed}
use Rattle.definition.proofs.Renumbering.Query.{passed, point_in, new_point, after_is, after_is', choices}

-- ---- what an operator was handed out

abbrev number_of : QueryCall → ℕ → ℕ
number_of q p = (answer_at q p).element.element_index

abbrev xi_of : QueryCall → ℕ → Float
xi_of q p = (answer_at q p).element.reference.xi

abbrev eta_of : QueryCall → ℕ → Float
eta_of q p = (answer_at q p).element.reference.eta

module _ (q : QueryCall) (n : ℕ) (lent l : QueryLists) (c : InterpolationCall) (h : HandedOut q l n c) (e : l ≡ answers_over q n lent) where
  numbers : c.element_indices ≡ values (number_of q) n
  unfolding answers_over
  numbers =
      h.element_indices
      ∙ ap (λ (x : QueryLists). take n x.element_indices) e
      ∙ ap (λ (k : ℕ). take k (over (values (number_of q) n) lent.element_indices)) (sym (values_length (number_of q) n))
      ∙ over_take (values (number_of q) n) lent.element_indices

  references : c.reference_points ≡ each (λ p. xi_of q p ∷ eta_of q p ∷ []) n
  unfolding answers_over
  references =
      h.reference_points
      ∙ ap (λ (x : QueryLists). take (2 * n) x.element_references) e
      ∙ ap (λ (k : ℕ). take k (over (each (λ p. xi_of q p ∷ eta_of q p ∷ []) n) lent.element_references)) (sym (pairs_length (xi_of q) (eta_of q) n))
      ∙ over_take (each (λ p. xi_of q p ∷ eta_of q p ∷ []) n) lent.element_references

  given_points : length c.element_indices ≡ n
  given_points = ap length numbers ∙ values_length (number_of q) n

  given_references : length c.reference_points ≡ 2 * n
  given_references = ap length references ∙ pairs_length (xi_of q) (eta_of q) n

  given_element : (p : ℕ) → p < n → element_at c p ≡ number_of q p
  given_element p l = ap (λ (x : List ℕ). get_or x p 0) numbers ∙ values_at (number_of q) 0 l

  given_reference : (p : ℕ) → p < n → reference_at c p ≡ (answer_at q p).element.reference
  given_reference p l =
      λ i. record {
        xi = (ap (λ (x : List Float). first x p) references ∙ pairs_first (xi_of q) (eta_of q) nan l) i;
        eta = (ap (λ (x : List Float). second x p) references ∙ pairs_second (xi_of q) (eta_of q) nan l) i;
      }

-- ---- the two calls
module _ (t : TwoQueries) (S : JustOneNearest t.query) (c c' : InterpolationCall)
    (H : HandedOut t.query t.after t.counts.points c) (H' : HandedOut t.query' t.after' t.counts.points c') where
  abbrev n : ℕ
  n = t.counts.points

  abbrev q : QueryCall
  q = t.query

  abbrev q' : QueryCall
  q' = t.query'

  pub points_given : length c.element_indices ≡ n
  points_given = given_points q n t.before t.after c H (after_is t)

  pub points_given' : length c'.element_indices ≡ n
  points_given' = given_points q' n t.before' t.after' c' H' (after_is' t)

  pub references_same : length c'.reference_points ≡ length c.reference_points
  references_same = given_references q' n t.before' t.after' c' H' (after_is' t) ∙ sym (given_references q n t.before t.after c H (after_is t))

  pub mesh_family : c'.mesh.family ≡ c.mesh.family
  mesh_family = ap (λ (m : Mesh). m.family) H'.mesh ∙ t.renumbered.family ∙ sym (ap (λ (m : Mesh). m.family) H.mesh)

  -- ---- one point
  module _ (p : ℕ) (l : p < n) where
    named_element : element_at c p ≡ pick (element_distance q.mesh q.iterations (pair_at q.points p)) (element_count q.mesh)
    unfolding point_answer closest_reference_point
    named_element = given_element q n t.before t.after c H (after_is t) p l

    named_element' : element_at c' (t.order.to_p p) ≡ pick (element_distance q'.mesh q'.iterations (pair_at q'.points (t.order.to_p p))) (element_count q'.mesh)
    unfolding point_answer closest_reference_point
    named_element' = given_element q' n t.before' t.after' c' H' (after_is' t) (t.order.to_p p) (new_point t p l)

    pub element_is_in : element_at c p < element_count q.mesh
    element_is_in = rw named_element (choices t p l).elements.named.inside

    -- the same element is named, by its new number
    pub element_moved : element_at c' (t.order.to_p p) ≡ t.order.to_e (element_at c p)
    element_moved = named_element' ∙ (choices t p l).elements.moved (S p (point_in t p l)) ∙ ap t.order.to_e (sym named_element)

    pub gathered_moved : gathered_at c' (t.order.to_p p) ≡ gathered_at c p
    gathered_moved =
        ap₂ gathered H'.mesh element_moved
        ∙ gathered_same q t.order q' t.renumbered (passed t) (element_at c p) element_is_in
        ∙ ap (λ (m : Mesh). gathered m (element_at c p)) (sym H.mesh)

    pub node_of_moved : (j : ℕ) → j < nodes_of c.mesh.family → node_of c'.mesh (element_at c' (t.order.to_p p)) j ≡ t.order.to_n (node_of c.mesh (element_at c p) j)
    node_of_moved j lj =
        ap₂ (λ (m : Mesh) (e : ℕ). node_of m e j) H'.mesh element_moved
        ∙ node_moved q t.order q' t.renumbered (passed t) (element_at c p) j element_is_in (rw (← ap (λ (m : Mesh). m.family) H.mesh) lj)
        ∙ ap (λ (m : Mesh). t.order.to_n (node_of m (element_at c p) j)) (sym H.mesh)

    -- and so the same reference point
    answer_same : (answer_at q' (t.order.to_p p)).element.reference ≡ (answer_at q p).element.reference
    unfolding point_answer closest_reference_point
    answer_same =
        let b = pick (element_distance q.mesh q.iterations (pair_at q.points p)) (element_count q.mesh) in
        let g = ap (gathered q'.mesh) ((choices t p l).elements.moved (S p (point_in t p l))) ∙ gathered_same q t.order q' t.renumbered (passed t) b (choices t p l).elements.named.inside in
        let a = point_same q t.order q' t.renumbered (passed t) p (point_in t p l) in
        λ i. (element_best (g i) (a i) (t.renumbered.iterations i)).at

    pub reference_moved : reference_at c' (t.order.to_p p) ≡ reference_at c p
    reference_moved =
        given_reference q' n t.before' t.after' c' H' (after_is' t) (t.order.to_p p) (new_point t p l) ∙ answer_same ∙ sym (given_reference q n t.before t.after c H (after_is t) p l)

  -- ---- THE LAW OF THE OPERATORS: with k rows a point and d columns a node, from questions that pass alike and values that are alike at each point
  module _ (k d : ℕ) (qs qs' : List Question) (value value' : ℕ → ℕ → ℕ → ℕ → Float)
      (alike : passes qs' ≡ passes qs)
      (values-alike : passes qs ≡ true → (p : ℕ) → p < n → value' (t.order.to_p p) ≡ value p) where
    abbrev o : Operator
    o = operator_of c qs k d value

    abbrev o' : Operator
    o' = operator_of c' qs' k d value'

    abbrev rows_of : ℕ → List Triplet
    rows_of p = point_triplets k d (nodes_of c.mesh.family) (node_of c.mesh (element_at c p)) (value p) p

    abbrev rows_of' : ℕ → List Triplet
    rows_of' p = point_triplets k d (nodes_of c'.mesh.family) (node_of c'.mesh (element_at c' p)) (value' p) p

    rows_renamed : passes qs ≡ true → (p : ℕ) → p < n → rows_of' (t.order.to_p p) ≡ map (renamed k d t.order.to_p t.order.to_n) (rows_of p)
    rows_renamed h p l =
        ap (λ (f : ℕ). point_triplets k d (nodes_of f) (node_of c'.mesh (element_at c' (t.order.to_p p))) (value' (t.order.to_p p)) (t.order.to_p p)) mesh_family
        ∙ point_triplets_renamed t.order.to_p t.order.to_n (node_of c.mesh (element_at c p)) p refl (node_of_moved p l) (λ i j e _ _ _. λ s. values-alike h p l s i j e)

    rows_of_lem : (p : ℕ) → p < n → of_point k p (each rows_of n) ≡ rows_of p
    rows_of_lem p l = of_point_each k rows_of n p l (λ q _. own_rows k d (nodes_of c.mesh.family) (node_of c.mesh (element_at c q)) (value q) q)

    rows_of_lem' : (p : ℕ) → p < n → of_point k p (each rows_of' n) ≡ rows_of' p
    rows_of_lem' p l = of_point_each k rows_of' n p l (λ q _. own_rows k d (nodes_of c'.mesh.family) (node_of c'.mesh (element_at c' q)) (value' q) q)

    triplets_are : o.triplets ≡ each rows_of n
    unfolding operator_of
    triplets_are = ap (each rows_of) points_given

    triplets_are' : o'.triplets ≡ each rows_of' n
    unfolding operator_of
    triplets_are' = ap (each rows_of') points_given'

    abbrev counted : Operator → OperatorCounts
    counted x = record { rows = x.rows; columns = x.columns; triplets = length x.triplets }

    same_rows : passes qs ≡ true → SameRows k d n t.order.to_p t.order.to_n (counted o) (counted o') o.triplets o'.triplets
    unfolding operator_of
    same_rows h =
        record {
          rows = ap (λ (x : ℕ). k * x) (points_given' ∙ sym points_given);
          columns = ap (λ (x : ℕ). d * x) (ap node_count H'.mesh ∙ nodes_count q t.order q' t.renumbered (passed t) ∙ sym (ap node_count H.mesh));
          by_point = rw triplets_are' (each_same (λ p l. sym (rows_of_lem' p l)));
          triplets = λ p l. rw (triplets_are, triplets_are') (rows_of_lem' (t.order.to_p p) (new_point t p l) ∙ rows_renamed h p l ∙ ap (map (renamed k d t.order.to_p t.order.to_n)) (sym (rows_of_lem p l)));
        }

    module _ (before before' after after' : TripletLists) (answer answer' : Result OperatorCounts Refusal) (promise : OperatorPromise o before answer after) (promise' : OperatorPromise o' before' answer' after') where
      abbrev Kept : Outcome OperatorCounts → Outcome OperatorCounts → Type 0
      Kept x y = BothTimes k d n t.order.to_p t.order.to_n after after' x y

      -- an accepted operator's lists hold its triplets
      holds : (x : Operator) (b a : TripletLists) → a ≡ triplet_lists x (operated x) b → operated x ≡ accepted (counted x) → triplets_of a (length x.triplets) ≡ x.triplets
      holds x b a e h = rw (e, h) (triplets_read x.triplets b)

      by : (b : Bool) → passes qs ≡ b → Kept (outcome answer) (outcome answer')
      unfolding operated operator_of
      by true h =
          let a : operated o ≡ accepted (counted o) = asked_passed qs (counted o) h in
          let a' : operated o' ≡ accepted (counted o') = asked_passed qs' (counted o') (alike ∙ h) in
          rw (promise.answers, promise'.answers, a, a')
          (rw (holds o before after promise.leaves a, holds o' before' after' promise'.leaves a') (same_rows h))
      by false h =
          let a = asked_refused qs (counted o) h in
          let a' = asked_refused qs' (counted o') (alike ∙ h) in
          rw (promise.answers, promise'.answers, a.2, a'.2) tt

      pub operators_agree : Kept (outcome answer) (outcome answer')
      operators_agree = by (passes qs) refl
