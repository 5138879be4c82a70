-- The three operators under renumbering: their questions look at lengths that stay, at numbers that are known both times, and at points whose element, coordinates and reference point are the same.
-- Assumes nothing.
use mathlib.Core.Path.{◌≡◌, refl, sym, ap, ap₂, ◌∙◌}
use mathlib.Core.Bool.{Bool, true, false, not, cond, ◌&&◌, ◌||◌}
use mathlib.Core.List.{List, [], ◌∷◌, ◌++◌}
use Prim.Native.Nat.{ℕ, ◌*◌, ◌/◌, ◌%◌, ◌<◌}
use native.Mathlib.Nat.{one-mul}
use native.Mathlib.Omega.{arith}
use borrow.Author.Tests.{lt-ltb, eqb-true}
use lib.Dec.{leb, ltb, eqb}
use lib.ListN.{length, get_or}
use lib.Ieee.{Float, nan, le}
use Rattle.std.proofs.lemmas.Bool.{and_parts}
use Rattle.definition.specs.Lists.{every}
use Rattle.definition.specs.Binary64.{plus0, epsilon}
use Rattle.definition.specs.Elements.{nodes_of, shape_of}
use Rattle.definition.specs.Mapping.{first, second, det_j, point_at, jacobian_at}
use Rattle.definition.specs.Mesh.{Mesh, element_count}
use Rattle.definition.specs.Questions.{Question, is_family, whole, materials_whole, node_numbers, numbers_match, materials_match, pairs_match, element_known, material_known, not_inverted, off_axis}
use Rattle.definition.specs.Rows.{basis_at, strain_entry, material_of, rotated, stress_entry, oriented_material}
use Rattle.definition.specs.Operators.{InterpolationCall, StrainCall, StressCall, TripletLists, triplet_room, mesh_questions, room_for, each_point, element_at, reference_at, gathered_at, basis_of, material_at, oriented_at, interpolation_questions, interpolation, strain_questions, strain, stress_questions, stress}
use Rattle.definition.specs.Renumbering.{TwoQueries, JustOneNearest, HandedOut, SameTripletLengths, Attached, TwoOperators, OperatorKept}
use Rattle.definition.specs.declared.Reference.{Reference}
use Rattle.definition.specs.declared.GatheredElement.{GatheredElement}
use Rattle.definition.specs.declared.Structural2dFormulation.{Structural2dFormulation}
use Rattle.definition.specs.declared.Structural2dFormulation.TheVariants.{Axisymmetric, PlaneStrain}
use Rattle.definition.proofs.Passing.{passes, passes_append, passes_each}
use Rattle.definition.proofs.Renumbering.Moves.{every_moved, moved_one, moved_pair, attached_length}
use Rattle.definition.proofs.Renumbering.Mesh.{elements_count, numbers_again}
use Rattle.definition.proofs.Renumbering.Query.{passed, points_are}
use Rattle.definition.proofs.Renumbering.Operators.{points_given, points_given', references_same, mesh_family, element_is_in, element_moved, gathered_moved, reference_moved, operators_agree}

-- both parts alike, the second where the first holds
and_alike : (a a' b b' : Bool) → a' ≡ a → (a ≡ true → b' ≡ b) → (a' && b') ≡ (a && b)
and_alike true a' b b' e f = ap₂ ◌&&◌ e (f refl)
and_alike false a' b b' e f = ap (λ (x : Bool). x && b') e

joined_alike : (a a' b b' : List Question) → passes a' ≡ passes a → (passes a ≡ true → passes b' ≡ passes b) → passes (a' ++ b') ≡ passes (a ++ b)
joined_alike a a' b b' e f = passes_append a' b' ∙ and_alike (passes a) (passes a') (passes b) (passes b') e f ∙ sym (passes_append a b)

off_axis_alike : (f : Structural2dFormulation) (g g' : GatheredElement) (p p' : ℕ) (r r' : Reference) → g' ≡ g → r' ≡ r → passes (off_axis f g' p' r') ≡ passes (off_axis f g p r)
unfolding passes
off_axis_alike Axisymmetric g g' p p' r r' e h = λ i. not (le (point_at (e i) (h i)).x epsilon) && true
off_axis_alike (PlaneStrain thickness) g g' p p' r r' e h = refl

-- the questions that every operator asks before its points: mesh, room, numbers and match, with those that stress asks after the mesh's
abbrev front : InterpolationCall → List Question → TripletLists → ℕ → List Question
front c extra l k = mesh_questions c ++ extra ++ room_for c l k ∷ [] ++ node_numbers c.mesh ++ numbers_match c.element_indices c.reference_points ∷ []

module _ (t : TwoQueries) (S : JustOneNearest t.query) (c c' : InterpolationCall)
    (H : HandedOut t.query t.after t.counts.points c) (H' : HandedOut t.query' t.after' t.counts.points c') where
  abbrev n : ℕ
  n = t.counts.points

  abbrev to : ℕ → ℕ
  to = t.order.to_p

  given_same : length c'.element_indices ≡ length c.element_indices
  given_same = points_given' t S c c' H H' ∙ sym (points_given t S c c' H H')

  elements_same : element_count c'.mesh ≡ element_count c.mesh
  elements_same = ap element_count H'.mesh ∙ elements_count t.query t.order t.query' t.renumbered (passed t) ∙ sym (ap element_count H.mesh)

  mesh_alike : passes (mesh_questions c') ≡ passes (mesh_questions c)
  unfolding passes
  mesh_alike =
      let f = mesh_family t S c c' H H' in
      let nodes = ap (λ (m : Mesh). length m.nodes) H'.mesh ∙ t.renumbered.nodes.same_length ∙ sym (ap (λ (m : Mesh). length m.nodes) H.mesh) in
      let elements = ap (λ (m : Mesh). length m.elements) H'.mesh ∙ t.renumbered.elements.same_length ∙ sym (ap (λ (m : Mesh). length m.elements) H.mesh) in
      λ i. is_family (f i) && (whole 2 (nodes i) && (whole (nodes_of (f i)) (elements i) && ((whole 2 (references_same t S c c' H H' i) && leb (given_same i) 1000000) && true)))

  room_alike : (l l' : TripletLists) → SameTripletLengths l l' → (k k' : ℕ) → k' ≡ k → passes (room_for c' l' k' ∷ []) ≡ passes (room_for c l k ∷ [])
  unfolding passes triplet_room
  room_alike l l' s k k' e =
      λ i. (leb (e i * given_same i) (s.rows i) && leb (e i * given_same i) (s.columns i) && leb (e i * given_same i) (s.values i)) && true

  numbers_alike : passes (node_numbers c'.mesh) ≡ passes (node_numbers c.mesh)
  numbers_alike =
      ap (λ (m : Mesh). passes (node_numbers m)) H'.mesh
      ∙ numbers_again t.query t.order t.query' t.renumbered (passed t)
      ∙ sym (passed t).numbers
      ∙ sym (ap (λ (m : Mesh). passes (node_numbers m)) H.mesh)

  match_alike : passes (numbers_match c'.element_indices c'.reference_points ∷ []) ≡ passes (numbers_match c.element_indices c.reference_points ∷ [])
  unfolding passes
  match_alike = λ i. eqb (given_same i) (references_same t S c c' H H' i / 2) && true

  known_alike : (p : ℕ) → p < n → ltb (element_at c' (to p)) (element_count c'.mesh) ≡ ltb (element_at c p) (element_count c.mesh)
  known_alike p l =
      let old : element_at c p < element_count c.mesh = rw H.mesh (element_is_in t S c c' H H' p l) in
      let new : element_at c' (to p) < element_count c'.mesh = rw (element_moved t S c c' H H' p l, elements_same, H.mesh) (t.order.elements.to_in (element_at c p) (element_is_in t S c c' H H' p l)) in
      lt-ltb _ _ new ∙ sym (lt-ltb _ _ old)

  points_alike : (ask ask' : ℕ → List Question) → ((p : ℕ) → p < n → passes (ask' (to p)) ≡ passes (ask p)) → passes (each_point c' ask') ≡ passes (each_point c ask)
  points_alike ask ask' e =
      passes_each ask' (length c'.element_indices)
      ∙ ap (every (λ p. passes (ask' p))) (points_given' t S c c' H H' ∙ sym (points_are t))
      ∙ every_moved (λ p. passes (ask' p)) t.order.points (λ p l. e p (rw (points_are t) at l))
      ∙ ap (every (λ p. passes (ask p))) (points_are t ∙ sym (points_given t S c c' H H'))
      ∙ sym (passes_each ask (length c.element_indices))

  -- the questions on the determinant and on the radius
  shapes_alike : (f f' : Structural2dFormulation) → f' ≡ f → (p : ℕ) → p < n
      → passes (not_inverted (gathered_at c' (to p)) (to p) (reference_at c' (to p)) ∷ off_axis f' (gathered_at c' (to p)) (to p) (reference_at c' (to p)))
      ≡ passes (not_inverted (gathered_at c p) p (reference_at c p) ∷ off_axis f (gathered_at c p) p (reference_at c p))
  unfolding passes
  shapes_alike f f' e p l =
      let g = gathered_moved t S c c' H H' p l in
      let r = reference_moved t S c c' H H' p l in
      ap₂ ◌&&◌ (λ i. not (le (det_j (jacobian_at (g i) (r i))) plus0))
      (ap (λ (x : Structural2dFormulation). passes (off_axis x (gathered_at c' (to p)) (to p) (reference_at c' (to p)))) e ∙ off_axis_alike f (gathered_at c p) (gathered_at c' (to p)) p (to p) (reference_at c p) (reference_at c' (to p)) g r)

  front_alike : (extra extra' : List Question) → passes extra' ≡ passes extra → (l l' : TripletLists) → SameTripletLengths l l' → (k k' : ℕ) → k' ≡ k → passes (front c' extra' l' k') ≡ passes (front c extra l k)
  front_alike extra extra' e l l' s k k' f =
      let a = mesh_questions c in
      let a' = mesh_questions c' in
      joined_alike (a ++ extra ++ room_for c l k ∷ [] ++ node_numbers c.mesh) (a' ++ extra' ++ room_for c' l' k' ∷ [] ++ node_numbers c'.mesh) _ _
      (joined_alike (a ++ extra ++ room_for c l k ∷ []) (a' ++ extra' ++ room_for c' l' k' ∷ []) _ _
      (joined_alike (a ++ extra) (a' ++ extra') _ _ (joined_alike a a' extra extra' mesh_alike (λ _. e)) (λ _. room_alike l l' s k k' f))
      (λ _. numbers_alike))
      (λ _. match_alike)

  nodes_same : nodes_of c'.mesh.family ≡ nodes_of c.mesh.family
  nodes_same = ap nodes_of (mesh_family t S c c' H H')

-- ---- the three operators
module _ (t : TwoQueries) (S : JustOneNearest t.query) where
  pub interpolation_kept : (c c' : InterpolationCall) (r : TwoOperators t.query t.query' t.after t.after' t.counts.points c c' (interpolation c) (interpolation c')) → OperatorKept 1 1 t.order.to_p t.order.to_n r
  unfolding interpolation interpolation_questions passes
  interpolation_kept c c' r =
      let H = r.handed in
      let H' = r.handed' in
      let family = mesh_family t S c c' H H' in
      operators_agree t S c c' H H' 1 1 (interpolation_questions c r.before) (interpolation_questions c' r.before')
      (λ p i j d. get_or (shape_of c.mesh.family (reference_at c p).xi (reference_at c p).eta) j nan)
      (λ p i j d. get_or (shape_of c'.mesh.family (reference_at c' p).xi (reference_at c' p).eta) j nan)
      (joined_alike (front c [] r.before (nodes_of c.mesh.family)) (front c' [] r.before' (nodes_of c'.mesh.family)) _ _
      (front_alike t S c c' H H' [] [] refl r.before r.before' r.lengths (nodes_of c.mesh.family) (nodes_of c'.mesh.family) (nodes_same t S c c' H H'))
      (λ _. points_alike t S c c' H H' (λ p. element_known c.mesh p (element_at c p) ∷ []) (λ p. element_known c'.mesh p (element_at c' p) ∷ [])
      (λ p l. ap (λ (b : Bool). b && true) (known_alike t S c c' H H' p l))))
      (λ _ p l. λ s i j d. let x = reference_moved t S c c' H H' p l s in get_or (shape_of (family s) x.xi x.eta) j nan)
      r.before r.before' r.after r.after' r.answer r.answer' r.promise r.promise'

  pub strain_kept : (c c' : StrainCall) → c'.formulation ≡ c.formulation → (r : TwoOperators t.query t.query' t.after t.after' t.counts.points c.base c'.base (strain c) (strain c')) → OperatorKept 4 2 t.order.to_p t.order.to_n r
  unfolding strain strain_questions passes
  strain_kept c c' f r =
      let b = c.base in
      let b' = c'.base in
      let H = r.handed in
      let H' = r.handed' in
      operators_agree t S b b' H H' 4 2 (strain_questions c r.before) (strain_questions c' r.before')
      (λ p. strain_entry c.formulation (basis_of b p))
      (λ p. strain_entry c'.formulation (basis_of b' p))
      (joined_alike (front b [] r.before (8 * nodes_of b.mesh.family)) (front b' [] r.before' (8 * nodes_of b'.mesh.family)) _ _
      (front_alike t S b b' H H' [] [] refl r.before r.before' r.lengths (8 * nodes_of b.mesh.family) (8 * nodes_of b'.mesh.family) (ap (λ (k : ℕ). 8 * k) (nodes_same t S b b' H H')))
      (λ _. points_alike t S b b' H H'
      (λ p. element_known b.mesh p (element_at b p) ∷ not_inverted (gathered_at b p) p (reference_at b p) ∷ off_axis c.formulation (gathered_at b p) p (reference_at b p))
      (λ p. element_known b'.mesh p (element_at b' p) ∷ not_inverted (gathered_at b' p) p (reference_at b' p) ∷ off_axis c'.formulation (gathered_at b' p) p (reference_at b' p))
      (λ p l. ap₂ ◌&&◌ (known_alike t S b b' H H' p l) (shapes_alike t S b b' H H' c.formulation c'.formulation f p l))))
      (λ _ p l. λ s. strain_entry (f s) (basis_at (gathered_moved t S b b' H H' p l s) (reference_moved t S b b' H H' p l s)))
      r.before r.before' r.after r.after' r.answer r.answer' r.promise r.promise'

-- ---- stress

-- what questions 6, 12 and 13 tell: as many material numbers as elements, and as many pairs where pairs are given
record Counted (c : StressCall) : Type 0 where
  materials : length c.material_ids ≡ 1 * element_count c.base.mesh
  pairs : c.pairs_given ≡ true → length c.pairs ≡ 2 * element_count c.base.mesh

-- the questions of stress before its points
abbrev stress_front : StressCall → TripletLists → List Question
stress_front c l =
    front c.base (materials_whole c.material_table c.pairs_given c.pairs ∷ []) l (8 * nodes_of c.base.mesh.family)
    ++ materials_match c.material_ids c.base.mesh ∷ []
    ++ pairs_match c.pairs_given c.pairs c.base.mesh ∷ []

counted : (c : StressCall) (l : TripletLists) → passes (stress_front c l) ≡ true → Counted c
unfolding passes
counted c l h =
    let b = c.base in
    let whole16 = materials_whole c.material_table c.pairs_given c.pairs in
    let n = numbers_match b.element_indices b.reference_points in
    let m = materials_match c.material_ids b.mesh in
    let space = room_for b l (8 * nodes_of b.mesh.family) in
    let last = joined_parts (front b (whole16 ∷ []) l (8 * nodes_of b.mesh.family) ++ m ∷ []) (pairs_match c.pairs_given c.pairs b.mesh ∷ []) h in
    let before = joined_parts (front b (whole16 ∷ []) l (8 * nodes_of b.mesh.family)) (m ∷ []) last.0 in
    let four = joined_parts (mesh_questions b ++ whole16 ∷ [] ++ space ∷ [] ++ node_numbers b.mesh) (n ∷ []) before.0 in
    let three = joined_parts (mesh_questions b ++ whole16 ∷ [] ++ space ∷ []) (node_numbers b.mesh) four.0 in
    let two = joined_parts (mesh_questions b ++ whole16 ∷ []) (space ∷ []) three.0 in
    let one = joined_parts (mesh_questions b) (whole16 ∷ []) two.0 in
    record {
      materials = eqb-true (length c.material_ids) (element_count b.mesh) (and_parts m.holds true before.1).0 ∙ sym (one-mul (element_count b.mesh));
      pairs = λ g.
          let even : length c.pairs % 2 ≡ 0 = eqb-true (length c.pairs % 2) 0 (given_part c.pairs_given (eqb (length c.pairs % 2) 0) g (and_parts (whole 16 (length c.material_table)) _ (and_parts whole16.holds true one.1).0).1) in
          let count : length c.pairs / 2 ≡ element_count b.mesh = eqb-true (length c.pairs / 2) (element_count b.mesh) (given_part c.pairs_given (eqb (length c.pairs / 2) (element_count b.mesh)) g (and_parts (pairs_match c.pairs_given c.pairs b.mesh).holds true last.1).0) in
          omega arith;
    }
  where
    joined_parts : (a b : List Question) → passes (a ++ b) ≡ true → (passes a ≡ true) × (passes b ≡ true)
    joined_parts a b h = and_parts (passes a) (passes b) (sym (passes_append a b) ∙ h)

    given_part : (g b : Bool) → g ≡ true → (not g || b) ≡ true → b ≡ true
    given_part true b e h = h
    given_part false b e h = cc

-- a material turned by a pair that is read only where pairs are given
oriented_alike : (table table' pairs pairs' : List Float) (number number' : ℕ) (given given' : Bool) (e e' : ℕ) → table' ≡ table → number' ≡ number → given' ≡ given
    → (given ≡ true → (first pairs' e' ≡ first pairs e) × (second pairs' e' ≡ second pairs e)) → oriented_material table' number' given' pairs' e' ≡ oriented_material table number given pairs e
unfolding oriented_material
oriented_alike table table' pairs pairs' number number' given given' e e' t m g h = by given g h
  where
    by : (given : Bool) → given' ≡ given → (given ≡ true → (first pairs' e' ≡ first pairs e) × (second pairs' e' ≡ second pairs e))
        → cond given' (rotated (material_of table' number') (first pairs' e') (second pairs' e')) (material_of table' number')
        ≡ cond given (rotated (material_of table number) (first pairs e) (second pairs e)) (material_of table number)
    by true g h = λ i. cond (g i) (rotated (material_of (t i) (m i)) ((h refl).0 i) ((h refl).1 i)) (material_of (t i) (m i))
    by false g h =
        ap (λ (b : Bool). cond b (rotated (material_of table' number') (first pairs' e') (second pairs' e')) (material_of table' number')) g
        ∙ (λ i. material_of (t i) (m i))

module _ (t : TwoQueries) (S : JustOneNearest t.query) (c c' : StressCall) (f : c'.formulation ≡ c.formulation)
    (M : Attached 1 (element_count t.query.mesh) t.order.to_e 0 c.material_ids c'.material_ids) (T : c'.material_table ≡ c.material_table)
    (G : c'.pairs_given ≡ c.pairs_given) (Q : Attached 2 (element_count t.query.mesh) t.order.to_e nan c.pairs c'.pairs)
    (r : TwoOperators t.query t.query' t.after t.after' t.counts.points c.base c'.base (stress c) (stress c')) where
  abbrev b : InterpolationCall
  b = c.base

  abbrev b' : InterpolationCall
  b' = c'.base

  abbrev H : HandedOut t.query t.after t.counts.points b
  H = r.handed

  abbrev H' : HandedOut t.query' t.after' t.counts.points b'
  H' = r.handed'

  stress_front_alike : passes (stress_front c' r.before') ≡ passes (stress_front c r.before)
  unfolding passes
  stress_front_alike =
      let k = nodes_of b.mesh.family in
      let k' = nodes_of b'.mesh.family in
      let table : length c'.material_table ≡ length c.material_table = ap length T in
      let materials = attached_length M in
      let pairs = attached_length Q in
      let wholes = materials_whole c.material_table c.pairs_given c.pairs ∷ [] in
      let wholes' = materials_whole c'.material_table c'.pairs_given c'.pairs ∷ [] in
      joined_alike (front b wholes r.before (8 * k) ++ materials_match c.material_ids b.mesh ∷ []) (front b' wholes' r.before' (8 * k') ++ materials_match c'.material_ids b'.mesh ∷ []) _ _
      (joined_alike (front b wholes r.before (8 * k)) (front b' wholes' r.before' (8 * k')) _ _
      (front_alike t S b b' H H' wholes wholes' (λ i. (whole 16 (table i) && (not (G i) || eqb (pairs i % 2) 0)) && true) r.before r.before' r.lengths (8 * k) (8 * k') (ap (λ (x : ℕ). 8 * x) (nodes_same t S b b' H H')))
      (λ _. λ i. eqb (materials i) (elements_same t S b b' H H' i) && true))
      (λ _. λ i. (not (G i) || eqb (pairs i / 2) (elements_same t S b b' H H' i)) && true)

  module _ (C : Counted c) (p : ℕ) (l : p < t.counts.points) where
    in_mesh : element_at b p < element_count t.query.mesh
    in_mesh = element_is_in t S b b' H H' p l

    material_same : material_at c' (t.order.to_p p) ≡ material_at c p
    material_same =
        ap (λ (e : ℕ). get_or c'.material_ids e 0) (element_moved t S b b' H H' p l)
        ∙ moved_one (M.moves (C.materials ∙ ap (λ (m : Mesh). 1 * element_count m) H.mesh)) in_mesh

    oriented_same : oriented_at c' (t.order.to_p p) ≡ oriented_at c p
    oriented_same =
        let e = element_moved t S b b' H H' p l in
        oriented_alike c.material_table c'.material_table c.pairs c'.pairs (material_at c p) (material_at c' (t.order.to_p p)) c.pairs_given c'.pairs_given (element_at b p) (element_at b' (t.order.to_p p)) T material_same G
        (λ g.
        let v = moved_pair (Q.moves (C.pairs g ∙ ap (λ (m : Mesh). 2 * element_count m) H.mesh)) in_mesh in
        (ap (first c'.pairs) e ∙ v.0, ap (second c'.pairs) e ∙ v.1))

  pub stress_kept : OperatorKept 4 2 t.order.to_p t.order.to_n r
  unfolding stress stress_questions passes
  stress_kept =
      operators_agree t S b b' H H' 4 2 (stress_questions c r.before) (stress_questions c' r.before')
      (λ p. stress_entry (oriented_at c p) c.formulation (basis_of b p))
      (λ p. stress_entry (oriented_at c' p) c'.formulation (basis_of b' p))
      (joined_alike (stress_front c r.before) (stress_front c' r.before') _ _ stress_front_alike
      (λ h. points_alike t S b b' H H'
      (λ p. element_known b.mesh p (element_at b p) ∷ material_known c.material_table p (material_at c p) ∷ not_inverted (gathered_at b p) p (reference_at b p) ∷ off_axis c.formulation (gathered_at b p) p (reference_at b p))
      (λ p. element_known b'.mesh p (element_at b' p) ∷ material_known c'.material_table p (material_at c' p) ∷ not_inverted (gathered_at b' p) p (reference_at b' p) ∷ off_axis c'.formulation (gathered_at b' p) p (reference_at b' p))
      (λ p l. ap₂ ◌&&◌ (known_alike t S b b' H H' p l) (ap₂ ◌&&◌ (λ i. ltb (material_same (counted c r.before h) p l i) (length (T i) / 16)) (shapes_alike t S b b' H H' c.formulation c'.formulation f p l)))))
      (λ h p l. λ s. stress_entry (oriented_same (counted c r.before (front_passes h)) p l s) (f s) (basis_at (gathered_moved t S b b' H H' p l s) (reference_moved t S b b' H H' p l s)))
      r.before r.before' r.after r.after' r.answer r.answer' r.promise r.promise'
    where
      front_passes : passes (stress_questions c r.before) ≡ true → passes (stress_front c r.before) ≡ true
      front_passes h = (and_parts (passes (stress_front c r.before)) _ (sym (passes_append (stress_front c r.before) _) ∙ h)).0
