-- The three operators: their questions, their answers and their three lent lists. "A sparse operator is its number of rows, its number of columns (the nodes, or twice the nodes for strain and stress) and a list of (row, column, value)".
use Rattle.std.specs.Prelude.{◌≡◌, Result, Bool, ◌&&◌, List, [], ◌∷◌, ◌++◌, map, ℕ, ◌*◌, leb, length, get_or, Float}
use Rattle.std.specs.Float.{nan}
use Rattle.definition.specs.Lists.{each, over}
use Rattle.definition.specs.Elements.{nodes_of, shape_of}
use Rattle.definition.specs.Mapping.{first, second}
use Rattle.definition.specs.Mesh.{Mesh, node_count, gathered, node_of}
use Rattle.definition.specs.Questions.{Question, Outcome, accepted, refused, asked, outcome, family_known, nodes_whole, elements_whole, references_whole, materials_whole, room, node_numbers, numbers_match, materials_match, pairs_match, element_known, material_known, not_inverted, off_axis}
use Rattle.definition.specs.Rows.{Triplet, point_triplets, Basis, basis_at, strain_entry, stress_entry, oriented_material}
use Rattle.definition.specs.declared.Reference.{Reference}
use Rattle.definition.specs.declared.GatheredElement.{GatheredElement}
use Rattle.definition.specs.declared.Structural2dFormulation.{Structural2dFormulation}
use Rattle.definition.specs.declared.OperatorCounts.{OperatorCounts}
use Rattle.definition.specs.declared.Refusal.{Refusal}

-- ---- what the operators are given and lent

-- the mesh, the numbers of the elements and the reference points in them
pub record InterpolationCall : Type 0 where
  pub mesh : Mesh
  pub element_indices : List ℕ
  pub reference_points : List Float

pub record StrainCall : Type 0 where
  pub base : InterpolationCall
  pub formulation : Structural2dFormulation

-- the material number of each element, sixteen numbers a material, and whether pairs (c, s) are given, one an element
pub record StressCall : Type 0 where
  pub base : InterpolationCall
  pub formulation : Structural2dFormulation
  pub material_ids : List ℕ
  pub material_table : List Float
  pub pairs_given : Bool
  pub pairs : List Float

pub record TripletLists : Type 0 where
  pub rows : List ℕ
  pub columns : List ℕ
  pub values : List Float

-- the element that point p names, and the reference point in it
abbrev pub element_at : InterpolationCall → ℕ → ℕ
element_at c p = get_or c.element_indices p 0

abbrev pub reference_at : InterpolationCall → ℕ → Reference
reference_at c p = record { xi = first c.reference_points p; eta = second c.reference_points p }

-- ---- what an operator's call comes to

pub record Operator : Type 0 where
  pub questions : List Question
  pub rows : ℕ
  pub columns : ℕ
  pub triplets : List Triplet

-- its numbers of rows, columns and triplets
unfoldable pub operated : Operator → Outcome OperatorCounts
operated o = asked o.questions (record { rows = o.rows; columns = o.columns; triplets = length o.triplets })

-- the first places hold the triplets in order, and the rest is as before
unfoldable pub triplets_over : List Triplet → TripletLists → TripletLists
triplets_over ts lent =
    record {
      rows = over (map (λ t. t.row) ts) lent.rows;
      columns = over (map (λ t. t.column) ts) lent.columns;
      values = over (map (λ t. t.value) ts) lent.values;
    }

-- the lent lists after an operator's call: untouched by a refusal, "also when a late point fails"
abbrev pub triplet_lists : Operator → Outcome OperatorCounts → TripletLists → TripletLists
triplet_lists o (accepted counts) lent = triplets_over o.triplets lent
triplet_lists o (refused number place) lent = lent

pub record OperatorPromise (o : Operator) (before : TripletLists) (answer : Result OperatorCounts Refusal) (after : TripletLists) : Type 0 where
  pub answers : outcome answer ≡ operated o
  pub leaves : after ≡ triplet_lists o (operated o) before

-- ---- questions and rows that operators share

-- "F a point for interpolation; 8 × F a point for strain and stress, counted by the element numbers given"
unfoldable pub triplet_room : TripletLists → ℕ → Bool
triplet_room l n = leb n (length l.rows) && leb n (length l.columns) && leb n (length l.values)

abbrev pub mesh_questions : InterpolationCall → List Question
mesh_questions c = family_known c.mesh ∷ nodes_whole c.mesh ∷ elements_whole c.mesh ∷ references_whole c.reference_points c.element_indices ∷ []

-- "counted by the element numbers given": n places a point
abbrev pub room_for : InterpolationCall → TripletLists → ℕ → Question
room_for c lent n = room (triplet_room lent (n * length c.element_indices))

-- the questions put to one point after the other
abbrev pub each_point : InterpolationCall → (ℕ → List Question) → List Question
each_point c questions = each questions (length c.element_indices)

-- the operator with k rows a point and n columns a node, whose value at point p is `value p`
unfoldable pub operator_of : InterpolationCall → List Question → ℕ → ℕ → (ℕ → ℕ → ℕ → ℕ → Float) → Operator
operator_of c questions k n value =
    record {
      questions = questions;
      rows = k * length c.element_indices;
      columns = n * node_count c.mesh;
      triplets = each (λ p. point_triplets k n (nodes_of c.mesh.family) (node_of c.mesh (element_at c p)) (value p) p) (length c.element_indices);
    }

-- ---- `quad_mesh_interpolation_operator`: "one row a point, values N". Questions 1, 2, 3, 5, 7, 8, 11, and for each point 14

unfoldable pub interpolation_questions : InterpolationCall → TripletLists → List Question
interpolation_questions c lent =
    mesh_questions c
    ++ room_for c lent (nodes_of c.mesh.family) ∷ []
    ++ node_numbers c.mesh
    ++ numbers_match c.element_indices c.reference_points ∷ []
    ++ each_point c (λ p. element_known c.mesh p (element_at c p) ∷ [])

unfoldable pub interpolation : InterpolationCall → TripletLists → Operator
interpolation c lent =
    operator_of c (interpolation_questions c lent) 1 1
    (λ p i j d. get_or (shape_of c.mesh.family (reference_at c p).xi (reference_at c p).eta) j nan)

-- THE PROMISE of `quad_mesh_interpolation_operator`
abbrev pub InterpolationPromise : InterpolationCall → TripletLists → Result OperatorCounts Refusal → TripletLists → Type 0
InterpolationPromise c before answer after = OperatorPromise (interpolation c before) before answer after

-- ---- `quad_mesh_strain_operator`: "four rows a point, columns 2 × node + component". Questions 1, 2, 3, 5, 7, 8, 11, and for each point 14, 16, 17

-- the element that point p names, gathered, and what its rows are made of
abbrev pub gathered_at : InterpolationCall → ℕ → GatheredElement
gathered_at c p = gathered c.mesh (element_at c p)

abbrev pub basis_of : InterpolationCall → ℕ → Basis
basis_of c p = basis_at (gathered_at c p) (reference_at c p)

unfoldable pub strain_questions : StrainCall → TripletLists → List Question
strain_questions c lent =
    let b = c.base in
    mesh_questions b
    ++ room_for b lent (8 * nodes_of b.mesh.family) ∷ []
    ++ node_numbers b.mesh
    ++ numbers_match b.element_indices b.reference_points ∷ []
    ++ each_point b (λ p.
    element_known b.mesh p (element_at b p) ∷ not_inverted (gathered_at b p) p (reference_at b p) ∷ off_axis c.formulation (gathered_at b p) p (reference_at b p))

unfoldable pub strain : StrainCall → TripletLists → Operator
strain c lent = operator_of c.base (strain_questions c lent) 4 2 (λ p. strain_entry c.formulation (basis_of c.base p))

-- THE PROMISE of `quad_mesh_strain_operator`
abbrev pub StrainPromise : StrainCall → TripletLists → Result OperatorCounts Refusal → TripletLists → Type 0
StrainPromise c before answer after = OperatorPromise (strain c before) before answer after

-- ---- `quad_mesh_stress_operator`. Questions 1, 2, 3, 5, 6, 7, 8, 11, 12, 13, and for each point 14, 15, 16, 17

-- the material number of the element that point p names, and its material, turned where pairs are given
abbrev pub material_at : StressCall → ℕ → ℕ
material_at c p = get_or c.material_ids (element_at c.base p) 0

abbrev pub oriented_at : StressCall → ℕ → List Float
oriented_at c p = oriented_material c.material_table (material_at c p) c.pairs_given c.pairs (element_at c.base p)

unfoldable pub stress_questions : StressCall → TripletLists → List Question
stress_questions c lent =
    let b = c.base in
    mesh_questions b
    ++ materials_whole c.material_table c.pairs_given c.pairs ∷ []
    ++ room_for b lent (8 * nodes_of b.mesh.family) ∷ []
    ++ node_numbers b.mesh
    ++ numbers_match b.element_indices b.reference_points ∷ []
    ++ materials_match c.material_ids b.mesh ∷ []
    ++ pairs_match c.pairs_given c.pairs b.mesh ∷ []
    ++ each_point b (λ p.
    element_known b.mesh p (element_at b p) ∷ material_known c.material_table p (material_at c p) ∷ not_inverted (gathered_at b p) p (reference_at b p)
    ∷ off_axis c.formulation (gathered_at b p) p (reference_at b p))

unfoldable pub stress : StressCall → TripletLists → Operator
stress c lent = operator_of c.base (stress_questions c lent) 4 2 (λ p. stress_entry (oriented_at c p) c.formulation (basis_of c.base p))

-- THE PROMISE of `quad_mesh_stress_operator`
abbrev pub StressPromise : StressCall → TripletLists → Result OperatorCounts Refusal → TripletLists → Type 0
StressPromise c before answer after = OperatorPromise (stress c before) before answer after
