-- The operators: the order of their questions, where in each row every later question would be answered no as well, or at a later point; and pairs other than (1, 0), which rotate a material.
-- Every row is computed. Assumes nothing.
use mathlib.Core.Path.{◌≡◌, refl}
use mathlib.Core.Bool.{Bool, true, false, cond}
use mathlib.Core.List.{List, [], ◌∷◌, ◌++◌}
use Prim.Native.Nat.{ℕ, ◌-◌}
use lib.Dec.{eqb}
use lib.ListN.{replicate}
use lib.Ieee.{Float, nan}
use Rattle.definition.specs.Lists.{each}
use Rattle.definition.specs.Binary64.{plus0, one, minus_one}
use Rattle.definition.specs.Questions.{Outcome, accepted, refused}
use Rattle.definition.specs.Rows.{rotated}
use Rattle.definition.specs.Operators.{InterpolationCall, TripletLists, triplet_room, interpolation_questions, strain_questions, stress_questions}
use Rattle.definition.specs.declared.Structural2dFormulation.{Structural2dFormulation}
use Rattle.definition.specs.declared.Structural2dFormulation.TheVariants.{Axisymmetric, PlaneStrain}
use Rattle.definition.proofs.Computing.{operating}
use Rattle.definition.proofs.Written.{number}
use Rattle.definition.proofs.Asking.{verdict, half, pair, three, second_bad, both_good}
use Rattle.worked.proofs.Worked.{nodes_u}

-- ---- the questions

abbrev lent : ℕ → ℕ → TripletLists
lent n k = record { rows = replicate (n - cond (eqb k 0) 1 0) 0; columns = replicate (n - cond (eqb k 1) 1 0) 0; values = replicate (n - cond (eqb k 2) 1 0) plus0 }

each_triplet_list_is_asked : each (λ k. triplet_room (lent 3 k) 3 ∷ []) 4 ≡ false ∷ false ∷ false ∷ true ∷ []
unfolding operating
each_triplet_list_is_asked = refl

abbrev call : ℕ → List Float → List ℕ → List ℕ → List Float → InterpolationCall
call family nodes elements ids references =
    record { mesh = record { family = family; nodes = nodes; elements = elements }; element_indices = ids; reference_points = references }

-- interpolation: 1, 2, 3, 5, 7, 8, 11, 14. "counted by the element numbers given": F places for each of two numbers
abbrev interpolate : ℕ → List Float → List ℕ → List ℕ → List Float → ℕ → Outcome (List ℕ)
interpolate family nodes elements ids references places =
    verdict (interpolation_questions (call family nodes elements ids references) (lent places 3))

interpolation_order :
    interpolate 5 half three (0 ∷ 2 ∷ []) half 7
    ∷ interpolate 4 half three (0 ∷ 2 ∷ []) half 7
    ∷ interpolate 4 pair three (0 ∷ 2 ∷ []) half 7
    ∷ interpolate 4 pair second_bad (0 ∷ 2 ∷ []) half 7
    ∷ interpolate 4 pair second_bad (0 ∷ 2 ∷ []) pair 7
    ∷ interpolate 4 pair second_bad (0 ∷ 2 ∷ []) pair 8
    ∷ interpolate 4 pair both_good (0 ∷ 2 ∷ []) pair 8
    ∷ interpolate 4 pair both_good (0 ∷ 2 ∷ []) (pair ++ pair) 8
    ∷ interpolate 4 pair both_good (0 ∷ 1 ∷ []) (pair ++ pair) 8
    ∷ interpolate 9 [] [] [] [] 0
    ∷ []
    ≡ refused 1 0
    ∷ refused 2 0
    ∷ refused 3 0
    ∷ refused 5 0
    ∷ refused 7 0
    ∷ refused 8 1
    ∷ refused 11 0
    ∷ refused 14 1
    ∷ accepted []
    ∷ accepted []
    ∷ []
unfolding operating
interpolation_order = refl

-- U, and U again with its nodes the other way round
abbrev good_then_inverted : List ℕ
good_then_inverted = 0 ∷ 1 ∷ 2 ∷ 3 ∷ 0 ∷ 3 ∷ 2 ∷ 1 ∷ []

-- the centre and a point of the left side, where the radius is 0
abbrev centre : List Float
centre = plus0 ∷ plus0 ∷ []

abbrev left_side : List Float
left_side = minus_one ∷ plus0 ∷ []

-- strain: 1, 2, 3, 5, 7, 8, 11, and for each point 14, 16, 17
abbrev strains : ℕ → List Float → List ℕ → List ℕ → List Float → Structural2dFormulation → ℕ → Outcome (List ℕ)
strains family nodes elements ids references f places =
    verdict (strain_questions (record { base = call family nodes elements ids references; formulation = f }) (lent places 3))

strain_order :
    strains 5 half three (0 ∷ 2 ∷ []) half Axisymmetric 63
    ∷ strains 4 half three (0 ∷ 2 ∷ []) half Axisymmetric 63
    ∷ strains 4 pair three (0 ∷ 2 ∷ []) half Axisymmetric 63
    ∷ strains 4 pair second_bad (0 ∷ 2 ∷ []) half Axisymmetric 63
    ∷ strains 4 pair second_bad (0 ∷ 2 ∷ []) pair Axisymmetric 63
    ∷ strains 4 pair second_bad (0 ∷ 2 ∷ []) pair Axisymmetric 64
    ∷ strains 4 nodes_u good_then_inverted (0 ∷ 2 ∷ []) pair Axisymmetric 64
    ∷ strains 4 nodes_u good_then_inverted (1 ∷ 2 ∷ []) (left_side ++ centre) Axisymmetric 64
    ∷ strains 4 nodes_u good_then_inverted (0 ∷ 2 ∷ []) (left_side ++ centre) Axisymmetric 64
    ∷ strains 4 nodes_u good_then_inverted (0 ∷ 2 ∷ []) (left_side ++ centre) (PlaneStrain nan) 64
    ∷ strains 4 nodes_u good_then_inverted (0 ∷ 1 ∷ []) (left_side ++ left_side) (PlaneStrain nan) 64
    ∷ strains 4 nodes_u good_then_inverted (0 ∷ 0 ∷ []) (centre ++ left_side) Axisymmetric 64
    ∷ strains 4 nodes_u good_then_inverted (0 ∷ 0 ∷ []) (centre ++ nan ∷ nan ∷ []) Axisymmetric 64
    ∷ []
    ≡ refused 1 0
    ∷ refused 2 0
    ∷ refused 3 0
    ∷ refused 5 0
    ∷ refused 7 0
    ∷ refused 8 1
    ∷ refused 11 0
    ∷ refused 16 0
    ∷ refused 17 0
    ∷ refused 14 1
    ∷ refused 16 1
    ∷ refused 17 1
    ∷ accepted []
    ∷ []
unfolding operating
strain_order = refl

-- stress: 1, 2, 3, 5, 6, 7, 8, 11, 12, 13, and for each point 14, 15, 16, 17
abbrev stresses : ℕ → List Float → List ℕ → List ℕ → List Float → List ℕ → List Float → Bool → List Float → ℕ → Outcome (List ℕ)
stresses family nodes elements ids references materials table given pairs places =
    verdict
    (stress_questions (record {
      base = call family nodes elements ids references;
      formulation = Axisymmetric;
      material_ids = materials;
      material_table = table;
      pairs_given = given;
      pairs = pairs;
    }) (lent places 3))

abbrev material : List Float
material = replicate 16 one

stress_order :
    stresses 5 half three (0 ∷ 2 ∷ []) half (1 ∷ []) half true half 63
    ∷ stresses 4 half three (0 ∷ 2 ∷ []) half (1 ∷ []) half true half 63
    ∷ stresses 4 pair three (0 ∷ 2 ∷ []) half (1 ∷ []) half true half 63
    ∷ stresses 4 pair second_bad (0 ∷ 2 ∷ []) half (1 ∷ []) half true half 63
    ∷ stresses 4 pair second_bad (0 ∷ 2 ∷ []) pair (1 ∷ []) half true pair 63
    ∷ stresses 4 pair second_bad (0 ∷ 2 ∷ []) pair (1 ∷ []) material true half 63
    ∷ stresses 4 pair second_bad (0 ∷ 2 ∷ []) pair (1 ∷ []) material true pair 63
    ∷ stresses 4 pair second_bad (0 ∷ 2 ∷ []) pair (1 ∷ []) material false half 63
    ∷ stresses 4 pair second_bad (0 ∷ 2 ∷ []) pair (1 ∷ []) material true pair 64
    ∷ stresses 4 nodes_u good_then_inverted (0 ∷ 2 ∷ []) pair (1 ∷ []) material true pair 64
    ∷ stresses 4 nodes_u good_then_inverted (1 ∷ 2 ∷ []) (left_side ++ centre) (1 ∷ []) material true pair 64
    ∷ stresses 4 nodes_u good_then_inverted (1 ∷ 2 ∷ []) (left_side ++ centre) (0 ∷ 1 ∷ []) material true pair 64
    ∷ stresses 4 nodes_u good_then_inverted (1 ∷ 2 ∷ []) (left_side ++ centre) (0 ∷ 1 ∷ []) material false pair 64
    ∷ stresses 4 nodes_u good_then_inverted (0 ∷ 2 ∷ []) (left_side ++ centre) (0 ∷ 1 ∷ []) material false half 64
    ∷ stresses 4 nodes_u good_then_inverted (0 ∷ 2 ∷ []) (centre ++ centre) (0 ∷ 1 ∷ []) material false half 64
    ∷ stresses 4 nodes_u good_then_inverted (0 ∷ 1 ∷ []) (centre ++ centre) (0 ∷ 1 ∷ []) material false half 64
    ∷ stresses 4 nodes_u good_then_inverted (0 ∷ 1 ∷ []) (centre ++ centre) (0 ∷ 0 ∷ []) material false half 64
    ∷ stresses 4 nodes_u good_then_inverted (0 ∷ 0 ∷ []) (centre ++ centre) (0 ∷ 1 ∷ []) material false half 64
    ∷ []
    ≡ refused 1 0
    ∷ refused 2 0
    ∷ refused 3 0
    ∷ refused 5 0
    ∷ refused 6 0
    ∷ refused 6 0
    ∷ refused 7 0
    ∷ refused 7 0
    ∷ refused 8 1
    ∷ refused 11 0
    ∷ refused 12 0
    ∷ refused 13 0
    ∷ refused 15 0
    ∷ refused 17 0
    ∷ refused 14 1
    ∷ refused 15 1
    ∷ refused 16 1
    ∷ accepted []
    ∷ []
unfolding operating
stress_order = refl

-- ---- "A pair equal to (1, 0) copies the material; any other follows `rotate_material_in_plane`": (1, 1) and (-1, 0) do

others_rotate :
    rotated (replicate 16 one) one one ++ rotated (replicate 16 one) minus_one plus0
    ≡ plus0 ∷ plus0 ∷ plus0 ∷ plus0 ∷
    plus0 ∷ number 16 ∷ number 4 ∷ plus0 ∷
    plus0 ∷ number 4 ∷ one ∷ plus0 ∷
    plus0 ∷ plus0 ∷ plus0 ∷ plus0 ∷
    replicate 16 one
unfolding operating
others_rotate = refl
