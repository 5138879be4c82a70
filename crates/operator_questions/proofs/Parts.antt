-- The questions of the stress operator in the parts that are asked one after the other. Assumes nothing.
use mathlib.Core.Path.{◌≡◌, refl}
use mathlib.Core.List.{List, [], ◌∷◌, ◌++◌}
use Prim.Native.Nat.{◌*◌}
use Rattle.definition.specs.Elements.{nodes_of}
use Rattle.definition.specs.Questions.{Question, Outcome, accepted, refused, asked, onward, materials_whole, node_numbers, numbers_match, materials_match, pairs_match}
use Rattle.definition.specs.Operators.{StressCall, TripletLists, mesh_questions, room_for, each_point, stress_questions}
use Rattle.definition.proofs.Passing.{asked_append}
use Rattle.point_questions.specs.Points.{stress_asked}

onward_assoc : {A B C : Type 0} (o : Outcome A) (p : Outcome B) (q : Outcome C) → onward (onward o p) q ≡ onward o (onward p q)
onward_assoc (accepted v) p q = refl
onward_assoc (refused number place) p q = refl

parts : (a b c d e f g h : List Question) →
    asked (a ++ b ++ c ++ d ++ e ++ f ++ g ++ h) (tt {0})
    ≡ onward (asked a (tt {0})) (onward (asked b (tt {0})) (onward (asked c (tt {0})) (onward (asked (d ++ e) (tt {0})) (onward (asked (f ++ g) (tt {0})) (asked h (tt {0}))))))
parts a b c d e f g h = simp (asked_append, onward_assoc)

pub stress_parts : (c : StressCall) (lent : TripletLists) →
    let b = c.base in
    asked (stress_questions c lent) (tt {0})
    ≡ onward (asked (mesh_questions b) (tt {0}))
    (onward (asked (materials_whole c.material_table c.pairs_given c.pairs ∷ []) (tt {0}))
    (onward (asked (room_for b lent (8 * nodes_of b.mesh.family) ∷ []) (tt {0}))
    (onward (asked (node_numbers b.mesh ++ numbers_match b.element_indices b.reference_points ∷ []) (tt {0}))
    (onward (asked (materials_match c.material_ids b.mesh ∷ pairs_match c.pairs_given c.pairs b.mesh ∷ []) (tt {0}))
    (asked (each_point b (stress_asked c)) (tt {0}))))))
unfolding stress_questions
stress_parts c lent =
    let b = c.base in
    parts (mesh_questions b) (materials_whole c.material_table c.pairs_given c.pairs ∷ []) (room_for b lent (8 * nodes_of b.mesh.family) ∷ []) (node_numbers b.mesh) (numbers_match b.element_indices b.reference_points ∷ []) (materials_match c.material_ids b.mesh ∷ []) (pairs_match c.pairs_given c.pairs b.mesh ∷ []) (each_point b (stress_asked c))
