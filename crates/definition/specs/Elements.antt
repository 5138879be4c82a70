-- The two families of elements on the reference square: quad4.rs and quad9.rs. The shape numbers N, their gradients by (ξ, η), and the faces.
-- "Shape functions are the bilinear and biquadratic Lagrange polynomials": Bower, Applied Mechanics of Solids, section 8.1.
-- A list of N has nine places and one of gradients eighteen; those past the family's nodes hold 0 and are not read.
use Rattle.std.specs.Prelude.{cond, List, [], ◌∷◌, ℕ, eqb, Float}
use Rattle.std.specs.Float.Ieee.{neg}
use Rattle.definition.specs.Binary64.{◌⊕◌, ◌⊖◌, ◌⊗◌, plus0, one, minus_one, half, quarter, minus_quarter, minus_two}
use Rattle.definition.specs.declared.FaceReference.{FaceReference}

-- ---- family 4: "N = 0.25 × (1 ± ξ) × (1 ± η), left to right; node signs (-,-), (+,-), (+,+), (-,+)"

-- `quad4::shape`
unfoldable pub shape4 : Float → Float → List Float
shape4 ξ η =
    (quarter ⊗ (one ⊖ ξ) ⊗ (one ⊖ η)) ∷
    (quarter ⊗ (one ⊕ ξ) ⊗ (one ⊖ η)) ∷
    (quarter ⊗ (one ⊕ ξ) ⊗ (one ⊕ η)) ∷
    (quarter ⊗ (one ⊖ ξ) ⊗ (one ⊕ η)) ∷
    plus0 ∷ plus0 ∷ plus0 ∷ plus0 ∷ plus0 ∷ []

-- `quad4::grad_ref`: by ξ, then by η, node after node
unfoldable pub grad_ref4 : Float → Float → List Float
grad_ref4 ξ η =
    (minus_quarter ⊗ (one ⊖ η)) ∷ (minus_quarter ⊗ (one ⊖ ξ)) ∷
    (quarter ⊗ (one ⊖ η)) ∷ (minus_quarter ⊗ (one ⊕ ξ)) ∷
    (quarter ⊗ (one ⊕ η)) ∷ (quarter ⊗ (one ⊕ ξ)) ∷
    (minus_quarter ⊗ (one ⊕ η)) ∷ (quarter ⊗ (one ⊖ ξ)) ∷
    plus0 ∷ plus0 ∷ plus0 ∷ plus0 ∷ plus0 ∷ plus0 ∷ plus0 ∷ plus0 ∷ plus0 ∷ plus0 ∷ []

-- ---- family 9: "products of the three quadratic Lagrange polynomials in ξ and in η, evaluated and ordered as in `shape`; corners, midsides, centre"

-- `q2_lagrange_1d`: the polynomials that are 1 at -1, at 0 and at 1
unfoldable pub lagrange_low : Float → Float
lagrange_low x = half ⊗ x ⊗ (x ⊖ one)

unfoldable pub lagrange_mid : Float → Float
lagrange_mid x = one ⊖ x ⊗ x

unfoldable pub lagrange_high : Float → Float
lagrange_high x = half ⊗ x ⊗ (x ⊕ one)

-- `q2_lagrange_grad_1d`: their slopes
unfoldable pub slope_low : Float → Float
slope_low x = x ⊖ half

unfoldable pub slope_mid : Float → Float
slope_mid x = minus_two ⊗ x

unfoldable pub slope_high : Float → Float
slope_high x = x ⊕ half

-- `quad9::shape`
unfoldable pub shape9 : Float → Float → List Float
shape9 ξ η =
    (lagrange_low ξ ⊗ lagrange_low η) ∷
    (lagrange_high ξ ⊗ lagrange_low η) ∷
    (lagrange_high ξ ⊗ lagrange_high η) ∷
    (lagrange_low ξ ⊗ lagrange_high η) ∷
    (lagrange_mid ξ ⊗ lagrange_low η) ∷
    (lagrange_high ξ ⊗ lagrange_mid η) ∷
    (lagrange_mid ξ ⊗ lagrange_high η) ∷
    (lagrange_low ξ ⊗ lagrange_mid η) ∷
    (lagrange_mid ξ ⊗ lagrange_mid η) ∷ []

-- `quad9::grad_ref`: by ξ, then by η, node after node
unfoldable pub grad_ref9 : Float → Float → List Float
grad_ref9 ξ η =
    (slope_low ξ ⊗ lagrange_low η) ∷ (lagrange_low ξ ⊗ slope_low η) ∷
    (slope_high ξ ⊗ lagrange_low η) ∷ (lagrange_high ξ ⊗ slope_low η) ∷
    (slope_high ξ ⊗ lagrange_high η) ∷ (lagrange_high ξ ⊗ slope_high η) ∷
    (slope_low ξ ⊗ lagrange_high η) ∷ (lagrange_low ξ ⊗ slope_high η) ∷
    (slope_mid ξ ⊗ lagrange_low η) ∷ (lagrange_mid ξ ⊗ slope_low η) ∷
    (slope_high ξ ⊗ lagrange_mid η) ∷ (lagrange_high ξ ⊗ slope_mid η) ∷
    (slope_mid ξ ⊗ lagrange_high η) ∷ (lagrange_mid ξ ⊗ slope_high η) ∷
    (slope_low ξ ⊗ lagrange_mid η) ∷ (lagrange_low ξ ⊗ slope_mid η) ∷
    (slope_mid ξ ⊗ lagrange_mid η) ∷ (lagrange_mid ξ ⊗ slope_mid η) ∷ []

-- ---- the choice on the family: 9, and every other number counts as 4 (question 1 lets no other number through)

abbrev pub by_family : {A : Type 0} → ℕ → A → A → A
by_family family nine four = cond (eqb family 9) nine four

-- F, the nodes of an element
unfoldable pub nodes_of : ℕ → ℕ
nodes_of family = by_family family 9 4

-- `shape` and `grad_ref` of `QuadReferenceElement`
unfoldable pub shape_of : ℕ → Float → Float → List Float
shape_of family ξ η = by_family family (shape9 ξ η) (shape4 ξ η)

unfoldable pub grad_ref_of : ℕ → Float → Float → List Float
grad_ref_of family ξ η = by_family family (grad_ref9 ξ η) (grad_ref4 ξ η)

-- ---- "Faces 0 to 3 run counter-clockwise from the bottom, by `face_reference`", the same in both families. A number above 3 counts as 3

unfoldable pub face_reference_of : ℕ → Float → FaceReference
face_reference_of face s =
    cond (eqb face 0) (record { xi = s; eta = minus_one; dxi = one; deta = plus0 })
    (cond (eqb face 1) (record { xi = one; eta = s; dxi = plus0; deta = one })
    (cond (eqb face 2) (record { xi = neg s; eta = one; dxi = minus_one; deta = plus0 })
    (record { xi = minus_one; eta = neg s; dxi = plus0; deta = minus_one })))
