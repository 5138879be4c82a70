-- The element search and the face search: `closest_reference_point` and `closest_face_point`. Both are one search, over references and over a face's coordinate s.
use Rattle.std.specs.Prelude.{cond, List, [], ◌∷◌, ℕ, zero, suc, get_or, Float}
use Rattle.std.specs.Float.Ieee.{lt, le}
use Rattle.definition.specs.Binary64.{◌⊕◌, ◌⊖◌, ◌⊗◌, ◌⊘◌, plus0, one, minus_one, epsilon, singular, short_square, clamp_of, magnitude, squared_distance}
use Rattle.definition.specs.Root.{root_of}
use Rattle.definition.specs.Elements.{face_reference_of}
use Rattle.definition.specs.Mapping.{face_tangent, point_at, jacobian_at}
use Rattle.definition.specs.declared.Point.{Point}
use Rattle.definition.specs.declared.Step.{Step}
use Rattle.definition.specs.declared.Step.TheVariants.{Stay, Last, More}
use Rattle.definition.specs.declared.Best.{Best}
use Rattle.definition.specs.declared.Reference.{Reference}
use Rattle.definition.specs.declared.JacobianMatrix.{JacobianMatrix}
use Rattle.definition.specs.declared.GatheredElement.{GatheredElement}
use Rattle.definition.specs.declared.ElementProjection.{ElementProjection}
use Rattle.definition.specs.declared.FaceProjection.{FaceProjection}

-- ---- one search, from a first best and seeds

-- at most k steps from a, the first of which is s
unfoldable pub stepped : {A : Type 0} → (A → Step A) → ℕ → Step A → A → A
stepped step zero s a = a
stepped step (suc k) Stay a = a
stepped step (suc k) (Last b) a = b
stepped step (suc k) (More b) a = stepped step k (step b) b

unfoldable pub walked : {A : Type 0} → (A → Step A) → ℕ → A → A
walked step k a = stepped step k (step a) a

-- a place of the search
unfoldable pub placed : {A : Type 0} → (A → Point) → Point → A → Best A
placed point_of target a =
    let p = point_of a in
    record { at = a; point = p; square = squared_distance p.x p.y target.x target.y }

-- "A seed replaces the best only with a smaller squared distance."
unfoldable pub nearer : {A : Type 0} → Best A → Best A → Best A
nearer best new = cond (lt new.square best.square) new best

-- the best after the first j seeds, each with at most `limit` steps
unfoldable pub best_of : {A : Type 0} → (A → Point) → (A → Step A) → Point → ℕ → A → List A → ℕ → Best A
best_of point_of step target limit start seeds zero = placed point_of target start
best_of point_of step target limit start seeds (suc j) =
    nearer (best_of point_of step target limit start seeds j) (placed point_of target (walked step limit (get_or seeds j start)))

-- ---- element

-- the residual against J: J transposed times (point - target)
unfoldable pub gradient_xi : JacobianMatrix → Float → Float → Float
gradient_xi j u v = j.xxi ⊗ u ⊕ j.yxi ⊗ v

unfoldable pub gradient_eta : JacobianMatrix → Float → Float → Float
gradient_eta j u v = j.xeta ⊗ u ⊕ j.yeta ⊗ v

-- J transposed times J, row by row
unfoldable pub hessian00 : JacobianMatrix → Float
hessian00 j = j.xxi ⊗ j.xxi ⊕ j.yxi ⊗ j.yxi

unfoldable pub hessian01 : JacobianMatrix → Float
hessian01 j = j.xxi ⊗ j.xeta ⊕ j.yxi ⊗ j.yeta

unfoldable pub hessian10 : JacobianMatrix → Float
hessian10 j = j.xeta ⊗ j.xxi ⊕ j.yeta ⊗ j.yxi

unfoldable pub hessian11 : JacobianMatrix → Float
hessian11 j = j.xeta ⊗ j.xeta ⊕ j.yeta ⊗ j.yeta

unfoldable pub hessian_det : JacobianMatrix → Float
hessian_det j = hessian00 j ⊗ hessian11 j ⊖ hessian01 j ⊗ hessian10 j

-- the reference less the solution of `solve_2x2`, clamped; (u, v) is the residual
unfoldable pub next_reference : JacobianMatrix → Float → Float → Reference → Reference
next_reference j u v r =
    record {
      xi = clamp_of (r.xi ⊖ (gradient_xi j u v ⊗ hessian11 j ⊖ hessian01 j ⊗ gradient_eta j u v) ⊘ hessian_det j);
      eta = clamp_of (r.eta ⊖ (hessian00 j ⊗ gradient_eta j u v ⊖ gradient_xi j u v ⊗ hessian10 j) ⊘ hessian_det j);
    }

-- ".. or after a step whose squared length is at most 2^-104": the step is stored, and then the seed's steps end
unfoldable pub ended_element : Reference → Reference → Step Reference
ended_element r n = cond (le (squared_distance r.xi r.eta n.xi n.eta) short_square) (Last n) (More n)

-- "A seed's steps end early when the magnitude of the determinant of J transposed times J is at most 2^-46 (no step is made)"
unfoldable pub element_step : GatheredElement → Point → Reference → Step Reference
element_step e t r =
    let p = point_at e r in
    let j = jacobian_at e r in
    cond (le (magnitude (hessian_det j)) singular) Stay (ended_element r (next_reference j (p.x ⊖ t.x) (p.y ⊖ t.y) r))

-- "First best: (0,0). Then nine seeds in the Rust's order": centre, corners, midsides
abbrev pub reference : Float → Float → Reference
reference ξ η = record { xi = ξ; eta = η }

unfoldable pub element_seeds : List Reference
element_seeds =
    reference plus0 plus0 ∷
    reference minus_one minus_one ∷ reference one minus_one ∷ reference one one ∷ reference minus_one one ∷
    reference plus0 minus_one ∷ reference one plus0 ∷ reference plus0 one ∷ reference minus_one plus0 ∷ []

-- the best place of the target t on an element, by at most `limit` steps a seed
unfoldable pub element_best : GatheredElement → Point → ℕ → Best Reference
element_best e t limit = best_of (point_at e) (element_step e t) t limit (reference plus0 plus0) element_seeds 9

-- `closest_reference_point`, with the element's number beside: "The projection record keeps reference, point and distance together."
unfoldable pub closest_reference_point : GatheredElement → ℕ → Point → ℕ → ElementProjection
closest_reference_point e index t limit =
    let b = element_best e t limit in
    record { element_index = index; reference = b.at; point = b.point; distance = root_of b.square }

-- ---- face

-- the point of a face at s
unfoldable pub face_point : GatheredElement → ℕ → Float → Point
face_point e face s = let f = face_reference_of face s in point_at e (reference f.xi f.eta)

-- the squared length of a tangent
unfoldable pub tangent_square : Point → Float
tangent_square t = t.x ⊗ t.x ⊕ t.y ⊗ t.y

-- s less the gradient over the squared tangent, clamped; (u, v) is the residual
unfoldable pub next_s : Point → Float → Float → Float → Float
next_s t u v s = clamp_of (s ⊖ (t.x ⊗ u ⊕ t.y ⊗ v) ⊘ tangent_square t)

-- ".. or after a step of at most 2^-52"
unfoldable pub ended_face : Float → Float → Step Float
ended_face s n = cond (le (magnitude (n ⊖ s)) epsilon) (Last n) (More n)

-- "Steps end when the squared tangent is at most 2^-52 (no step is made)"
unfoldable pub face_step : GatheredElement → ℕ → Point → Float → Step Float
face_step e face t s =
    let f = face_reference_of face s in
    let r = reference f.xi f.eta in
    let p = point_at e r in
    let d = face_tangent (jacobian_at e r) f in
    cond (le (tangent_square d) epsilon) Stay (ended_face s (next_s d (p.x ⊖ t.x) (p.y ⊖ t.y) s))

-- "First best: s = 0; seeds -1, 0, 1."
unfoldable pub face_seeds : List Float
face_seeds = minus_one ∷ plus0 ∷ one ∷ []

unfoldable pub face_best : GatheredElement → ℕ → Point → ℕ → Best Float
face_best e face t limit = best_of (face_point e face) (face_step e face t) t limit plus0 face_seeds 3

-- `closest_face_point`, with the element's and the face's number beside
unfoldable pub closest_face_point : GatheredElement → ℕ → ℕ → Point → ℕ → FaceProjection
closest_face_point e index face t limit =
    let b = face_best e face t limit in
    record { element_index = index; local_face = face; s = b.at; point = b.point; distance = root_of b.square }
