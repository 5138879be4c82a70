-- The map from the reference square to the plane: mapping.rs. "Sums start at +0 and run in local node order."
-- xy holds two coordinates a node, n the shape numbers and g two gradients a node. (`nan` is what the logic takes for a float past a list's end.)
use Rattle.std.specs.Prelude.{List, [], ◌∷◌, ℕ, zero, suc, ◌+◌, ◌*◌, get_or, replicate, Float}
use Rattle.std.specs.Float.{nan}
use Rattle.std.specs.Float.Ieee.{neg}
use Rattle.definition.specs.Lists.{each, over}
use Rattle.definition.specs.Binary64.{◌⊕◌, ◌⊖◌, ◌⊗◌, ◌⊘◌, plus0, one}
use Rattle.definition.specs.Elements.{nodes_of, shape_of, grad_ref_of}
use Rattle.definition.specs.declared.Point.{Point}
use Rattle.definition.specs.declared.Reference.{Reference}
use Rattle.definition.specs.declared.FaceReference.{FaceReference}
use Rattle.definition.specs.declared.JacobianMatrix.{JacobianMatrix}
use Rattle.definition.specs.declared.InverseJacobian.{InverseJacobian}
use Rattle.definition.specs.declared.GatheredElement.{GatheredElement}

-- the two numbers of node or point i in a list of pairs
abbrev pub first : List Float → ℕ → Float
first l i = get_or l (2 * i) nan

abbrev pub second : List Float → ℕ → Float
second l i = get_or l (2 * i + 1) nan

-- `map_point`, the first k nodes' part: the sum of N times x
unfoldable pub map_point : List Float → List Float → ℕ → Point
map_point xy n zero = record { x = plus0; y = plus0 }
map_point xy n (suc k) =
    let p = map_point xy n k in
    record { x = p.x ⊕ get_or n k nan ⊗ first xy k; y = p.y ⊕ get_or n k nan ⊗ second xy k }

-- `jacobian`, the first k nodes' part: the sum of x times gradient
unfoldable pub jacobian_of : List Float → List Float → ℕ → JacobianMatrix
jacobian_of xy g zero = record { xxi = plus0; xeta = plus0; yxi = plus0; yeta = plus0 }
jacobian_of xy g (suc k) =
    let j = jacobian_of xy g k in
    record {
      xxi = j.xxi ⊕ first xy k ⊗ first g k;
      xeta = j.xeta ⊕ first xy k ⊗ second g k;
      yxi = j.yxi ⊕ second xy k ⊗ first g k;
      yeta = j.yeta ⊕ second xy k ⊗ second g k;
    }

-- `det_j`
unfoldable pub det_j : JacobianMatrix → Float
det_j j = j.xxi ⊗ j.yeta ⊖ j.xeta ⊗ j.yxi

-- `inv_j`, where its determinant is tested by question 16
unfoldable pub inv_j : JacobianMatrix → InverseJacobian
inv_j j =
    let i = one ⊘ det_j j in
    record { xix = j.yeta ⊗ i; xiy = neg j.xeta ⊗ i; etax = neg j.yxi ⊗ i; etay = j.xxi ⊗ i }

-- `grad_phys`: by x, then by y, node after node
unfoldable pub grad_phys : ℕ → List Float → InverseJacobian → List Float
grad_phys family g v =
    over
    (each (λ i.
    (v.xix ⊗ first g i ⊕ v.etax ⊗ second g i) ∷
    (v.xiy ⊗ first g i ⊕ v.etay ⊗ second g i) ∷ []) (nodes_of family))
    (replicate 18 plus0)

-- `face_tangent`: J times the direction of the face
unfoldable pub face_tangent : JacobianMatrix → FaceReference → Point
face_tangent j f = record { x = j.xxi ⊗ f.dxi ⊕ j.xeta ⊗ f.deta; y = j.yxi ⊗ f.dxi ⊕ j.yeta ⊗ f.deta }

-- ---- of a gathered element

-- `reference_map`: the point at a reference
unfoldable pub point_at : GatheredElement → Reference → Point
point_at e r = map_point e.xy (shape_of e.count r.xi r.eta) (nodes_of e.count)

unfoldable pub jacobian_at : GatheredElement → Reference → JacobianMatrix
jacobian_at e r = jacobian_of e.xy (grad_ref_of e.count r.xi r.eta) (nodes_of e.count)
