-- Single steps of the two searches at each bound and just past it, at a NaN and at a determinant that rounds below zero; and the seeds on elements of family 9. Every row is computed.
-- Assumes nothing.
use mathlib.Core.Path.{◌≡◌, refl}
use mathlib.Core.List.{[], ◌∷◌, ◌++◌, map}
use lib.ListN.{replicate}
use lib.Ieee.{Float, nan, neg}
use Rattle.definition.specs.Lists.{each}
use Rattle.definition.specs.Binary64.{◌⊕◌, ◌⊗◌, plus0, one, minus_one}
use Rattle.definition.specs.declared.Step.{Step}
use Rattle.definition.specs.declared.Step.TheVariants.{Stay, Last, More}
use Rattle.definition.specs.Search.{reference, element_step, element_seeds, element_best, face_step, face_best}
use Rattle.definition.specs.declared.Point.{Point}
use Rattle.definition.specs.declared.Reference.{Reference}
use Rattle.definition.specs.declared.GatheredElement.{GatheredElement}
use Rattle.definition.proofs.Computing.{searching}
use Rattle.definition.proofs.Written.{number, two_to_minus, at}
use Rattle.definition.proofs.Steps.{carried, carried_from}

-- ---- how rows are written

-- the successor of a power of two
abbrev next : Float → Float
next x = x ⊗ (one ⊕ two_to_minus 52)

-- the element of family 4 whose map is (ξ, η) to (a ξ + b η, c ξ + d η)
abbrev linear : Float → Float → Float → Float → GatheredElement
linear a b c d =
    record {
      count = 4;
      xy =
          (neg a ⊕ neg b) ∷ (neg c ⊕ neg d) ∷ (a ⊕ neg b) ∷ (c ⊕ neg d) ∷
          (a ⊕ b) ∷ (c ⊕ d) ∷ (neg a ⊕ b) ∷ (neg c ⊕ d) ∷ replicate 10 plus0;
    }

-- the element step from (0, 0), and the face step of face 0 from 0
abbrev element_row : GatheredElement → Point → Step Reference
element_row e t = element_step e t (reference plus0 plus0)

abbrev face_row : GatheredElement → Point → Step Float
face_row e t = face_step e 0 t plus0

-- ---- "A seed's steps end early when the magnitude of the determinant of J transposed times J is at most 2^-46 (no step is made), or after a step whose squared length is at most 2^-104."

element_bounds :
    element_row (linear (two_to_minus 11) plus0 plus0 (two_to_minus 12)) (at (two_to_minus 12) plus0)
    ∷ element_row (linear (two_to_minus 11) plus0 plus0 (next (two_to_minus 12))) (at (two_to_minus 12) plus0)
    ∷ element_row (linear one plus0 plus0 one) (at (two_to_minus 52) plus0)
    ∷ element_row (linear one plus0 plus0 one) (at (next (two_to_minus 52)) plus0)
    ∷ element_row (linear nan plus0 plus0 one) (at plus0 plus0)
    ∷ element_row (linear (number 2) (number 26270) (number 31602) (number 415092270)) (at plus0 plus0)
    ∷ []
    ≡ Stay
    ∷ More (reference (two_to_minus 1) plus0)
    ∷ Last (reference (two_to_minus 52) plus0)
    ∷ More (reference (next (two_to_minus 52)) plus0)
    ∷ More (reference minus_one minus_one)
    ∷ Last (reference plus0 plus0)
    ∷ []
unfolding searching
element_bounds = refl

-- ---- "Steps end when the squared tangent is at most 2^-52 (no step is made), or after a step of at most 2^-52. The new s is clamped to [-1, 1], NaN to -1."

face_bounds :
    face_row (linear (two_to_minus 26) plus0 plus0 one) (at (two_to_minus 27) minus_one)
    ∷ face_row (linear (next (two_to_minus 26)) plus0 plus0 one) (at (two_to_minus 25) minus_one)
    ∷ face_row (linear one plus0 plus0 one) (at (two_to_minus 52) minus_one)
    ∷ face_row (linear one plus0 plus0 one) (at (next (two_to_minus 52)) minus_one)
    ∷ face_row (linear nan plus0 plus0 one) (at plus0 plus0)
    ∷ []
    ≡ Stay
    ∷ More one
    ∷ Last (two_to_minus 52)
    ∷ More (next (two_to_minus 52))
    ∷ More minus_one
    ∷ []
unfolding searching
face_bounds = refl

-- ---- the seeds

-- a step is made from every seed
every_seed_steps : each (λ i. (carried_from i).at ∷ []) 9 ≡ map carried element_seeds
unfolding searching
every_seed_steps = refl

-- an element of family 9 whose node under the last seed lies at the target and the others beside it: the last seed is tried
last_seed_is_tried : (element_best (record { count = 9; xy = replicate 14 one ++ plus0 ∷ plus0 ∷ one ∷ one ∷ [] }) (at plus0 plus0) 0).at ≡ reference minus_one plus0
unfolding searching
last_seed_is_tried = refl

-- "First best: s = 0; seeds -1, 0, 1": on the bottom face the nodes 0, 4 and 1 lie under the seeds -1, 0 and 1, and are at the target where the test says so
abbrev bottom : Float → Float → Float → GatheredElement
bottom a b c = record { count = 9; xy = a ∷ plus0 ∷ c ∷ plus0 ∷ (replicate 4 plus0 ++ b ∷ plus0 ∷ replicate 8 plus0) }

face_seeds_in_order :
    (face_best (bottom plus0 plus0 plus0) 0 (at plus0 plus0) 0).at
    ∷ (face_best (bottom plus0 one plus0) 0 (at plus0 plus0) 0).at
    ∷ (face_best (bottom one one plus0) 0 (at plus0 plus0) 0).at
    ∷ []
    ≡ plus0 ∷ minus_one ∷ one ∷ []
unfolding searching
face_seeds_in_order = refl
