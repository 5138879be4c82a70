-- The order of the operations, at numbers where it is seen: in another order a product overflows or a sum rounds to another value. Each row can be followed by hand.
-- Assumes nothing.
use mathlib.Core.Path.{◌≡◌, refl}
use mathlib.Core.Bool.{true}
use mathlib.Core.List.{List, [], ◌∷◌}
use lib.ListN.{get_or, replicate}
use lib.Ieee.{Float, nan, inf, neg}
use Rattle.definition.specs.Binary64.{plus0, one, two}
use Rattle.definition.specs.Elements.{shape_of}
use Rattle.definition.specs.Mapping.{map_point, jacobian_of}
use Rattle.definition.specs.Search.{reference, next_reference}
use Rattle.definition.specs.Rows.{rotated}
use Rattle.definition.proofs.Computing.{mapping, searching, operating}
use Rattle.definition.proofs.Written.{number, two_to, bits, at}

-- ---- the factors of a shape number, "left to right": far outside the square the products overflow in any other order

shape4_order : shape_of 4 (neg (two_to 1023)) (neg (number 3))
    ≡ two_to 1023 ∷ neg (two_to 1023) ∷ two_to 1022 ∷ neg (two_to 1022) ∷ replicate 5 plus0
unfolding mapping
shape4_order = refl

shape9_order : shape_of 9 (two_to 512) one
    ≡ plus0 ∷ plus0 ∷ two_to 1023 ∷ two_to 1023 ∷ nan ∷ plus0 ∷ inf true ∷ plus0 ∷ nan ∷ []
unfolding mapping
shape9_order = refl

-- ---- "Sums start at +0 and run in local node order": 2^53, 1 and 1 come to 2^53, and backwards to 2^53 + 2

abbrev greatest_first : List Float
greatest_first = two_to 53 ∷ two_to 53 ∷ one ∷ one ∷ one ∷ one ∷ []

point_order : map_point greatest_first (replicate 3 one) 3 ≡ at (two_to 53) (two_to 53)
unfolding mapping
point_order = refl

jacobian_order : jacobian_of greatest_first (replicate 6 one) 3
    ≡ record { xxi = two_to 53; xeta = two_to 53; yxi = two_to 53; yeta = two_to 53 }
unfolding mapping
jacobian_order = refl

-- ---- each product is rounded before it is added: the square of 1 + 2^-30 rounds to 1 + 2^-29, which the first term takes away; unrounded it would leave 2^-60

product_rounded : map_point (neg (bits 0x3ff0000000800000) ∷ neg (bits 0x3ff0000000800000) ∷ bits 0x3ff0000000400000 ∷ bits 0x3ff0000000400000 ∷ []) (one ∷ bits 0x3ff0000000400000 ∷ []) 2 ≡ at plus0 plus0
unfolding mapping
product_rounded = refl

-- ---- `solve_2x2` divides once: (10 - 4) / 9 is the 2/3 and (5 - 8) / 9 the -1/3 by which the reference goes back, where 10 / 9 - 4 / 9 rounds to another value

step_order : next_reference (record { xxi = two; xeta = one; yxi = one; yeta = two }) one plus0 (reference plus0 plus0)
    ≡ reference (bits 0xbfe5555555555555) (bits 0x3fd5555555555555)
unfolding searching
step_order = refl

-- ---- `rotate_material_in_plane` multiplies the material by `strain_to_local` first: (2^53 + 1) - 2^53 comes to 0, and the other way (2^53 - 2^53) + 1 to 1

rotation_order : get_or (rotated (two_to 53 ∷ one ∷ plus0 ∷ plus0 ∷ neg (two_to 53) ∷ replicate 11 plus0) one one) 0 nan ≡ plus0
unfolding operating
rotation_order = refl
