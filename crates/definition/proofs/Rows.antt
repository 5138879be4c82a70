-- Triplets and materials: a NaN is kept and both zeros are omitted, a pair equal to (1, 0) copies the material, and a structural 0 is a term like any other.
-- Assumes nothing.
use mathlib.Core.Path.{◌≡◌, refl}
use mathlib.Core.Bool.{true, false}
use mathlib.Core.List.{List, [], ◌∷◌, ◌++◌}
use Prim.Native.Nat.{ℕ}
use lib.IntN.{pos}
use lib.ListN.{replicate}
use lib.Ieee.{Float, nan, inf, fin, eq}
use Rattle.definition.specs.Binary64.{plus0, one, minus_one}
use Rattle.definition.specs.Rows.{kept, Basis, material_of, rotated, oriented_material, stress_entry}
use Rattle.definition.specs.declared.Structural2dFormulation.TheVariants.{PlaneStrain}
use Rattle.definition.proofs.Computing.{operating}

abbrev minus0 : Float
minus0 = fin true 0 (pos 0)

-- ---- "a value equal to 0, either sign, is omitted, NaN is kept"

pub nan_is_kept : (r c : ℕ) → kept r c nan ≡ record { row = r; column = c; value = nan } ∷ []
unfolding kept eq
nan_is_kept r c = refl

pub zeros_are_omitted : (r c : ℕ) → kept r c plus0 ++ kept r c minus0 ≡ []
unfolding kept eq
zeros_are_omitted r c = refl

-- ---- "A pair equal to (1, 0) copies the material"

pub one_zero_copies : (m : List Float) → rotated m one plus0 ≡ m
unfolding rotated eq
one_zero_copies m = refl

pub one_minus_zero_copies : (m : List Float) → rotated m one minus0 ≡ m
unfolding rotated eq
one_minus_zero_copies m = refl

-- "if not, the list is not read"
pub pairs_not_given : (table pairs : List Float) (number e : ℕ) → oriented_material table number false pairs e ≡ material_of table number
unfolding oriented_material
pairs_not_given table pairs number e = refl

-- the second material of a table, and the empty part past its end
second_material : (m n : List Float) → material_of (replicate 16 one ++ (replicate 16 minus_one ++ n)) 1 ++ material_of (replicate 32 one) 2 ≡ replicate 16 minus_one
unfolding material_of
second_material m n = refl

-- ---- "four terms from +0" always: an infinite entry times the structural 0 of the plane-strain tt row is NaN

basis : Basis
basis = record { shape = replicate 9 one; gradient = replicate 18 one; radius = one }

structural_zero_counts : stress_entry (plus0 ∷ plus0 ∷ inf false ∷ replicate 13 plus0) (PlaneStrain one) basis 0 0 0 ≡ nan
unfolding operating basis
structural_zero_counts = refl
