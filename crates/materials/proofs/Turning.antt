-- A material turned, as an array: the copy where the pair is equal to (1, 0), and two products elsewhere. Assumes nothing.
use mathlib.Core.Path.{◌≡◌, sym}
use mathlib.Core.Bool.{true, false, ◌&&◌}
use mathlib.Core.List.{List}
use lib.Ieee.{Float, eq}
use Rattle.definition.specs.Binary64.{plus0, one}
use Rattle.definition.specs.Rows.{product_of, strain_to_local, stress_to_global, rotated}
use Rattle.materials.proofs.Products.{product_length}
use Rattle.materials.specs.Sixteen.{sixteen}
use Rattle.materials.proofs.Sixteen.{sixteen_whole, product_of_sixteen}

module _ (material : List Float) (c s : Float) where
  pub copied : eq c one && eq s plus0 ≡ true → sixteen material ≡ sixteen (rotated material c s)
  unfolding rotated
  copied h = rw h

  pub turned : eq c one && eq s plus0 ≡ false → product_of (stress_to_global c s) (product_of (sixteen material) (strain_to_local c s)) ≡ sixteen (rotated material c s)
  unfolding rotated
  turned h = rw (h, product_of_sixteen) (sym (sixteen_whole (product_length _ _)))
