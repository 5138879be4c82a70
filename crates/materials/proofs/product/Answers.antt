-- `materials::product` meets its contract: with four columns the four rows written are the definition's product, and they fill the array. Assumes nothing.
use mathlib.Core.Path.{◌≡◌, refl, ◌∙◌}
use native.Mathlib.Omega.{arith}
use Rattle.definition.specs.Lists.{each, over}
use Rattle.definition.specs.Query.{values}
use Rattle.definition.proofs.Lists.{values_length}
use Rattle.materials.specs.Products.{entry_of, times_of}
use Rattle.materials.proofs.Writing.{part_next, over_whole}
use Rattle.materials.proofs.Products.{times_length, product_is_times}
use Rattle.materials.proofs.product.Goals as goal

pub loop-i-init : goal.loop-i-init
unfolding each over
loop-i-init c = refl

pub loop-i-preserved : goal.loop-i-preserved
loop-i-preserved c = part_next (λ i. values (entry_of _ _ 4 i) 4) 4 _ _ (λ i. values_length _ 4) c.loop-i.invariant c.put_row.ensures

pub returns : goal.returns
unfolding times_of
returns c =
    let last : c.loop-i.i ≡ 4 = omega arith in
    (rw last at c.loop-i.invariant) ∙ over_whole _ _ (times_length _ _ 4) ∙ product_is_times _ _
