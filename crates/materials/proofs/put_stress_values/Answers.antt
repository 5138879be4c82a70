-- `materials::put_stress_values` meets its contract: four rows are written, each where the last one ended, with two columns a node. Assumes nothing.
use mathlib.Core.Path.{◌≡◌, refl}
use native.Mathlib.Omega.{arith}
use Rattle.definition.specs.Lists.{each, over}
use Rattle.definition.specs.Query.{values}
use Rattle.definition.proofs.Lists.{values_length}
use Rattle.materials.specs.Products.{entry_of, times_of}
use Rattle.materials.proofs.Writing.{part_next}
use Rattle.materials.proofs.put_stress_values.Goals as goal

pub loop-i-init : goal.loop-i-init
unfolding each over
loop-i-init c = refl

pub loop-i-preserved : goal.loop-i-preserved
loop-i-preserved c = part_next (λ i. values (entry_of _ _ _ i) _) _ _ _ (λ i. values_length _ _) c.loop-i.invariant c.put_row.ensures

pub returns : goal.returns
unfolding times_of
returns c =
    let last : c.loop-i.i ≡ 4 = omega arith in
    rw (← c.nodes_per_element-columns.ensures.value, ← last) c.loop-i.invariant
