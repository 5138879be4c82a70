-- The first i rows of the product are written over the lent array.
use Rattle.std.proofs.Common.{◌≡◌}
use Rattle.definition.specs.Lists.{each, over}
use Rattle.definition.specs.Query.{values}
use Rattle.materials.specs.Products.{entry_of}
use Rattle.materials.proofs.put_stress_values.Given as goal

abbrev pub invariant-loop-i : goal.invariant-loop-i
invariant-loop-i l = l.out ≡ over (each (λ i. values (entry_of l.material l.strain l.columns i) l.columns) l.i) l.initial.out
