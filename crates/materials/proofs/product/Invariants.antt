-- The first i rows of the product are written over the zeros.
use Rattle.std.proofs.Common.{◌≡◌}
use Rattle.definition.specs.Lists.{each, over}
use Rattle.definition.specs.Query.{values}
use Rattle.materials.specs.Products.{entry_of}
use Rattle.materials.proofs.product.Given as goal

abbrev pub invariant-loop-i : goal.invariant-loop-i
invariant-loop-i l = l.out ≡ over (each (λ i. values (entry_of l.a l.b 4 i) 4) l.i) l.initial.out
