-- `rows::put_pairs` meets its contract: after j turns the pairs of the first j nodes are written from the place on. Assumes nothing.
use mathlib.Core.Path.{◌≡◌}
use mathlib.Core.List.{[], ◌∷◌}
use lib.ListN.{get_or}
use lib.Ieee.{nan}
use Rattle.definition.specs.Lists.{each}
use Rattle.materials.specs.Products.{over_from}
use Rattle.rows.proofs.put_pairs.Given as goal

abbrev pub invariant-loop-j : goal.invariant-loop-j
invariant-loop-j l = l.out ≡ over_from l.at (each (λ k. get_or l.first k nan ∷ get_or l.second k nan ∷ []) l.j) l.initial.out
