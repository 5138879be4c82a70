-- `mapping::gradients::grad_phys` meets its contract: after i turns the first i pairs are written over the zeros, and the last turn is that of the family's last node.
use mathlib.Core.Path.{◌≡◌}
use mathlib.Core.List.{[], ◌∷◌}
use lib.ListN.{replicate}
use Rattle.definition.specs.Lists.{each, over}
use Rattle.definition.specs.Binary64.{◌⊕◌, ◌⊗◌, plus0}
use Rattle.definition.specs.Mapping.{first, second}
use Rattle.mapping.proofs.gradients.grad_phys.Given as goal

abbrev pub invariant-loop-i : goal.invariant-loop-i
invariant-loop-i l =
    l.out ≡ over (each (λ k. (l.xix ⊗ first l.grad_reference k ⊕ l.etax ⊗ second l.grad_reference k) ∷ (l.xiy ⊗ first l.grad_reference k ⊕ l.etay ⊗ second l.grad_reference k) ∷ []) l.i) (replicate 18 plus0)
