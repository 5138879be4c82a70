-- `mapping::gradients::grad_phys` meets its contract: a turn writes the next pair. Assumes nothing.
use mathlib.Core.Path.{sym}
use native.Mathlib.Omega.{arith}
use Rattle.definition.proofs.Lists.{over_pair}
use Rattle.mapping.proofs.gradients.grad_phys.Goals as goal

pub loop-i-preserved : goal.loop-i-preserved
loop-i-preserved c = rw c.loop-i.invariant (sym (over_pair _ _ c.loop-i.i _ (omega arith)))
