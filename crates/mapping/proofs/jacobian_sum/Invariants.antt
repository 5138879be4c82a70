-- `mapping::jacobian_sum` meets its contract: after i turns the matrix is the sum over the first i nodes. Assumes nothing.
use mathlib.Core.Path.{◌≡◌}
use Rattle.definition.specs.Mapping.{jacobian_of}
use Rattle.mapping.proofs.jacobian_sum.Given as goal

abbrev pub invariant-loop-i : goal.invariant-loop-i
invariant-loop-i g l = l.jac ≡ jacobian_of l.xy l.grad l.i
