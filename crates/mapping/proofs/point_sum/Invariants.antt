-- `mapping::point_sum` meets its contract: after i turns the point is the sum over the first i nodes. Assumes nothing.
use mathlib.Core.Path.{◌≡◌}
use Rattle.definition.specs.Mapping.{map_point}
use Rattle.mapping.proofs.point_sum.Given as goal

abbrev pub invariant-loop-i : goal.invariant-loop-i
invariant-loop-i g l = l.point ≡ map_point l.xy l.n l.i
