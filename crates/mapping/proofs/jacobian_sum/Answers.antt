-- `mapping::jacobian_sum` meets its contract: a turn adds the next node's part. Assumes nothing.
use native.Mathlib.Numerals.{add-one}
use Rattle.definition.specs.Mapping.{jacobian_of}
use Rattle.mapping.proofs.jacobian_sum.Goals as goal

pub loop-i-preserved : goal.loop-i-preserved
unfolding jacobian_of
loop-i-preserved g c = rw (add-one c.loop-i.i, ← c.loop-i.invariant)
