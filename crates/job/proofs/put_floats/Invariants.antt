-- `put_floats`: the numbers of the patterns met have been pushed.
use Rattle.std.proofs.Common.{◌≡◌, map, take}
use Rattle.std.specs.Float.{binary64}
use Rattle.std.specs.Float.Ieee.{of_bits}
use Rattle.job.proofs.put_floats.Given as goal

abbrev pub invariant-loop-pattern : goal.invariant-loop-pattern
invariant-loop-pattern g l = l.floats.items ≡ map (of_bits binary64) (take l.pattern-index l.bits)
