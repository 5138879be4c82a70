-- The components met have been put.
use Rattle.std.proofs.Common.{◌+◌, ◌*◌, get_or, length}
use Rattle.std.specs.Float.{nan}
use Rattle.definition.specs.Lists.{each}
use Rattle.definition.specs.Rows.{kept}
use Rattle.triplets.specs.Lent.{Puts}
use Rattle.operators.proofs.put_node.Given as goal

abbrev pub invariant-loop-d : goal.invariant-loop-d
invariant-loop-d l = Puts l.initial.strip l.strip (each (λ d. kept l.row (length l.entries * l.node + d) (get_or l.entries d nan)) l.d)
