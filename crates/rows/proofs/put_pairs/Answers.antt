-- `rows::put_pairs` meets its contract: after j turns the pairs of the first j nodes are written from the place on. Assumes nothing.
use mathlib.Core.Path.{sym}
use native.Mathlib.Omega.{arith}
use Rattle.definition.specs.Lists.{each}
use Rattle.materials.proofs.Writing.{over_from_none, over_from_pair}
use Rattle.rows.proofs.put_pairs.Goals as goal

pub loop-j-init : goal.loop-j-init
unfolding each
loop-j-init c = sym (over_from_none _ _ (omega arith))

pub loop-j-preserved : goal.loop-j-preserved
loop-j-preserved c = rw c.loop-j.invariant (sym (over_from_pair _ _ _ c.loop-j.j _ (omega arith)))
