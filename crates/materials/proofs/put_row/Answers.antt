-- `materials::put_row` meets its contract: after t turns the first t entries of the row are written from its start on. Assumes nothing.
use mathlib.Core.Path.{sym}
use native.Mathlib.Omega.{arith}
use lib.ListN.{length-set}
use Rattle.definition.specs.Lists.{each}
use Rattle.lists.proofs.Parts.{part_fits}
use Rattle.materials.proofs.Writing.{over_from_none, over_from_value}
use Rattle.materials.proofs.put_row.Goals as goal

pub loop-t-init : goal.loop-t-init
unfolding each
loop-t-init c =
    let fits = part_fits c.args.columns c.requires.2 in
    (omega arith, sym (over_from_none _ _ (omega arith)))

pub loop-t-preserved : goal.loop-t-preserved
loop-t-preserved c =
    let turn = c.loop-t in
    (rw length-set turn.invariant.0, rw (turn.invariant.1, c.entry.ensures) (sym (over_from_value _ _ turn.t _ (omega arith))))
