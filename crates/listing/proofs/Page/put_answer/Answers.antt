-- `put_answer` meets its contract: the counts' line, and each turn the line of one point more. Assumes nothing.
use Rattle.std.proofs.Common.{◌≡◌, min, length, arith}
use Rattle.definition.specs.Lists.{each}
use Rattle.listing.proofs.Pages.{puts_none, puts_on, puts_each}
use Rattle.listing.proofs.Page.put_answer.Goals as goal

pub loop-p-init : goal.loop-p-init
unfolding each
loop-p-init c = puts_none _

pub loop-p-preserved : goal.loop-p-preserved
loop-p-preserved c = puts_each _ _ c.loop-p.invariant (rw c.answer_in.ensures at c.put_point.ensures)

pub returns-after-loop-p : goal.returns-after-loop-p
returns-after-loop-p c =
    let e : c.loop-p.p ≡ min c.in-Ok.counts.points (length c.args.lists.now.nearest_node_indices.now) = omega arith in
    rw c.in-Ok.is (puts_on c.put_counts.ensures (rw e at c.loop-p.invariant))
