-- `repeats` meets its contract. The loop's invariant: two numbers are equal in what is left from i on exactly where two are in the row. Assumes nothing.
use mathlib.Core.Path.{sym, ◌∙◌}
use Rattle.mesh.proofs.Scanning.{repeats_next}
use Rattle.mesh.proofs.repeats.Goals as goal

pub returns-then-contains : goal.returns-then-contains
returns-then-contains c = sym (rw c.if-contains.true at (repeats_next c.args.row.now c.loop-i-test.true c.contains.ensures.value)) ∙ c.loop-i.invariant

pub loop-i-preserved : goal.loop-i-preserved
loop-i-preserved c = sym (rw c.if-contains.false at (repeats_next c.args.row.now c.loop-i-test.true c.contains.ensures.value)) ∙ c.loop-i.invariant
