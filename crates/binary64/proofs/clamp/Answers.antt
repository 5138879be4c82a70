-- `binary64::clamp` meets its contract: by comparisons the clamp is the definition's, for NaN too. Assumes nothing.
use lib.Ieee.{of_bits, neg}
use Rattle.definition.proofs.Binary64.{clamp_by_comparisons}
use Rattle.binary64.proofs.clamp.Goals as goal

pub returns-then-x-2 : goal.returns-then-x-2
unfolding of_bits neg
returns-then-x-2 c = rw (clamp_by_comparisons _, c.if-x.true, c.if-x-2.true)

pub returns-else-x-2 : goal.returns-else-x-2
unfolding of_bits neg
returns-else-x-2 c = rw (clamp_by_comparisons _, c.if-x.true, c.if-x-2.false)

pub returns-else-x : goal.returns-else-x
unfolding of_bits neg
returns-else-x c = rw (clamp_by_comparisons _, c.if-x.false)
