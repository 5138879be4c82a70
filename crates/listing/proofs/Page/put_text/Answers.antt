-- `put_text` meets its contract: a turn puts one byte more. Assumes nothing.
use Rattle.listing.proofs.Pages.{puts_next}
use Rattle.listing.proofs.Page.put_text.Goals as goal

pub loop-b-preserved : goal.loop-b-preserved
loop-b-preserved c = puts_next _ _ c.loop-b-test.true c.loop-b.invariant c.put_byte.ensures
