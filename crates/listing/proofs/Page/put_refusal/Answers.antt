-- `put_refusal` meets its contract: its three calls put the line's fields in their order, each with the byte after it. Assumes nothing.
use Rattle.definition.specs.Job.{line, refusal_line}
use Rattle.listing.proofs.Pages.{puts_on}
use Rattle.listing.proofs.Page.put_refusal.Goals as goal

pub returns : goal.returns
unfolding line refusal_line
returns c = puts_on c.put_text.ensures (puts_on c.put_number.ensures c.put_number-2.ensures)
