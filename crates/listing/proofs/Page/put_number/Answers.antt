-- `put_number` meets its contract: the text that the buffer gives is the definition's. Assumes nothing.
use Rattle.listing.proofs.Pages.{puts_on}
use Rattle.listing.proofs.Numbers.{decimal_text}
use Rattle.listing.proofs.Page.put_number.Goals as goal

pub returns : goal.returns
returns c = puts_on (rw (c.as_bytes.ensures.value, c.format.ensures.text, decimal_text _ c.ranges.n.fits) at c.put_text.ensures) c.put_byte.ensures
