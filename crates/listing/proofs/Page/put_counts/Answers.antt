-- `put_counts` meets its contract: its four calls put the line's fields in their order, each with the byte after it. Assumes nothing.
use Rattle.definition.specs.Job.{line, counts_line}
use Rattle.listing.proofs.Pages.{puts_on}
use Rattle.listing.proofs.Page.put_counts.Goals as goal

pub returns : goal.returns
unfolding line counts_line
returns c =
    puts_on c.put_text.ensures
    (puts_on c.put_number.ensures
    (puts_on c.put_number-2.ensures
    c.put_number-3.ensures))
