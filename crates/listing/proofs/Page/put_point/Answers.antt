-- `put_point` meets its contract: its eleven calls put the line's fields in their order, each with the byte after it. Assumes nothing.
use Rattle.definition.specs.Job.{line, point_line}
use Rattle.listing.proofs.Pages.{puts_on}
use Rattle.listing.proofs.Page.put_point.Goals as goal

pub returns : goal.returns
unfolding line point_line
returns c =
    puts_on c.put_number.ensures
    (puts_on c.put_number-2.ensures
    (puts_on c.put_float.ensures
    (puts_on c.put_number-3.ensures
    (puts_on c.put_float-2.ensures
    (puts_on c.put_float-3.ensures
    (puts_on c.put_float-4.ensures
    (puts_on c.put_number-4.ensures
    (puts_on c.put_number-5.ensures
    (puts_on c.put_float-5.ensures
    c.put_float-6.ensures)))))))))
