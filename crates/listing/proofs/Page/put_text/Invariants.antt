-- `put_text`: the bytes met have been put.
use Rattle.std.proofs.Common.{take}
use Rattle.listing.specs.Page.{Puts}
use Rattle.listing.proofs.Page.put_text.Given as goal

abbrev pub invariant-loop-b : goal.invariant-loop-b
invariant-loop-b l = Puts l.initial.self l.self (take l.b-index l.text)
