-- `put_answer`: the lines of the points met have been put.
use Rattle.definition.specs.Lists.{each}
use Rattle.definition.specs.Job.{point_line}
use Rattle.answers.specs.Lent.{query_lists}
use Rattle.listing.specs.Page.{Puts}
use Rattle.listing.specs.Answers.{answer_in}
use Rattle.listing.proofs.Page.put_answer.Given as goal

abbrev pub invariant-loop-p : goal.invariant-loop-p
invariant-loop-p l = Puts l.initial.self l.self (each (λ p. point_line p (answer_in (query_lists l.lists) p)) l.p)
