-- `take` meets its contract: the family and the iterations that a QF names. Assumes nothing.
use Rattle.std.proofs.Common.{◌+◌, ◌∙◌}
use Rattle.definition.specs.Job.{taken}
use Rattle.records.proofs.Numbers.{number_is}
use Rattle.records.proofs.Job.take.Goals as goal

pub returns-in-Head-clause-value : goal.returns-in-Head-clause-value
unfolding taken
returns-in-Head-clause-value c =
    let r = c.args.next.now in
    let number = c.from_le_bytes-self-inside.ensures ∙ number_is r.bytes.now (r.at + 3) 1 c.part.ensures in
    rw (c.in-Head.is, number, ← c.self.view_is)
