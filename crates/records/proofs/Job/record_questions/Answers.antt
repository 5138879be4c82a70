-- `record_questions` meets its contract: the room for the record decides question 21. Assumes nothing.
use Rattle.std.proofs.Common.{◌≡◌, true, ◌∙◌, arith}
use Rattle.std.proofs.lemmas.Grind.{common_steps}
use Rattle.definition.specs.Questions.{asked}
use Rattle.definition.specs.Job.{is_head, empty_job, taken, within_limits, record_questions}
use Rattle.records.proofs.Marks.{room_is}
use Rattle.definition.proofs.Passing.{held}
use Rattle.records.proofs.Reached.{head_first}
use Rattle.records.proofs.Job.record_questions.Goals as goal

pub returns : goal.returns
unfolding asked record_questions
returns c =
    let j = c.args.self.now in
    let r = c.args.next.now in
    let index = c.args.index in
    let first : is_head r.mark ≡ true → j ≡ empty_job = λ h. c.requires.start (head_first index (held _ index c.in_ok-ask-2.ensures) (c.is_head.ensures ∙ h)) in
    let room : c.has_room.result ≡ within_limits (taken r.mark r.bytes.now r.at j) = c.has_room.ensures ∙ room_is r.mark r.bytes.now r.at j c.requires.limits first in
    grind (arith, common_steps)
