-- `take_all` meets its contract: each record that passes is taken, and the first that does not is the answer. Assumes nothing.
use Rattle.std.proofs.lemmas.Result.{err_from_is_err_and}
use Rattle.records.proofs.Reached.{ready, reached_start, reached_next, reached_refused, reached_room, reached_end, reached_none, reached_bounds}
use Rattle.records.proofs.Job.take_all.Goals as goal

pub loop-at-init : goal.loop-at-init
loop-at-init c = rw c.requires (reached_start c.args.bytes.now)

pub returns-in_err-record_questions-clause-outcome : goal.returns-in_err-record_questions-clause-outcome
returns-in_err-record_questions-clause-outcome c =
    let same = c.new-next.ensures in
    let p = err_from_is_err_and c.from_residual.result c.from_residual.ensures.1 in
    rw (p.1, p.2) (reached_refused c.loop-at.invariant c.loop-at-test.true (rw (same.0, same.1) at c.in_err-record_questions.ensures))

pub take-requires-clause-whole : goal.take-requires-clause-whole
take-requires-clause-whole c = rw c.new-next.result.read (ready c.in_ok-record_questions.ensures).whole

pub take-requires-clause-room : goal.take-requires-clause-room
take-requires-clause-room c =
    let same = c.new-next.ensures in
    rw (c.new-next.result.read, same.0, same.1) (reached_room c.loop-at.invariant (rw (same.0, same.1) at c.in_ok-record_questions.ensures))

pub loop-at-preserved : goal.loop-at-preserved
loop-at-preserved c =
    let same = c.new-next.ensures in
    let mark = c.new-next.result.read in
    rw (c.size-at.ensures.value, c.family.ensures, c.take.ensures.value, mark, same.0, same.1)
    (reached_next c.loop-at.invariant c.loop-at-test.true (rw (same.0, same.1) at c.in_ok-record_questions.ensures)
    (rw (c.take.ensures.value, mark, same.0, same.1) at c.take.ensures.iterations_bound))

pub returns-in_err-ask-clause-outcome : goal.returns-in_err-ask-clause-outcome
returns-in_err-ask-clause-outcome c =
    let p = err_from_is_err_and c.from_residual-in_err-ask.result c.from_residual-in_err-ask.ensures.1 in
    rw (p.1, p.2) (reached_none c.loop-at.invariant c.loop-at-test.false c.in_err-ask.ensures)

pub returns-clause-outcome : goal.returns-clause-outcome
returns-clause-outcome c = reached_end c.loop-at.invariant c.loop-at-test.false c.in_ok-ask.ensures

pub returns-clause-bounded : goal.returns-clause-bounded
returns-clause-bounded c = reached_bounds c.loop-at.invariant c.in_ok-ask.ensures
