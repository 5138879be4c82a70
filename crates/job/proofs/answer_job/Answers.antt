-- `answer_job` meets its promise: a short output is refused and stays, else the listing stands in its first places. Assumes nothing.
use Rattle.std.proofs.Common.{rules}
use Rattle.std.proofs.lemmas.Result.{err_from_is_err_and}
use Rattle.job.proofs.Promised.{refused_kept, room_kept, listed_kept}
use Rattle.job.proofs.answer_job.Goals as goal

pub returns-in_err-ask : goal.returns-in_err-ask
returns-in_err-ask c =
    let p = err_from_is_err_and c.from_residual.result c.from_residual.ensures.1 in
    rw (p.1, p.2) (refused_kept _ _ c.in_err-ask.ensures)

pub returns : goal.returns
returns c = listed_kept _ _ (room_kept _ c.in_ok-ask.ensures) (search rules)
