-- `build` meets its contract: a refusal writes nothing, and else the triplets of all points are put into lists that have room for them. Assumes nothing.
use Rattle.std.proofs.lemmas.Result.{err_from_is_err_and}
use Rattle.definition.specs.Operators.{operator_of}
use Rattle.triplets.specs.Lent.{triplet_lists}
use Rattle.operators.proofs.Filling.{triplets_most}
use Rattle.operators.proofs.Promised.{refused_kept, accepted_kept, room_for}
use Rattle.operators.proofs.build.Goals as goal

pub returns-in_err-ask-clause-promise : goal.returns-in_err-ask-clause-promise
unfolding operator_of
returns-in_err-ask-clause-promise g c =
    let x = c.args.operator.now in
    let o = g.O.Operator in
    let lent = triplet_lists c.args.lent.now in
    let p = err_from_is_err_and c.from_residual.result c.from_residual.ensures.1 in
    rw (p.1, p.2) (refused_kept (operator_of (o.base x) (o.questions x lent) g.row.ROWS g.row.COLUMNS (o.value x)) lent _ c.in_err-ask.ensures)

pub returns-clause-promise : goal.returns-clause-promise
unfolding operator_of
returns-clause-promise g c =
    let x = c.args.operator.now in
    let o = g.O.Operator in
    let lent = triplet_lists c.args.lent.now in
    let passed = g.met.O.Operator.passed x lent c.in_ok-ask.ensures in
    accepted_kept (operator_of (o.base x) (o.questions x lent) g.row.ROWS g.row.COLUMNS (o.value x)) lent c.in_ok-ask.ensures
    (rw (c.num_points.ensures, c.base-call.ensures))
    (rw (c.nodes_rz.ensures, c.mesh.ensures, c.base-call.ensures))
    (room_for lent passed.1 (triplets_most (o.base x) _ _ _ _))
    c.put_points-triplets.ensures.value
