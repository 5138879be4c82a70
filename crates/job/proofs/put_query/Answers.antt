-- `put_query` meets its contract: the query's promise, of the program's own lists, gives the listing. Assumes nothing.
use lib.Ieee.{of_bits}
use Rattle.definition.specs.Job.{own_lists}
use Rattle.job.proofs.Answers.{own_room, promised_listing}
use Rattle.job.proofs.put_query.Goals as goal

pub returns : goal.returns
unfolding of_bits own_lists
returns c = promised_listing c.args.call.now own_lists c.query_quad_mesh-answer.result c.requires own_room c.query_quad_mesh-answer.ensures.promise c.put_answer.ensures
