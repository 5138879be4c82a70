-- `print_listing` may print what `answer_job` counts: it lies within the output.
use Rattle.std.proofs.Common.{sym}
use Rattle.std.proofs.lemmas.List.{length-take-le}
use Rattle.job.proofs.Promised.{listed_within}
use Rattle.replay.proofs.print_listing.Goals as goal

pub slice_bounds-out-end : goal.slice_bounds-out-end
slice_bounds-out-end g c = listed_within _ _ c.in-Ok.ensures

pub slice_bounds-write_all-end : goal.slice_bounds-write_all-end
slice_bounds-write_all-end g c = sym (length-take-le _ _ (listed_within _ _ c.in-Ok.ensures))
