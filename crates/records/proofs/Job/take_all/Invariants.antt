-- `take_all`: what is left to read, after the job read so far, comes to the job's answer. The measure is what is left of the bytes.
use Rattle.std.proofs.Common.{length, ◌-◌}
use Rattle.records.proofs.Reached.{Reached}
use Rattle.records.proofs.Job.take_all.Given as goal

abbrev pub invariant-loop-at : goal.invariant-loop-at
invariant-loop-at l = Reached l.bytes l.at l.index l.self

abbrev pub decreases-loop-at : goal.decreases-loop-at
decreases-loop-at l = length l.bytes - l.at
