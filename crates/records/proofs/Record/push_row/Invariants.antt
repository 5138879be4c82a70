-- `push_row`: the numbers met stand at the list's end.
use Rattle.std.proofs.Common.{◌≡◌, ◌++◌, ◌+◌}
use Rattle.definition.specs.Job.{row_of}
use Rattle.records.proofs.Record.push_row.Given as goal

abbrev pub invariant-loop-local_index : goal.invariant-loop-local_index
invariant-loop-local_index g l = l.list.items ≡ l.initial.list.items ++ row_of l.self.bytes.now (l.self.at + 2) l.local_index
