-- `push_row` meets its contract: a turn pushes one number more. Assumes nothing.
use Rattle.std.proofs.Common.{◌≡◌, ◌+◌, ◌*◌, append_assoc, append-nil, ◌∙◌, arith}
use Rattle.definition.specs.Lists.{each}
use Rattle.definition.specs.Job.{row_of}
use Rattle.records.proofs.Numbers.{number_is}
use Rattle.records.proofs.Marks.{row_length, row_next}
use Rattle.records.proofs.Record.push_row.Goals as goal

pub loop-local_index-init : goal.loop-local_index-init
unfolding row_of each
loop-local_index-init g c = rw append-nil

pub push-requires : goal.push-requires
push-requires g c =
    let l = c.loop-local_index in
    let r = c.args.self.now in
    rw (l.invariant, row_length r.bytes.now (r.at + 2) l.local_index c.args.list.now.items) (omega arith)

pub loop-local_index-preserved : goal.loop-local_index-preserved
loop-local_index-preserved g c =
    let l = c.loop-local_index in
    let r = c.args.self.now in
    let place : r.at + 2 + 4 * l.local_index ≡ r.at + (2 + 4 * l.local_index) = omega arith in
    let number = c.from_le_bytes.ensures ∙ number_is r.bytes.now (r.at + (2 + 4 * l.local_index)) 3 c.part.ensures in
    rw (c.push.ensures.items, l.invariant, row_next r.bytes.now (r.at + 2) l.local_index, append_assoc, number, place)
