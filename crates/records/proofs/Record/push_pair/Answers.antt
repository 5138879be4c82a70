-- `push_pair` meets its contract: two numbers of eight bytes. Assumes nothing.
use Rattle.std.proofs.Common.{◌≡◌, ◌+◌, append_assoc, ◌∙◌, arith}
use Rattle.definition.specs.Job.{pair_bits}
use Rattle.records.proofs.Numbers.{number_is}
use Rattle.records.proofs.Record.push_pair.Goals as goal

pub returns : goal.returns
unfolding pair_bits
returns g c =
    let r = c.args.self.now in
    let place : r.at + 2 + 8 ≡ r.at + 10 = omega arith in
    let first = c.from_le_bytes.ensures ∙ number_is r.bytes.now (r.at + 2) 7 c.part.ensures in
    let second = c.from_le_bytes-2.ensures ∙ number_is r.bytes.now (r.at + 10) 7 c.part-2.ensures in
    rw (c.push-2.ensures.items, c.push.ensures.items, append_assoc, first, second, place)
