-- `answer_points` meets its contract: one point more. Assumes nothing.
use lib.Ieee.{of_bits}
use Rattle.std.proofs.Common.{◌≡◌, ◌∙◌, rules, arith}
use Rattle.definition.specs.Query.{answer_at}
use Rattle.query.proofs.Filling.{filled_next, byte_le_one, inside_next}
use Rattle.query.proofs.answer_points.Goals as goal

pub loop-p-preserved : goal.loop-p-preserved
unfolding of_bits
loop-p-preserved c =
    let q = c.args.call.now in
    let l = c.loop-p in
    let answer : c.answer_point-answer.result ≡ answer_at q l.p = cc in
    record {
      same = search rules;
      few = omega (arith, byte_le_one _ c.from-inside.ensures);
      inside = inside_next q l.p l.invariant.inside answer c.from-inside.ensures;
      value = c.store.ensures.value ∙ filled_next q l.p _ l.invariant.value answer;
    }
