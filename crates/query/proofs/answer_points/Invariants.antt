-- `answer_points` meets its contract: the lists are filled with the answers of the points met, and `inside` counts those inside. Assumes nothing.
use Rattle.std.proofs.Common.{◌≡◌, ◌≤◌}
use Rattle.definition.specs.Lists.{count_of}
use Rattle.answers.specs.Lent.{query_lists, SameLists}
use Rattle.query.specs.Filled.{is_inside, filled}
use Rattle.query.proofs.answer_points.Given as goal

abbrev pub invariant-loop-p : goal.invariant-loop-p
invariant-loop-p l = record {
  same : SameLists l.initial.lent l.lent;
  few : l.inside ≤ l.p;
  inside : l.inside ≡ count_of (is_inside l.call) l.p;
  value : query_lists l.lent ≡ filled l.call l.p (query_lists l.initial.lent);
}
