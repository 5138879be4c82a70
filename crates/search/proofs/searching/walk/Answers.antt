-- `walk` meets its contract: where the loop is left, the steps that are left end where it stands. Assumes nothing.
use mathlib.Core.Path.{◌∙◌}
use Rattle.search.proofs.Ends.{stays, lasts, left_at, all_made, known_ends}
use Rattle.search.proofs.searching.walk.Goals as goal
use Rattle.search.proofs.searching.walk.Goals.{else-loop-made-test, then-loop-made-test+in-Some, then-loop-made-test+in_default+in-Stay, then-loop-made-test+in_default+in-Last}

pub returns-clause-at_value : goal.returns-clause-at_value
returns-clause-at_value g c =
    let l = c.loop-made in
    let step = g.S.Search.step c.args.search.now in
    elim c.loop-made-test.branch [
      | else-loop-made-test w ↦ w.at-is ∙ all_made step c.args.limit l.made l.at w.loop-made-test.false l.invariant.same_end
      | then-loop-made-test+in-Some w ↦ w.at-is ∙ left_at step c.args.limit l.made l.at w.loop-made-test.true (known_ends step l.at w.in-Some.ensures l.invariant.remembered) l.invariant.same_end
      | then-loop-made-test+in_default+in-Stay w ↦ w.at-is ∙ left_at step c.args.limit l.made l.at w.loop-made-test.true (stays step l.at (cc)) l.invariant.same_end
      | then-loop-made-test+in_default+in-Last w ↦ w.at-is ∙ left_at step c.args.limit l.made l.at w.loop-made-test.true (lasts step l.at w.in-Last.to (cc)) l.invariant.same_end
    ]
