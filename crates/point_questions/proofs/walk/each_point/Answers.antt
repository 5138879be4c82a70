-- `point_questions::walk::each_point` meets its contract: a refusal is that of the first point whose questions do not all hold. Assumes nothing.
use mathlib.Core.Path.{◌≡◌, refl, sym, ap, ◌∙◌}
use native.Mathlib.Omega.{arith}
use Rattle.std.proofs.lemmas.Result.{err_from_is_err_and}
use Rattle.definition.specs.Lists.{every}
use Rattle.definition.specs.Questions.{outcome}
use Rattle.definition.proofs.Lists.{every_next}
use Rattle.definition.proofs.Passing.{passes, asked_accepted, all_asked, first_refused}
use Rattle.point_questions.proofs.walk.each_point.Goals as goal

pub loop-p-init : goal.loop-p-init
unfolding every
loop-p-init g c = λ questions h. refl

pub returns-in_err-ask_at : goal.returns-in_err-ask_at
returns-in_err-ask_at g c = λ questions h.
    let p = c.loop-p.p in
    let here = h p c.ask_at.result c.loop-p-test.true c.ask_at.ensures in
    let returned = err_from_is_err_and c.from_residual.result c.from_residual.ensures.1 in
    rw (returned.1, returned.2) (sym (first_refused questions c.args.count p tt (c.loop-p.invariant questions h) c.loop-p-test.true (sym here ∙ ap outcome c.in_err-ask_at.was)))

pub loop-p-preserved : goal.loop-p-preserved
loop-p-preserved g c = λ questions h.
    let p = c.loop-p.p in
    let here = h p c.ask_at.result c.loop-p-test.true c.ask_at.ensures in
    every_next (λ i. passes (questions i)) p (c.loop-p.invariant questions h) (asked_accepted (questions p) (sym here ∙ ap outcome c.in_ok-ask_at.was)).0

pub returns : goal.returns
returns g c = λ questions h.
    let done : c.loop-p.p ≡ c.args.count = omega arith in
    sym (all_asked questions c.args.count tt (rw done at (c.loop-p.invariant questions h)))
