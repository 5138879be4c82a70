-- `point_questions::walk::each_point` meets its contract: whatever questions the calls of the closure put, those of the points met all hold.
use mathlib.Core.Path.{◌≡◌}
use mathlib.Core.Bool.{true}
use mathlib.Core.List.{List}
use Prim.Native.Nat.{ℕ, ◌<◌}
use Rattle.definition.specs.Lists.{every}
use Rattle.definition.specs.Questions.{Question, asked, outcome}
use Rattle.definition.proofs.Passing.{passes}
use Rattle.point_questions.proofs.walk.each_point.Given as goal

abbrev pub invariant-loop-p : goal.invariant-loop-p
invariant-loop-p g l =
    (questions : ℕ → List Question) → ((p : ℕ) (r : _) → p < l.count → goal.A-post g l.ask_at p r → outcome r ≡ asked (questions p) tt) →
    every (λ i. passes (questions i)) l.p ≡ true
