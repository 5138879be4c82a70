-- An exported call keeps its promise where the call under it keeps its own and the numbers are those of that call's answer. Assumes nothing.
use mathlib.Core.Path.{◌≡◌, ap, ◌∙◌}
use Rattle.numbers.specs.Exported.{Exported}

pub kept : {O N L : Type 0} (numbers : O → N) {got outcome : O} {left after : L} {answer : N} → got ≡ outcome → after ≡ left → answer ≡ numbers got → Exported numbers outcome left answer after
kept numbers a l e = record { answers = e ∙ ap numbers a; leaves = l }
