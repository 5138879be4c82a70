-- What the code remembers of the steps that it made.
use Rattle.std.specs.Prelude.{◌≡◌, ℕ, suc, IfSome}
use Rattle.std.specs.declared.option.Option.{Option}
use Rattle.definition.specs.Search.{walked}
use Rattle.definition.specs.declared.Step.{Step}
use Rattle.search.specs.declared.searching.LastStep.{LastStep}

-- steps from a end at b, however many may be made
abbrev pub Ends : {A : Type 0} → (A → Step A) → A → A → Type 0
Ends step a b = (k : ℕ) → walked step (suc k) a ≡ b

-- what is remembered of a step, if anything is
abbrev pub Remembered : {A : Type 0} → (A → Step A) → Option (LastStep A) → Type 0
Remembered step known = IfSome known (λ last. Ends step last.from last.to)
