-- What an exported call promises: its answer is what the call comes to, in numbers, and its lent lists are left as the definition leaves them.
use Rattle.std.specs.Prelude.{◌≡◌}

pub record Exported {O N L : Type 0} (numbers : O → N) (outcome : O) (left : L) (answer : N) (after : L) : Type 0 where
  pub answers : answer ≡ numbers outcome
  pub leaves : after ≡ left
