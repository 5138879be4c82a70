-- The materials that a call is given, as the definition's stress call has them.
use Rattle.std.specs.Prelude.{Bool, true, false, List, [], ℕ, Option, Some, None, Float}
use Rattle.std.specs.Borrow.{Bor}

-- the material number of each element, sixteen numbers a material, whether pairs (c, s) are given, and the pairs
pub record Given : Type 0 where
  pub ids : List ℕ
  pub table : List Float
  pub pairs_given : Bool
  pub pairs : List Float

abbrev pub is_given : Option (Bor (List Float)) → Bool
is_given (Some pairs) = true
is_given None = false

-- where none are given the list is not read
abbrev pub given_pairs : Option (Bor (List Float)) → List Float
given_pairs (Some pairs) = pairs.now
given_pairs None = []
