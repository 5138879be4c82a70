-- What the calls write: a list from a place on, and the product of a matrix of sixteen numbers and one of four rows.
use Rattle.std.specs.Prelude.{List, ◌++◌, ℕ, ◌+◌, ◌*◌, get_or, take, Float}
use Rattle.std.specs.Float.{nan}
use Rattle.definition.specs.Lists.{each, over}
use Rattle.definition.specs.Query.{values}
use Rattle.definition.specs.Rows.{four_terms}

-- a lent list after a call that wrote the new values from a place on
unfoldable pub over_from : {A : Type 0} → ℕ → List A → List A → List A
over_from at new old = over (take at old ++ new) old

-- row i of a matrix of sixteen numbers, times column t of a matrix of four rows of n numbers
unfoldable pub entry_of : List Float → List Float → ℕ → ℕ → ℕ → Float
entry_of a b n i t = four_terms a i (get_or b t nan) (get_or b (n + t) nan) (get_or b (2 * n + t) nan) (get_or b (3 * n + t) nan)

-- their product, row after row
unfoldable pub times_of : List Float → List Float → ℕ → List Float
times_of a b n = each (λ i. values (entry_of a b n i) n) 4
