-- The first numbers of a list, copied over a lent array, are the values that the operator has one by one. Assumes nothing.
use mathlib.Core.Path.{◌≡◌}
use mathlib.Core.List.{List, ◌∷◌, [], ◌++◌}
use Prim.Native.Nat.{ℕ, ◌≤◌}
use lib.ListN.{length, get_or, take, drop}
use lib.Seq.{length-take-le}
use lib.Ieee.{Float, nan}
use Rattle.std.proofs.lemmas.List.{get_or-take}
use Rattle.definition.specs.Lists.{each, over}
use Rattle.definition.specs.Query.{values}
use Rattle.definition.proofs.Lists.{values_length, values_is}

first_values : (l : List Float) (n : ℕ) → n ≤ length l → take n l ≡ values (λ j. get_or l j nan) n
first_values l n h = values_is nan (length-take-le n l h) (λ i m. get_or-take n l i nan m)

pub first_written : (l shape out : List Float) {new : List Float} (m n : ℕ) → n ≡ m → shape ≡ l → n ≤ length shape → new ≡ take n shape → new ++ drop n out ≡ over (each (λ i. each (λ j. each (λ d. get_or l j nan ∷ []) 1) m) 1) out
unfolding each over
first_written l shape out m n size same fits e = rw (← size, ← same, e, first_values shape n fits, values_length (λ j. get_or shape j nan) n)
