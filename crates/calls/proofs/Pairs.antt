-- "A yes/no beside the list says whether pairs are given; if not, the list is not read": the stress operator, with its questions, is then the same whatever the list is. Assumes nothing.
use mathlib.Core.Path.{◌≡◌, refl}
use mathlib.Core.Bool.{false}
use mathlib.Core.List.{List, []}
use Prim.Native.Nat.{ℕ}
use lib.Ieee.{Float}
use Rattle.definition.specs.Operators.{InterpolationCall, TripletLists, stress_questions, stress}
use Rattle.definition.specs.Rows.{oriented_material}
use Rattle.definition.specs.declared.Structural2dFormulation.{Structural2dFormulation}
use Rattle.calls.specs.Flat.{stress_call}

pub pairs_unread : (base : InterpolationCall) (f : Structural2dFormulation) (ids : List ℕ) (table pairs : List Float) (lent : TripletLists) → stress (stress_call base f ids table false pairs) lent ≡ stress (stress_call base f ids table false []) lent
unfolding stress stress_questions oriented_material
pairs_unread base f ids table pairs lent = refl
