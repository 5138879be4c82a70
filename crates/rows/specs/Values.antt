-- The strain values of a point over an array, and by the three lists that they are made of.
use Rattle.std.specs.Prelude.{List, ℕ, get_or, Float}
use Rattle.std.specs.Float.{nan}
use Rattle.definition.specs.Lists.{over}
use Rattle.definition.specs.Binary64.{plus0}
use Rattle.definition.specs.Rows.{of_two, of_four}
use Rattle.lists.specs.Values.{values_of}

-- the values of a point, two columns a node, written over an array
abbrev pub listed : (ℕ → ℕ → ℕ → Float) → ℕ → List Float → List Float
listed value nodes old = over (values_of 4 2 nodes value) old

-- the strain entry where the lists hold, for each node, the gradient by x, the gradient by y and the tt value
unfoldable pub entry_by : List Float → List Float → List Float → ℕ → ℕ → ℕ → Float
entry_by x y t i j d =
    of_four i
    (of_two d (get_or x j nan) plus0)
    (of_two d plus0 (get_or y j nan))
    (of_two d (get_or t j nan) plus0)
    (of_two d (get_or y j nan) (get_or x j nan))
