-- A material as an array: what the calls hand back for a list of any length.
use Rattle.std.specs.Prelude.{List, get_or, Float}
use Rattle.std.specs.Float.{nan}
use Rattle.definition.specs.Query.{values}

-- the first sixteen numbers of a list, with NaN for those that it does not have
unfoldable pub sixteen : List Float → List Float
sixteen l = values (λ i. get_or l i nan) 16
