-- What storing the answers of a query's points makes of the lent lists, and which points are inside.
use Rattle.std.specs.Prelude.{Bool, ℕ, zero, suc}
use Rattle.std.specs.Float.Ieee.{eq}
use Rattle.definition.specs.Binary64.{plus0}
use Rattle.definition.specs.Query.{QueryCall, QueryLists, answer_at}
use Rattle.answers.specs.Stored.{stored}

-- the answers of the first n points, one stored after the other
unfoldable pub filled : QueryCall → ℕ → QueryLists → QueryLists
filled q zero l = l
filled q (suc n) l = stored (answer_at q n) n (filled q n l)

abbrev pub is_inside : QueryCall → ℕ → Bool
is_inside q p = eq (answer_at q p).element.distance plus0
