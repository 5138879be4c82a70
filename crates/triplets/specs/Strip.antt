-- Triplets put into three lent lists from a place on. What has no place in all three is left out, so there is an answer for every place and every length.
use Rattle.std.specs.Prelude.{cond, ◌&&◌, List, ℕ, ◌+◌, ltb, length, set, fold, Float}
use Rattle.definition.specs.Operators.{TripletLists}
use Rattle.definition.specs.Rows.{Triplet}

-- three lent lists, and the place of the next triplet
pub record Strip : Type 0 where
  pub lists : TripletLists
  pub at : ℕ

abbrev pub strip : List ℕ → List ℕ → List Float → ℕ → Strip
strip rows columns values at = record { lists = record { rows = rows; columns = columns; values = values }; at = at }

-- the strip with one triplet more; where one of the lists has no such place, the strip as it was
unfoldable pub stored : Strip → Triplet → Strip
stored s t =
    let l = s.lists in
    cond (ltb s.at (length l.rows) && ltb s.at (length l.columns) && ltb s.at (length l.values))
    (strip (set l.rows s.at t.row) (set l.columns s.at t.column) (set l.values s.at t.value) (s.at + 1))
    s

-- the strip with triplets more, one after the other
unfoldable pub written : Strip → List Triplet → Strip
written s ts = fold stored s ts
