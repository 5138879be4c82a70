-- The three lent lists as the code holds them, in the definition's words, and what a call that puts triplets into them comes to.
use Rattle.std.specs.Prelude.{◌≡◌, List}
use Rattle.definition.specs.Operators.{TripletLists as Lists}
use Rattle.definition.specs.Rows.{Triplet}
use Rattle.triplets.specs.declared.lent.Strip.{Strip as LentStrip}
use Rattle.triplets.specs.declared.lent.TripletLists.{TripletLists}
use Rattle.triplets.specs.Strip.{Strip, written}

abbrev pub triplet_lists : TripletLists → Lists
triplet_lists l = record { rows = l.rows.now; columns = l.columns.now; values = l.values.now }

-- the strip as the code holds it
abbrev pub held : LentStrip → Strip
held s = record { lists = triplet_lists s.lists.now; at = s.at }

-- the lists are the same ones after a call, whatever they hold
pub record SameLists (old new : TripletLists) : Type 0 where
  pub rows : new.rows.ghost_name ≡ old.rows.ghost_name
  pub columns : new.columns.ghost_name ≡ old.columns.ghost_name
  pub values : new.values.ghost_name ≡ old.values.ghost_name

-- triplets more were put on a strip; what it was lent is the same, and so is each of the lists in it
pub record Puts (old new : LentStrip) (ts : List Triplet) : Type 0 where
  pub lent : new.lists.ghost_name ≡ old.lists.ghost_name
  pub same : SameLists old.lists.now new.lists.now
  pub value : held new ≡ written (held old) ts
