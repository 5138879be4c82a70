-- Triplets put one part after the other on a strip. Assumes nothing.
use mathlib.Core.Path.{refl, ◌∙◌}
use mathlib.Core.List.{List, []}
use Prim.Native.Nat.{ℕ, ◌+◌}
use Rattle.definition.specs.Lists.{each}
use Rattle.definition.specs.Rows.{Triplet}
use Rattle.triplets.specs.declared.lent.Strip.{Strip}
use Rattle.triplets.specs.Lent.{Puts, held}
use Rattle.triplets.specs.Strip.{written}
use Rattle.triplets.proofs.Strips.{written_each}

-- none are put
pub puts_none : (s : Strip) → Puts s s []
unfolding written
puts_none s = record { lent = refl; same = record { rows = refl; columns = refl; values = refl }; value = refl }

-- one part more of triplets in parts
pub puts_each : (g : ℕ → List Triplet) (n : ℕ) {a b c : Strip} → Puts a b (each g n) → Puts b c (g n) → Puts a c (each g (n + 1))
puts_each g n {a} before more =
    record {
      lent = more.lent ∙ before.lent;
      same = record { rows = more.same.rows ∙ before.same.rows; columns = more.same.columns ∙ before.same.columns; values = more.same.values ∙ before.same.values };
      value = written_each (held a) g n before.value more.value;
    }
