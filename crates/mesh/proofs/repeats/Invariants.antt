-- `repeats` meets its contract. The loop's invariant: two numbers are equal in what is left from i on exactly where two are in the row. Assumes nothing.
use mathlib.Core.Path.{◌≡◌}
use lib.ListN.{drop}
use Rattle.mesh.proofs.Scanning.{repeats}
use Rattle.mesh.proofs.repeats.Given as goal

abbrev pub invariant-loop-i : goal.invariant-loop-i
invariant-loop-i l = repeats (drop l.i l.row) ≡ repeats l.row
