-- A count of the numbers that pass a test, with one number more; and the elements that repeat a node. Assumes nothing.
use mathlib.Core.Path.{◌≡◌, ap}
use mathlib.Core.Bool.{Bool, cond}
use Prim.Native.Nat.{ℕ, ◌+◌}
use native.Mathlib.Numerals.{add-one}
use lib.Dec.{ltb}
use Rattle.definition.specs.Elements.{nodes_of}
use Rattle.definition.specs.Lists.{count_of}
use Rattle.definition.specs.Mesh.{Mesh, element_nodes, distinct}

pub count_next : (p : ℕ → Bool) (n : ℕ) → count_of p (n + 1) ≡ count_of p n + cond (p n) 1 0
unfolding count_of
count_next p n = ap (count_of p) (add-one n)

-- element e has fewer distinct nodes than its family has
abbrev pub few : Mesh → ℕ → Bool
few m e = ltb (distinct (element_nodes m e)) (nodes_of m.family)
