-- The coordinates of an element are written pair by pair. Assumes nothing.
use mathlib.Core.Path.{◌≡◌, sym}
use mathlib.Core.List.{List, [], ◌∷◌}
use Prim.Native.Nat.{ℕ, ◌+◌, ◌*◌, ◌<◌}
use lib.ListN.{length, get_or, set}
use lib.Ieee.{Float}
use Rattle.definition.specs.Lists.{each, over}
use Rattle.definition.specs.Mapping.{first, second}
use Rattle.definition.specs.Mesh.{Mesh, pair_at, element_nodes, node_of}
use Rattle.definition.specs.declared.Point.{Point}
use Rattle.definition.proofs.Lists.{over_pair}

-- the coordinates at local place j of an element
abbrev pub coords_of : Mesh → ℕ → ℕ → List Float
coords_of m e j = first m.nodes (node_of m e j) ∷ second m.nodes (node_of m e j) ∷ []

pub gather_next : (m : Mesh) (e j : ℕ) {row : List ℕ} {node : ℕ} {p : Point} {xy : List Float} (old : List Float) → 2 * j + 1 < length old → xy ≡ over (each (coords_of m e) j) old →
    row ≡ element_nodes m e → node ≡ get_or row j 0 → p ≡ pair_at m.nodes node → set (set xy (2 * j) p.x) (2 * j + 1) p.y ≡ over (each (coords_of m e) (j + 1)) old
gather_next m e j old l h r n q = rw (h, q, n, r) (sym (over_pair (λ i. first m.nodes (node_of m e i)) (λ i. second m.nodes (node_of m e i)) j old l))
