-- The triplets of the points met.
use Rattle.std.specs.Prelude.{List, ℕ, Float}
use Rattle.definition.specs.Elements.{nodes_of}
use Rattle.definition.specs.Lists.{each}
use Rattle.definition.specs.Mesh.{node_of}
use Rattle.definition.specs.Operators.{InterpolationCall, element_at}
use Rattle.definition.specs.Rows.{Triplet, point_triplets}

-- the triplets of the first n points, with k rows a point and c columns a node
abbrev pub triplets_till : InterpolationCall → ℕ → ℕ → (ℕ → ℕ → ℕ → ℕ → Float) → ℕ → List Triplet
triplets_till q k c value n = each (λ p. point_triplets k c (nodes_of q.mesh.family) (node_of q.mesh (element_at q p)) (value p) p) n
