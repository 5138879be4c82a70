-- A node with its point and its squared distance from the target.
use Rattle.std.specs.Prelude.{ℕ}
use Rattle.definition.specs.Choice.{node_square}
use Rattle.definition.specs.Mesh.{Mesh, pair_at}
use Rattle.definition.specs.declared.Best.{Best}
use Rattle.definition.specs.declared.Point.{Point}

abbrev pub node_place : Mesh → Point → ℕ → Best ℕ
node_place m t i = record { at = i; point = pair_at m.nodes i; square = node_square m 0 t i }
