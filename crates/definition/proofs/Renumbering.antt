-- Demand 3, whole: a renumbered query is accepted, keeps each point's three distances and names the first of the nearest in the new order; and where each point has just one nearest element
-- each operator is refused both times or accepted both times, with the same values at renamed rows and columns. It holds since every distance is that of the same coordinates, and since the first
-- minimum of the same distances in another order is the same distance. Assumes nothing.
pub mod Distance
pub mod Weight
pub mod FirstMinimum
pub mod Moves
pub mod Triplets
pub mod Mesh
pub mod Query
pub mod Operators
pub mod Calls
pub mod Computed
use Rattle.definition.specs.Renumbering.{Demand3}
use Rattle.definition.proofs.Renumbering.Query.{query_kept}
use Rattle.definition.proofs.Renumbering.Calls.{interpolation_kept, strain_kept, stress_kept}

pub demand3 : Demand3
demand3 = record { query_kept = query_kept; interpolation_kept = interpolation_kept; strain_kept = strain_kept; stress_kept = stress_kept }
