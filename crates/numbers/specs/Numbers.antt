-- A C caller's numbers: what they mean, and which numbers an outcome is. "A yes/no beside the list says whether pairs are given".
use Rattle.std.specs.Prelude.{Bool, not, cond, ℕ, eqb, Float}
use Rattle.definition.specs.Questions.{Outcome, accepted, refused}
use Rattle.definition.specs.declared.QueryCounts.{QueryCounts}
use Rattle.definition.specs.declared.OperatorCounts.{OperatorCounts}
use Rattle.definition.specs.declared.Structural2dFormulation.{Structural2dFormulation}
use Rattle.definition.specs.declared.Structural2dFormulation.TheVariants.{Axisymmetric, PlaneStrain}
use Rattle.numbers.specs.declared.QueryNumbers.{QueryNumbers}
use Rattle.numbers.specs.declared.OperatorNumbers.{OperatorNumbers}
use Rattle.numbers.specs.declared.JobNumbers.{JobNumbers}

-- "The formulation is axisymmetric, or plane strain with its thickness": 0, or any other number
abbrev pub formulation_of : ℕ → Float → Structural2dFormulation
formulation_of number thickness = cond (eqb number 0) Axisymmetric (PlaneStrain thickness)

-- 0 is no, and any other number yes
abbrev pub yes_of : ℕ → Bool
yes_of number = not (eqb number 0)

-- an acceptance is question 0 at place 0 with its counts; a refusal is its question and its place, and every count is 0

abbrev pub query_numbers : Outcome QueryCounts → QueryNumbers
query_numbers (accepted c) = record { question = 0; place = 0; points = c.points; repeated = c.repeated; inside = c.inside }
query_numbers (refused number place) = record { question = number; place = place; points = 0; repeated = 0; inside = 0 }

abbrev pub operator_numbers : Outcome OperatorCounts → OperatorNumbers
operator_numbers (accepted c) = record { question = 0; place = 0; rows = c.rows; columns = c.columns; triplets = c.triplets }
operator_numbers (refused number place) = record { question = number; place = place; rows = 0; columns = 0; triplets = 0 }

abbrev pub job_numbers : Outcome ℕ → JobNumbers
job_numbers (accepted bytes) = record { question = 0; place = 0; bytes = bytes }
job_numbers (refused number place) = record { question = number; place = place; bytes = 0 }
