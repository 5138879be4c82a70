-- What an exported operator promises: `OperatorPromise`, with numbers in place of the `Result`.
use Rattle.definition.specs.Operators.{InterpolationCall, StrainCall, StressCall, Operator, TripletLists, operated, triplet_lists, interpolation, strain, stress}
use Rattle.numbers.specs.Exported.{Exported}
use Rattle.numbers.specs.Numbers.{operator_numbers}
use Rattle.numbers.specs.declared.OperatorNumbers.{OperatorNumbers}

abbrev OperatorExported : Operator → TripletLists → OperatorNumbers → TripletLists → Type 0
OperatorExported o before answer after = Exported operator_numbers (operated o) (triplet_lists o (operated o) before) answer after

-- `InterpolationPromise`, `StrainPromise`, `StressPromise`
abbrev pub InterpolationExported : InterpolationCall → TripletLists → OperatorNumbers → TripletLists → Type 0
InterpolationExported c before answer after = OperatorExported (interpolation c before) before answer after

abbrev pub StrainExported : StrainCall → TripletLists → OperatorNumbers → TripletLists → Type 0
StrainExported c before answer after = OperatorExported (strain c before) before answer after

abbrev pub StressExported : StressCall → TripletLists → OperatorNumbers → TripletLists → Type 0
StressExported c before answer after = OperatorExported (stress c before) before answer after
