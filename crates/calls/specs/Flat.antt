-- The operators' calls from flat lists, as the definition's records.
use Rattle.std.specs.Prelude.{Bool, List, ℕ, Float}
use Rattle.definition.specs.Operators.{InterpolationCall, StrainCall, StressCall}
use Rattle.definition.specs.declared.Structural2dFormulation.{Structural2dFormulation}

abbrev pub interpolation_call : ℕ → List Float → List ℕ → List ℕ → List Float → InterpolationCall
interpolation_call family nodes elements indices references = record { mesh = record { family = family; nodes = nodes; elements = elements }; element_indices = indices; reference_points = references }

abbrev pub strain_call : InterpolationCall → Structural2dFormulation → StrainCall
strain_call base formulation = record { base = base; formulation = formulation }

abbrev pub stress_call : InterpolationCall → Structural2dFormulation → List ℕ → List Float → Bool → List Float → StressCall
stress_call base formulation ids table given pairs = record { base = base; formulation = formulation; material_ids = ids; material_table = table; pairs_given = given; pairs = pairs }
