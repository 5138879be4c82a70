-- The questions of one point in the definition's words, of a call.
use Rattle.std.specs.Prelude.{List, [], ◌∷◌, ℕ}
use Rattle.definition.specs.Questions.{Question, element_known, material_known, not_inverted, off_axis}
use Rattle.definition.specs.Operators.{InterpolationCall, StrainCall, StressCall, element_at, reference_at, gathered_at, material_at}
use Rattle.definition.specs.declared.Structural2dFormulation.{Structural2dFormulation}

-- 14
abbrev pub interpolation_asked : InterpolationCall → ℕ → List Question
interpolation_asked c p = element_known c.mesh p (element_at c p) ∷ []

-- 16 and 17
abbrev pub place_asked : InterpolationCall → Structural2dFormulation → ℕ → List Question
place_asked c f p = not_inverted (gathered_at c p) p (reference_at c p) ∷ off_axis f (gathered_at c p) p (reference_at c p)

-- 14, 16 and 17
abbrev pub strain_asked : StrainCall → ℕ → List Question
strain_asked c p = element_known c.base.mesh p (element_at c.base p) ∷ place_asked c.base c.formulation p

-- 14, 15, 16 and 17
abbrev pub stress_asked : StressCall → ℕ → List Question
stress_asked c p = element_known c.base.mesh p (element_at c.base p) ∷ material_known c.material_table p (material_at c p) ∷ place_asked c.base c.formulation p
