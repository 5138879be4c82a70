-- `put_values` meets its contract: material times strain values is the definition's stress, value by value. Assumes nothing.
use mathlib.Core.Path.{◌∙◌, ap}
use Rattle.definition.specs.Elements.{nodes_of}
use Rattle.definition.specs.Lists.{over}
use Rattle.definition.specs.Operators.{basis_of, oriented_at}
use Rattle.stress.proofs.StressValues.{stress_of_strain}
use Rattle.stress.proofs.StressOperator42.put_values.Goals as goal

pub returns : goal.returns
returns c =
    let q = c.args.self.now.0.now in
    rw (c.oriented-oriented.ensures, c.put_strain_at.ensures, c.materials.ensures, c.material_at-number.ensures, c.element_at-element_index.ensures, c.reference_at.ensures, c.formulation.ensures, c.strain.ensures, c.family.ensures, c.mesh-mesh.ensures, c.base-base.ensures) at c.put_stress_values.ensures
    ∙ ap (λ l. over l c.args.out.now) (stress_of_strain (oriented_at q c.args.p) q.formulation (basis_of q.base c.args.p) (nodes_of q.base.mesh.family) _)
