-- `materials::Turn::stress_to_global` meets its contract: each number is written out as the definition writes it, and -2 is 2 with its sign turned. Assumes nothing.
use mathlib.Core.Path.{refl}
use lib.Ieee.{of_bits, neg}
use Rattle.definition.specs.Rows.{stress_to_global}
use Rattle.materials.proofs.Turn.stress_to_global.Goals as goal

pub returns : goal.returns
unfolding of_bits neg stress_to_global
returns c = refl
