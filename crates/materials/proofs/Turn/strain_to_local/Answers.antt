-- `materials::Turn::strain_to_local` meets its contract: each number is written out as the definition writes it, and -2 is 2 with its sign turned. Assumes nothing.
use mathlib.Core.Path.{refl}
use lib.Ieee.{of_bits, neg}
use Rattle.definition.specs.Rows.{strain_to_local}
use Rattle.materials.proofs.Turn.strain_to_local.Goals as goal

pub returns : goal.returns
unfolding of_bits neg strain_to_local
returns c = refl
