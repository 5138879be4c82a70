-- `elements::quad9::q2_lagrange_grad_1d` meets its contract: each slope is written out as the definition writes it, and -2.0 is 2.0 with its sign turned.
use mathlib.Core.Path.{refl}
use lib.Ieee.{of_bits, neg}
use Rattle.definition.specs.Elements.{slope_low, slope_mid, slope_high}
use Rattle.elements.proofs.quad9.q2_lagrange_grad_1d.Goals as goal

pub returns : goal.returns
unfolding of_bits neg slope_low slope_mid slope_high
returns c = (refl, refl, refl)
