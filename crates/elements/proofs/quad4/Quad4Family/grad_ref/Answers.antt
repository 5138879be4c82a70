-- `elements::quad4::Quad4::grad_ref` meets its contract: each number is written out as the definition writes it, and -0.25 is 0.25 with its sign turned.
use mathlib.Core.Path.{refl}
use lib.Ieee.{of_bits, neg}
use Rattle.definition.specs.Elements.{grad_ref_of, grad_ref4}
use Rattle.elements.proofs.quad4.Quad4Family.grad_ref.Goals as goal

pub returns : goal.returns
unfolding of_bits neg grad_ref_of grad_ref4
returns c = refl
