-- `elements::faces::face_reference` meets its contract: at 0, 1 and 2 the definition's tests compute, and past them each says no. Assumes nothing.
use lib.Ieee.{of_bits, neg}
use Rattle.std.proofs.Common.{◌≢◌, arith}
use borrow.Author.Tests.{ne_eqb}
use Rattle.definition.specs.Elements.{face_reference_of}
use Rattle.elements.proofs.faces.face_reference.Goals as goal

pub returns-in-0 : goal.returns-in-0
unfolding face_reference_of of_bits neg
returns-in-0 c = rw c.in-0.is

pub returns-in-1 : goal.returns-in-1
unfolding face_reference_of of_bits neg
returns-in-1 c = rw c.in-1.is

pub returns-in-2 : goal.returns-in-2
unfolding face_reference_of of_bits neg
returns-in-2 c = rw c.in-2.is

pub returns-in_default : goal.returns-in_default
unfolding face_reference_of of_bits neg
returns-in_default c =
    let n0 : c.args.local_face ≢ 0 = omega arith in
    let n1 : c.args.local_face ≢ 1 = omega arith in
    let n2 : c.args.local_face ≢ 2 = omega arith in
    rw (ne_eqb _ _ n0, ne_eqb _ _ n1, ne_eqb _ _ n2)
