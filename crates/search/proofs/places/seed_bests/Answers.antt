-- `seed_bests` meets its contract: without a step the seeds are the ends, and the ends and middles of the faces are references of the element. Assumes nothing.
use mathlib.Core.Path.{refl, ◌∙◌}
use lib.Ieee.{of_bits, neg}
use Rattle.definition.specs.Binary64.{plus0, one, minus_one}
use Rattle.definition.specs.Elements.{face_reference_of}
use Rattle.definition.specs.Search.{reference, element_seeds, face_point}
use Rattle.search.proofs.Seeds.{element_at_seeds, face_at_seeds}
use Rattle.search.proofs.places.seed_bests.Goals as goal

pub returns-clause-element : goal.returns-clause-element
unfolding of_bits neg element_seeds
returns-clause-element c =
    (rw (c.seed_places-places.ensures) at c.nearest.ensures) ∙ element_at_seeds c.args.e.now c.args.target

pub returns-clause-faces : goal.returns-clause-faces
unfolding of_bits neg element_seeds face_point face_reference_of
returns-clause-faces c =
    let at_seeds = face_at_seeds c.args.e.now c.args.target in
    rw (
      c.nearest_on_face.ensures,
      c.nearest_on_face-2.ensures,
      c.nearest_on_face-3.ensures,
      c.nearest_on_face-4.ensures,
      c.seed_places-places.ensures,
      c.place-top.ensures,
      c.place-left.ensures,
      at_seeds 0 (reference plus0 minus_one) (reference minus_one minus_one) (reference one minus_one) refl refl refl,
      at_seeds 1 (reference one plus0) (reference one minus_one) (reference one one) refl refl refl,
      at_seeds 2 (reference (neg plus0) one) (reference one one) (reference minus_one one) refl refl refl,
      at_seeds 3 (reference minus_one (neg plus0)) (reference minus_one one) (reference minus_one minus_one) refl refl refl,
    )
