-- The seeds of the element search in their order, a step from the last of them, and a short step that is stored. Every row is computed.
-- Assumes nothing.
use mathlib.Core.Path.{◌≡◌, refl}
use mathlib.Core.Bool.{cond, ◌&&◌}
use mathlib.Core.List.{[], ◌∷◌}
use Prim.Native.Nat.{ℕ}
use lib.Dec.{ltb, eqb}
use lib.ListN.{replicate}
use lib.Ieee.{eq, le}
use Rattle.definition.specs.Lists.{each}
use Rattle.definition.specs.Binary64.{◌⊕◌, ◌⊖◌, plus0, one, two, minus_one}
use Rattle.definition.specs.declared.Best.{Best}
use Rattle.definition.specs.declared.Step.TheVariants.{Stay, Last}
use Rattle.definition.specs.Search.{best_of, reference, ended_element, element_seeds, element_best}
use Rattle.definition.specs.declared.Point.{Point}
use Rattle.definition.specs.declared.Reference.{Reference}
use Rattle.definition.proofs.Computing.{searching}
use Rattle.definition.proofs.Written.{two_to_minus, at}

-- ---- "First best: (0,0). Then nine seeds in the Rust's order", each replacing only with a smaller squared distance

-- which of the nine seeds a reference is
abbrev seed_number : Reference → ℕ
seed_number r =
    cond (eq r.xi plus0) (cond (eq r.eta plus0) 0 (cond (eq r.eta minus_one) 5 7))
    (cond (eq r.xi one) (cond (eq r.eta minus_one) 2 (cond (eq r.eta one) 3 6))
    (cond (eq r.eta minus_one) 1 (cond (eq r.eta one) 4 8)))

-- a map under which the seeds from i on lie at the target (0, 0), and those before beside it: so the search names seed i, the first of those that are nearest
abbrev from_seed : ℕ → Reference → Point
from_seed i r = at (cond (ltb (seed_number r) i) one plus0) plus0

seeds_in_order :
    each (λ i. (best_of (from_seed i) (λ r. Stay) (at plus0 plus0) 0 (reference plus0 plus0) element_seeds 9).at ∷ []) 9
    ≡ reference plus0 plus0
    ∷ reference minus_one minus_one ∷ reference one minus_one ∷ reference one one ∷ reference minus_one one
    ∷ reference plus0 minus_one ∷ reference one plus0 ∷ reference plus0 one ∷ reference minus_one plus0
    ∷ []
unfolding searching
seeds_in_order = refl

-- a step that carries each seed by 4 to the right, and the best where only the place so reached from seed i lies at the target
abbrev pub carried : Reference → Reference
carried r = reference (r.xi ⊕ (two ⊕ two)) r.eta

abbrev pub carried_from : ℕ → Best Reference
carried_from i =
    best_of (λ r. at (cond (le two r.xi && eqb (seed_number (reference (r.xi ⊖ (two ⊕ two)) r.eta)) i) plus0 one) plus0)
    (λ r. Last (carried r)) (at plus0 plus0) 1 (reference plus0 plus0) element_seeds 9

last_seed_steps : (carried_from 8).at ≡ carried (reference minus_one plus0)
unfolding searching
last_seed_steps = refl

-- an element of family 4 whose point at the last seed is the target
last_seed_is_tried :
    (element_best (record { count = 4; xy = plus0 ∷ minus_one ∷ one ∷ minus_one ∷ one ∷ one ∷ plus0 ∷ one ∷ replicate 10 plus0 }) (at plus0 plus0) 0).at
    ≡ reference minus_one plus0
unfolding searching
last_seed_is_tried = refl

-- ---- ".. or after a step whose squared length is at most 2^-104": the step is made

short_step_is_made : ended_element (reference plus0 plus0) (reference (two_to_minus 52) plus0) ≡ Last (reference (two_to_minus 52) plus0)
unfolding searching
short_step_is_made = refl
