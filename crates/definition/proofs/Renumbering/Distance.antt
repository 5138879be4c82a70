-- What every distance is: a value of binary64 whose sign is clear. A square's sign is clear, and adding and rounding keep it so, so a squared distance is one; then so is its root, and what a search comes to.
-- The root is a NaN only where the distance is. Assumes nothing.
use mathlib.Core.Path.{◌≡◌, sym, ◌∙◌}
use mathlib.Core.Bool.{true, false, cond}
use mathlib.Core.List.{List}
use Prim.Native.Nat.{ℕ, zero, suc, ◌+◌, ◌*◌, ◌^◌}
use lib.Dec.{T, ltb}
use lib.ListN.{get_or}
use lib.Ieee.{Float, nan, inf, fin, binary64, up, down, odd, units, round, add, mul, lt, is_nan, fits}
use lib.Ieee.Fits.{round_is, add-fits}
use Rattle.definition.specs.Binary64.{◌⊕◌, ◌⊖◌, ◌⊗◌, squared_distance}
use Rattle.definition.specs.Root.{root_of}
use Rattle.definition.specs.declared.Step.{Step}
use Rattle.definition.specs.Search.{walked, placed, nearer, best_of, element_best, closest_reference_point, face_best, closest_face_point}
use Rattle.definition.specs.declared.Point.{Point}
use Rattle.definition.specs.declared.GatheredElement.{GatheredElement}
use Rattle.definition.proofs.Root.{clear, root_fits, root_clear, root_nan}

pub record IsDistance (x : Float) : Type 0 where
  pub fitting : T (fits binary64 x)
  pub sign_clear : T (clear x)

-- and no NaN
pub record IsNumber (x : Float) : Type 0 where
  pub is_distance : IsDistance x
  pub not_nan : is_nan x ≡ false

-- ---- a squared distance
odd_clear : (d q k l : ℕ) → T (clear (odd d false q k l))
unfolding odd
odd_clear d zero k l = tt
odd_clear d (suc q) k l = tt

units_clear : (q k : ℕ) → T (clear (units binary64 false q k))
unfolding units
units_clear q k = elim (ltb (q * 2 ^ k) (2 ^ 2098)) as (λ b. T (clear (cond b (odd 54 false q k 1074) (inf false)))) [ true ↦ odd_clear 54 q k 1074 | false ↦ tt ]

round_clear : (a b : ℕ) → T (clear (round binary64 false a b))
round_clear a b = rw round_is (units_clear _ _)

square_clear : (x : Float) → T (clear (x ⊗ x))
unfolding mul
square_clear nan = tt
square_clear (inf true) = tt
square_clear (inf false) = tt
square_clear (fin true m e) = round_clear (m * up e * (m * up e)) (down e * down e)
square_clear (fin false m e) = round_clear (m * up e * (m * up e)) (down e * down e)

sum_clear : (x y : Float) → T (clear x) → T (clear y) → T (clear (x ⊕ y))
unfolding add
sum_clear nan y p q = tt
sum_clear (inf true) y p q = absurd p
sum_clear (inf false) nan p q = tt
sum_clear (inf false) (inf true) p q = absurd q
sum_clear (inf false) (inf false) p q = tt
sum_clear (inf false) (fin t n d) p q = tt
sum_clear (fin true m e) y p q = absurd p
sum_clear (fin false m e) nan p q = tt
sum_clear (fin false m e) (inf t) p q = q
sum_clear (fin false m e) (fin true n d) p q = absurd q
sum_clear (fin false m e) (fin false n d) p q = round_clear (m * up e * down d + n * up d * down e) (down e * down d)

pub square_is_distance : (ax ay bx by : Float) → IsDistance (squared_distance ax ay bx by)
unfolding squared_distance
square_is_distance ax ay bx by =
    let dx = ax ⊖ bx in
    let dy = ay ⊖ by in
    record { fitting = add-fits binary64 (dx ⊗ dx) (dy ⊗ dy); sign_clear = sum_clear (dx ⊗ dx) (dy ⊗ dy) (square_clear dx) (square_clear dy) }

-- ---- its root
pub root_is_distance : {x : Float} → IsDistance x → IsDistance (root_of x)
root_is_distance {x} p = record { fitting = root_fits x p.fitting; sign_clear = root_clear x p.fitting p.sign_clear }

-- a root that is no NaN comes from a number
pub root_number : {x : Float} → IsDistance x → is_nan (root_of x) ≡ false → IsNumber x
root_number {x} p h = record { is_distance = p; not_nan = sym (root_nan x p.fitting p.sign_clear) ∙ h }

-- ---- what a search comes to
module _ {A : Type 0} (point_of : A → Point) (step : A → Step A) (target : Point) (limit : ℕ) (start : A) (seeds : List A) where
  pub best_is_distance : (j : ℕ) → IsDistance (best_of point_of step target limit start seeds j).square
  unfolding placed nearer best_of
  best_is_distance zero = square_is_distance _ _ _ _
  best_is_distance (suc j) =
      let best = best_of point_of step target limit start seeds j in
      let new = placed point_of target (walked step limit (get_or seeds j start)) in
      elim (lt new.square best.square) as (λ b. IsDistance (cond b new best).square) [ true ↦ square_is_distance _ _ _ _ | false ↦ best_is_distance j ]

pub element_distance_is : (e : GatheredElement) (i : ℕ) (t : Point) (limit : ℕ) → IsDistance (closest_reference_point e i t limit).distance
unfolding element_best closest_reference_point
element_distance_is e i t limit = root_is_distance (best_is_distance _ _ t limit _ _ 9)

pub face_distance_is : (e : GatheredElement) (i f : ℕ) (t : Point) (limit : ℕ) → IsDistance (closest_face_point e i f t limit).distance
unfolding face_best closest_face_point
face_distance_is e i f t limit = root_is_distance (best_is_distance _ _ t limit _ _ 3)
