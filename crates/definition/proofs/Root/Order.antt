-- The order of values: of two plain ones it is that of their units, which are the values exactly, and zero is below what is above it and no plain value is below zero. Assumes nothing.
use mathlib.Core.Path.{◌≡◌, refl, sym}
use mathlib.Core.Logic.{◌↔◌}
use mathlib.Core.Bool.{Bool, true, false}
use Prim.Native.Nat.{ℕ, zero, suc, ◌*◌, ◌^◌, ◌<◌}
use native.Mathlib.Nat.{lt_of_not-le, not-le_of_lt, mul-le-mul_right, le_of_mul-le-mul_right, mul-pos, zero-lt-suc}
use native.Mathlib.Omega.{arith}
use lib.IntN.{ℤ}
use lib.Dec.{T, ltb→lt, lt→ltb}
use lib.Pow.{pow_pos}
use lib.Ieee.{Float, nan, inf, fin, up, down, lt}
use lib.Ieee.Fits.{up_pos, down_pos}
use lib.Ieee.Order.{transfer}
use Rattle.definition.specs.Root.{in_units, plain, Held}
use Rattle.definition.proofs.Root.Units.{valued}

pub lt_units : (x y : Float) → Held x → Held y → T (lt x y) ↔ (in_units x < in_units y)
unfolding lt
lt_units nan y h k = absurd h.plainly
lt_units (inf s) y h k = absurd h.plainly
lt_units (fin true m e) y h k = absurd h.plainly
lt_units (fin false m e) nan h k = absurd k.plainly
lt_units (fin false m e) (inf t) h k = absurd k.plainly
lt_units (fin false m e) (fin true n d) h k = absurd k.plainly
lt_units (fin false m e) (fin false n d) h k =
    let a = m * up e in
    let b = n * up d in
    let x = in_units (fin false m e) in
    let y = in_units (fin false n d) in
    let i : a * 2 ^ 1074 ≡ x * down e = (valued false m e h.fitting).1 in
    let j : b * 2 ^ 1074 ≡ y * down d = (valued false n d k.fitting).1 in
    let P = pow_pos 1074 in (
      λ l. lt_of_not-le (λ g. not-le_of_lt (ltb→lt (a * down d) (b * down e) l) (transfer b a (down d) (down e) y x (2 ^ 1074) (2 ^ 1074) P P j i (mul-le-mul_right (2 ^ 1074) g))),
      λ l.
          lt→ltb (a * down d) (b * down e)
          (lt_of_not-le (λ g. not-le_of_lt l (le_of_mul-le-mul_right (transfer y x (2 ^ 1074) (2 ^ 1074) b a (down d) (down e) (down_pos d) (down_pos e) (sym j) (sym i) g) P))),
    )

-- ---- zero
pub zero_below : (s : Bool) (e : ℤ) (n : ℕ) (d : ℤ) → T (lt (fin s zero e) (fin false (suc n) d))
unfolding lt
zero_below true e n d = omega (arith, lt→ltb, mul-pos (mul-pos (zero-lt-suc n) (up_pos d)) (down_pos e))
zero_below false e n d = omega (arith, lt→ltb, mul-pos (mul-pos (zero-lt-suc n) (up_pos d)) (down_pos e))

pub not_below_zero : (r : Float) (t : Bool) (d : ℤ) → T (plain r) → T (lt r (fin t zero d)) → ⊥
unfolding lt
not_below_zero nan t d p h = p
not_below_zero (inf s) t d p h = p
not_below_zero (fin true m e) t d p h = p
not_below_zero (fin false m e) true d p h = h
not_below_zero (fin false m e) false d p h = omega (arith, ltb→lt)

-- ---- the ends
pub inf_lt : (x : Float) → lt (inf false) x ≡ false
unfolding lt
inf_lt nan = refl
inf_lt (inf t) = refl
inf_lt (fin t n d) = refl

pub lt_nan : (x : Float) → lt x nan ≡ false
unfolding lt
lt_nan nan = refl
lt_nan (inf s) = refl
lt_nan (fin s m e) = refl
