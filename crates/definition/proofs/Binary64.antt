-- What holds the constants and the clamp: each threshold by its power of two and by the Rust's product, and the clamp by two comparisons.
-- Assumes nothing.
use mathlib.Core.Path.{◌≡◌, refl, ap, ◌∙◌}
use mathlib.Core.Bool.{Bool, true, false, cond, ◌&&◌, ◌||◌}
use mathlib.Core.List.{[], ◌∷◌}
use Prim.Native.Nat.{ℕ, zero, suc, ◌+◌, ◌*◌, ◌^◌}
use native.Mathlib.Nat.{zero-add, zero-mul, mul-pos, zero-lt-suc}
use native.Mathlib.Omega.{arith}
use lib.Dec.{ltb, eqb, lt→ltb, leb-suc-zero}
use lib.IntN.{ℤ}
use lib.Ieee.{Float, nan, inf, fin, binary64, up, down, neg, lt, le, eq, round, is_nan}
use lib.Ieee.Fits.{up_pos}
use lib.Ieee.Bits.{is_true}
use Rattle.std.specs.Float.{float_with_sign}
use Rattle.definition.specs.Binary64.{◌⊗◌, plus0, one, minus_one, epsilon, singular, short_square, max_of, min_of, clamp_of, magnitude}
use Rattle.definition.proofs.Computing.{arithmetic}

-- 2^-52, 2^-46 and 2^-104; the last two are `F::epsilon() * 64` and `F::epsilon() * F::epsilon()`
thresholds :
    epsilon ∷ singular ∷ short_square ∷ (epsilon ⊗ round binary64 false 64 1) ∷ (epsilon ⊗ epsilon) ∷ []
    ≡ round binary64 false 1 (2 ^ 52) ∷ round binary64 false 1 (2 ^ 46) ∷ round binary64 false 1 (2 ^ 104) ∷ singular ∷ short_square ∷ []
unfolding arithmetic
thresholds = refl

-- the clamp, as code compares: NaN is not above -1
pub clamp_by_comparisons : (x : Float) → clamp_of x ≡ cond (lt minus_one x) (cond (lt x one) x one) minus_one
unfolding clamp_of max_of min_of is_nan lt
clamp_by_comparisons nan = refl
clamp_by_comparisons (inf true) = refl
clamp_by_comparisons (inf false) = refl
clamp_by_comparisons (fin s m e) = by (lt minus_one (fin s m e))
  where
    by : (above : Bool) → min_of (cond above (fin s m e) minus_one) one ≡ cond above (cond (lt (fin s m e) one) (fin s m e) one) minus_one
    by true = refl
    by false = refl

-- "NaN becomes -1"
pub clamp_nan : clamp_of nan ≡ minus_one
unfolding clamp_of max_of min_of is_nan lt
clamp_nan = refl

-- the magnitude is the library's, which `abs` gives
pub magnitude_is : (x : Float) → float_with_sign false x ≡ magnitude x
unfolding float_with_sign magnitude
magnitude_is nan = refl
magnitude_is (inf s) = refl
magnitude_is (fin s m e) = refl

-- ---- the magnitude by a comparison with 0: a -0 that is left as it is makes no difference to ≤

zero_times : (a b : ℕ) → 0 * a * b ≡ 0
zero_times a b = ap (λ (x : ℕ). x * b) (zero-mul a) ∙ zero-mul b

-- a negative number is below zero
below_zero : (m : ℕ) (e : ℤ) → lt (fin true (suc m) e) plus0 ≡ true
unfolding lt
below_zero m e =
    rw (zero_times 1 (down e))
    (is_true (ltb 0 (suc m * up e * 1 + 0)) (lt→ltb 0 (suc m * up e * 1 + 0) (omega (arith, mul-pos (zero-lt-suc m) (up_pos e)))))

-- and any other is not
not_below_zero : (m : ℕ) (e : ℤ) → lt (fin false m e) plus0 ≡ false
unfolding lt
not_below_zero m e = rw (zero_times 1 (down e), leb-suc-zero (m * up e * 1))

-- the two zeros compare alike
zeros_alike : (e : ℤ) (b : Float) → le (fin true 0 e) b ≡ le (fin false 0 e) b
unfolding le lt eq
zeros_alike e nan = refl
zeros_alike e (inf s) = refl
zeros_alike e (fin true n d) = rw (zero_times (up e) (down d)) (by (n * up d * down e))
  where
    by : (k : ℕ) → (ltb k 0 || (eqb 0 k && (true || eqb 0 0))) ≡ (false || (eqb 0 k && (false || eqb 0 0)))
    by zero = refl
    by (suc k) = rw (leb-suc-zero (suc k))
zeros_alike e (fin false n d) = rw (zero_times (up e) (down d)) (by (n * up d * down e))
  where
    by : (k : ℕ) → (ltb 0 (0 + k) || (eqb 0 k && (false || eqb 0 0))) ≡ (ltb 0 k || (eqb 0 k && (true || eqb 0 0)))
    by k = rw (zero-add k) refl

pub magnitude_by_comparison : (x b : Float) → le (cond (lt x plus0) (neg x) x) b ≡ le (magnitude x) b
unfolding magnitude neg
magnitude_by_comparison nan b = unfold lt in refl
magnitude_by_comparison (inf true) b = unfold lt in refl
magnitude_by_comparison (inf false) b = unfold lt in refl
magnitude_by_comparison (fin true zero e) b = by (lt (fin true 0 e) plus0)
  where
    by : (c : Bool) → le (cond c (fin false 0 e) (fin true 0 e)) b ≡ le (fin false 0 e) b
    by true = refl
    by false = zeros_alike e b
magnitude_by_comparison (fin true (suc m) e) b = rw (below_zero m e)
magnitude_by_comparison (fin false m e) b = rw (not_below_zero m e)
