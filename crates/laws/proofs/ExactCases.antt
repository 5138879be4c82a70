-- The exact cases. No operation in a shape number rounds, since each bound stays below 2 ^ 53: every side condition is a test that computes, `tt`. The values of the polynomials total the denominator, multiplied out.
-- And no partial sum of the N rounds, since the magnitudes of the values total less than 2 ^ 53. Assumes nothing.
use mathlib.Core.Path.{◌≡◌, refl}
use Prim.Native.Nat.{ℕ, zero, suc, ◌+◌, ◌*◌, ◌^◌, ◌≤◌, ◌<◌}
use native.Mathlib.Nat.{le_refl, zero-add, add-zero, zero-mul, mul_comm, mul_assoc, mul_left_comm, add-mul, mul-add, mul-le-mul}
use native.Mathlib.Omega.{arith}
use lib.Dec.{lit<}
use lib.IntN.{ℤ, pos, negsuc, nat_abs, ◌+ℤ◌, ◌-ℤ◌, ◌*ℤ◌}
use lib.Ieee.{Float}
use Rattle.definition.specs.Binary64.{◌⊕◌, ◌⊖◌, ◌⊗◌, one, half, quarter}
use Rattle.definition.specs.Elements.{shape4, shape9, shape_of, nodes_of, lagrange_low, lagrange_mid, lagrange_high}
use Rattle.laws.specs.ExactCases.{Exactly, Multiple, grain_of, digits_of, unit, low, mid, high, N, value_of, added, ExactCases}
use Rattle.laws.proofs.Exact.Integers.{Minus, same, whole, ◌⊞◌, ◌⊟◌, ◌⊠◌, magnitude_is, magnitude_product}
use Rattle.laws.proofs.Exact.Dyadic.{Dyadic, parts, bounded, multiple, doubled, dyadic_one, dyadic-⊕, dyadic-⊖, dyadic-⊗, dyadic_power, total_one}

-- 1, as a number over 2 ^ grain_of family: the magnitude of `unit`
abbrev U : ℕ → ℕ
U family = 2 ^ grain_of family

-- ---- the values total the denominator
module _ {z w : ℤ} {p m q n : ℕ} (f : Minus z p m) (g : Minus w q n) where
  bilinear_total : added ◌+ℤ◌ (pos 0) (value_of 4 z w) 4 ≡ pos (2 ^ digits_of 4)
  bilinear_total =
      let u = whole (U 4) in
      same (whole 0 ⊞ (u ⊟ f) ⊠ (u ⊟ g) ⊞ (u ⊞ f) ⊠ (u ⊟ g) ⊞ (u ⊞ f) ⊠ (u ⊞ g) ⊞ (u ⊟ f) ⊠ (u ⊞ g)) (whole (2 ^ digits_of 4)) (omega arith)

  biquadratic_total : added ◌+ℤ◌ (pos 0) (value_of 9 z w) 9 ≡ pos (2 ^ digits_of 9)
  biquadratic_total =
      let u = whole (U 9) in
      let a = f ⊠ (f ⊟ u) in
      let b = whole 2 ⊠ (u ⊠ u ⊟ f ⊠ f) in
      let c = f ⊠ (f ⊞ u) in
      let x = g ⊠ (g ⊟ u) in
      let y = whole 2 ⊠ (u ⊠ u ⊟ g ⊠ g) in
      let z = g ⊠ (g ⊞ u) in
      same (whole 0 ⊞ a ⊠ x ⊞ c ⊠ x ⊞ c ⊠ z ⊞ a ⊠ z ⊞ b ⊠ x ⊞ c ⊠ y ⊞ b ⊠ z ⊞ a ⊠ y ⊞ b ⊠ y) (whole (2 ^ digits_of 9))
      (simp (zero-add, add-zero, zero-mul, mul_comm, mul_assoc, mul_left_comm, add-mul, mul-add) (omega arith))

-- ---- family 9: the magnitudes of the three polynomials total at most 2, so those of the nine products at most 4
square : (z : ℤ) → z *ℤ z ≡ pos (nat_abs z * nat_abs z)
square (pos n) = refl
square (negsuc n) = refl

axis_magnitudes : {z : ℤ} {p m : ℕ} → Minus z p m → nat_abs z ≤ U 9 → nat_abs (low z) + nat_abs (mid z) + nat_abs (high z) ≤ 4 * (U 9 * U 9)
axis_magnitudes {z} f h =
    let u = whole (U 9) in
    let ends : nat_abs (z -ℤ unit 9) + nat_abs (z +ℤ unit 9) ≤ 2 * U 9 = omega (arith, magnitude_is f, magnitude_is (f ⊟ u), magnitude_is (f ⊞ u)) in
    let middle : nat_abs (unit 9 *ℤ unit 9 -ℤ z *ℤ z) ≤ U 9 * U 9 = rw (square z) (omega (arith, magnitude_is (u ⊠ u ⊟ whole (nat_abs z * nat_abs z)), mul-le-mul h h)) in
    simp magnitude_product (omega (arith, mul-le-mul h (le_refl (nat_abs (z -ℤ unit 9))), mul-le-mul h (le_refl (nat_abs (z +ℤ unit 9)))))

biquadratic_magnitudes : {z w : ℤ} {p m q n : ℕ} → Minus z p m → Minus w q n → nat_abs z ≤ U 9 → nat_abs w ≤ U 9 → added ◌+◌ 0 (λ j. nat_abs (value_of 9 z w j)) 9 < 2 ^ 53
biquadratic_magnitudes {z} f g h l =
    simp (magnitude_product (low z), magnitude_product (mid z), magnitude_product (high z)) (omega (arith, mul-le-mul (axis_magnitudes f h) (axis_magnitudes g l)))

-- ---- each N of family 4
module _ {x : Float} {z : ℤ} (f : Multiple (grain_of 4) x z) where
  one_less : Dyadic (one ⊖ x) (grain_of 4) (unit 4 -ℤ z) (2 * U 4)
  one_less = dyadic-⊖ tt tt (dyadic_one (grain_of 4)) (multiple f)

  one_more : Dyadic (one ⊕ x) (grain_of 4) (unit 4 +ℤ z) (2 * U 4)
  one_more = dyadic-⊕ tt tt (dyadic_one (grain_of 4)) (multiple f)

quarter_product : {x y : Float} {d e : ℤ} → Dyadic x (grain_of 4) d (2 * U 4) → Dyadic y (grain_of 4) e (2 * U 4) → Dyadic (quarter ⊗ x ⊗ y) (digits_of 4) (d *ℤ e) (4 * (U 4 * U 4))
quarter_product f g = dyadic-⊗ tt tt (dyadic_power 1 tt tt f) g

bilinear_exact : {ξ η : Float} {z w : ℤ} → Multiple (grain_of 4) ξ z → Multiple (grain_of 4) η w → (j : ℕ) → j < 4 → Dyadic (N 4 ξ η j) (digits_of 4) (value_of 4 z w j) (4 * (U 4 * U 4))
unfolding shape_of shape4
bilinear_exact f g zero l = quarter_product (one_less f) (one_less g)
bilinear_exact f g (suc zero) l = quarter_product (one_more f) (one_less g)
bilinear_exact f g (suc (suc zero)) l = quarter_product (one_more f) (one_more g)
bilinear_exact f g (suc (suc (suc zero))) l = quarter_product (one_less f) (one_more g)
bilinear_exact f g (suc (suc (suc (suc j)))) l = absurd (omega arith)

-- ---- each N of family 9
module _ {x : Float} {z : ℤ} (f : Multiple (grain_of 9) x z) where
  half_product : {y : Float} {d : ℤ} → Dyadic y (grain_of 9) d (2 * U 9) → Dyadic (half ⊗ x ⊗ y) (1 + 2 * grain_of 9) (z *ℤ d) (2 * (U 9 * U 9))
  half_product g = dyadic-⊗ tt tt (dyadic_power 0 tt tt (multiple f)) g

  low_exact : Dyadic (lagrange_low x) (1 + 2 * grain_of 9) (low z) (2 * (U 9 * U 9))
  unfolding lagrange_low
  low_exact = half_product (dyadic-⊖ tt tt (multiple f) (dyadic_one (grain_of 9)))

  mid_exact : Dyadic (lagrange_mid x) (1 + 2 * grain_of 9) (mid z) (4 * (U 9 * U 9))
  unfolding lagrange_mid
  mid_exact = doubled (dyadic-⊖ tt tt (dyadic_one (2 * grain_of 9)) (dyadic-⊗ tt tt (multiple f) (multiple f)))

  high_exact : Dyadic (lagrange_high x) (1 + 2 * grain_of 9) (high z) (2 * (U 9 * U 9))
  unfolding lagrange_high
  high_exact = half_product (dyadic-⊕ tt tt (multiple f) (dyadic_one (grain_of 9)))

biquadratic_exact : {ξ η : Float} {z w : ℤ} → Multiple (grain_of 9) ξ z → Multiple (grain_of 9) η w → (j : ℕ) → j < 9 → Exactly (N 9 ξ η j) (digits_of 9) (value_of 9 z w j)
unfolding shape_of shape9
biquadratic_exact f g zero l = (dyadic-⊗ tt tt (low_exact f) (low_exact g)).exact
biquadratic_exact f g (suc zero) l = (dyadic-⊗ tt tt (high_exact f) (low_exact g)).exact
biquadratic_exact f g (suc (suc zero)) l = (dyadic-⊗ tt tt (high_exact f) (high_exact g)).exact
biquadratic_exact f g (suc (suc (suc zero))) l = (dyadic-⊗ tt tt (low_exact f) (high_exact g)).exact
biquadratic_exact f g (suc (suc (suc (suc zero)))) l = (dyadic-⊗ tt tt (mid_exact f) (low_exact g)).exact
biquadratic_exact f g (suc (suc (suc (suc (suc zero))))) l = (dyadic-⊗ tt tt (high_exact f) (mid_exact g)).exact
biquadratic_exact f g (suc (suc (suc (suc (suc (suc zero)))))) l = (dyadic-⊗ tt tt (mid_exact f) (high_exact g)).exact
biquadratic_exact f g (suc (suc (suc (suc (suc (suc (suc zero))))))) l = (dyadic-⊗ tt tt (low_exact f) (mid_exact g)).exact
biquadratic_exact f g (suc (suc (suc (suc (suc (suc (suc (suc zero)))))))) l = (dyadic-⊗ tt tt (mid_exact f) (mid_exact g)).exact
biquadratic_exact f g (suc (suc (suc (suc (suc (suc (suc (suc (suc j))))))))) l = absurd (omega arith)

-- ---- the theorems
pub exact_family_4 : ExactCases 4
unfolding nodes_of
exact_family_4 ξ η z w f g =
    let total = bilinear_total (parts f.exact) (parts g.exact) in
    record { each = λ j l. (bilinear_exact f g j l).exact; total = total; float_total = total_one tt 4 (bilinear_exact f g) (lit< tt) total }

pub exact_family_9 : ExactCases 9
unfolding nodes_of
exact_family_9 ξ η z w f g =
    let total = biquadratic_total (parts f.exact) (parts g.exact) in
    let few = biquadratic_magnitudes (parts f.exact) (parts g.exact) f.within g.within in
    record { each = biquadratic_exact f g; total = total; float_total = total_one tt 9 (λ j l. bounded (le_refl (nat_abs (value_of 9 z w j))) (biquadratic_exact f g j l)) few total }
