-- `root::scale` meets its contract. Assumes nothing.
use mathlib.Core.Path.{◌≡◌, sym, ap, ◌∙◌, subst}
use Prim.Native.Nat.{ℕ, suc, ◌+◌, ◌-◌, ◌*◌, ◌/◌, ◌%◌, ◌^◌, ◌≤◌, ◌<◌}
use native.Mathlib.Nat.{le_trans, le_of_eq, lt_of_lt_of_le, lt_of_le_of_lt, mul_assoc, mul-le-mul_right, mul-le-mul_left, mul-one, mod-eq_of_lt}
use native.Mathlib.Omega.{arith}
use lib.Pow.{pow-add, pow_mono, pow_pos, shl_lt}
use lib.Count.{count_leading_zeros, leading_top}
use lib.Ieee.{binary64, of_bits}
use Rattle.definition.specs.Root.{in_units}
use Rattle.definition.proofs.Root.Units.{pow_lt_back, units_low, units_normal}
use Rattle.definition.proofs.Root.Scaled.{Scaled, flat}
use Rattle.root.proofs.scale.Goals as goal

-- the leading zeros of a t below 2 ^ 52
zeros : (t : ℕ) → 0 < t → t < 2 ^ 52 → (12 ≤ count_leading_zeros 64 t) × (count_leading_zeros 64 t ≤ 63)
zeros t p l =
    let k = leading_top 64 t p (omega arith) in
    let j : k.0 < 52 = pow_lt_back k.0 52 (lt_of_le_of_lt k.2 l) in
    (omega (arith, k.1), omega (arith, k.1))

-- c * 2 ^ i units with c * 2 ^ o of 53 or 54 digits
module _ (c d i o h : ℕ) (e : i + 1074 ≡ d + o + (54 + (h + h))) where
  splits : c * 2 ^ i * 2 ^ 1074 ≡ c * 2 ^ (d + o) * 2 ^ 54 * (2 ^ h * 2 ^ h)
  splits =
      mul_assoc c (2 ^ i) (2 ^ 1074)
      ∙ ap (λ (x : ℕ). c * x) (sym (pow-add 2 i 1074) ∙ ap (λ (x : ℕ). 2 ^ x) e ∙ pow-add 2 (d + o) (54 + (h + h)))
      ∙ sym (mul_assoc c (2 ^ (d + o)) (2 ^ (54 + (h + h))))
      ∙ sym (flat (c * 2 ^ (d + o)) h)

at_normal : (b : ℕ) → 2 ^ 52 ≤ b → b < 2047 * 2 ^ 52
    → Scaled (in_units (of_bits binary64 b)) ((b / 2 ^ 52 + 1073 - 54) / 2) ((b % 2 ^ 52 + 2 ^ 52) * 2 ^ ((b / 2 ^ 52 + 1073) % 2))
at_normal b l m =
    let t = 2 ^ 52 + b % 2 ^ 52 in
    let f = b / 2 ^ 52 in
    let o = (f + 1073) % 2 in
    let h = (f + 1073 - 54) / 2 in
    let c : b % 2 ^ 52 + 2 ^ 52 ≡ t = omega arith in
    let e : f - 1 + 1074 ≡ 0 + o + (54 + (h + h)) = omega arith in
    let z : 0 + o ≡ o = omega arith in
    let i : 53 + o ≤ 54 = omega arith in
    let j : t < 2 ^ 53 = omega arith in
    subst (λ (n : ℕ). Scaled n h ((b % 2 ^ 52 + 2 ^ 52) * 2 ^ o)) (sym (units_normal b l m))
    (subst (λ (x : ℕ). Scaled (t * 2 ^ (f - 1)) h (x * 2 ^ o)) (sym c)
    (record {
      split = subst (λ (x : ℕ). t * 2 ^ (f - 1) * 2 ^ 1074 ≡ t * 2 ^ x * 2 ^ 54 * (2 ^ h * 2 ^ h)) z (splits t 0 (f - 1) o h e);
      least = le_trans (low (b % 2 ^ 52)) (le_trans (le_of_eq (sym (mul-one t))) (mul-le-mul_left t (pow_pos o)));
      most = lt_of_lt_of_le (shl_lt 53 o j) (pow_mono i);
    }))
  where
    low : (t : ℕ) → 2 ^ 52 ≤ 2 ^ 52 + t
    low t = omega arith

low_at : (b z : ℕ) → 12 ≤ z → z ≤ 63 → 2 ^ (63 - z) ≤ b → b < 2 ^ (64 - z) → Scaled b ((1085 - z - 54) / 2) (b * 2 ^ (z - 11 + (1085 - z) % 2))
low_at b z lo hi l m =
    let o = (1085 - z) % 2 in
    let h = (1085 - z - 54) / 2 in
    let e : 0 + 1074 ≡ z - 11 + o + (54 + (h + h)) = omega arith in
    let s = 63 - z + (z - 11 + o) in
    let u = 64 - z + (z - 11 + o) in
    let x : 52 ≤ s = omega arith in
    let y : u ≤ 54 = omega arith in
    record {
      split = ap (λ (n : ℕ). n * 2 ^ 1074) (sym (mul-one b)) ∙ splits b (z - 11) 0 o h e;
      least = le_trans (pow_mono x) (le_trans (le_of_eq (pow-add 2 (63 - z) (z - 11 + o))) (mul-le-mul_right (2 ^ (z - 11 + o)) l));
      most = lt_of_lt_of_le (shl_lt (64 - z) (z - 11 + o) m) (pow_mono y);
    }

at_low : (b : ℕ) → 0 < b → b < 2 ^ 52
    → Scaled (in_units (of_bits binary64 b)) ((1085 - count_leading_zeros 64 b - 54) / 2) (b * 2 ^ (count_leading_zeros 64 b - 11 + (1085 - count_leading_zeros 64 b) % 2))
at_low b p l =
    let z = count_leading_zeros 64 b in
    let k = leading_top 64 b p (omega arith) in
    let q = zeros b p l in
    let e : k.0 ≡ 63 - z = omega (arith, k.1) in
    let f : suc k.0 ≡ 64 - z = omega (arith, k.1) in
    subst (λ (n : ℕ). Scaled n ((1085 - z - 54) / 2) (b * 2 ^ (z - 11 + (1085 - z) % 2))) (sym (units_low b l))
    (low_at b z q.0 q.1 (subst (λ (i : ℕ). 2 ^ i ≤ b) e k.2) (subst (λ (i : ℕ). b < 2 ^ i) f k.3))

-- a shift to 54 bits loses nothing
unwrap : (n h A : ℕ) → Scaled n h A → Scaled n h (A % 2 ^ 64)
unwrap n h A s = subst (λ (x : ℕ). Scaled n h x) (sym (mod-eq_of_lt (wide A s.most))) s
  where
    wide : (A : ℕ) → A < 2 ^ 54 → A < 2 ^ 64
    wide A l = omega arith

pub overflow_sub-result : goal.overflow_sub-result
overflow_sub-result c = omega (arith, zeros (c.args.b % 2 ^ 52) (omega arith) (omega arith))

pub returns-then-e-eq0 : goal.returns-then-e-eq0
returns-then-e-eq0 c =
    let b = c.args.b in
    let l : b < 2 ^ 52 = omega arith in (
      omega (arith, zeros (c.args.b % 2 ^ 52) (omega arith) (omega arith)),
      subst (λ (t : ℕ). Scaled (in_units (of_bits binary64 b)) ((1085 - count_leading_zeros 64 t - 54) / 2) (t * 2 ^ (count_leading_zeros 64 t - 11 + (1085 - count_leading_zeros 64 t) % 2) % 2 ^ 64)) (sym (mod-eq_of_lt l))
          (unwrap (in_units (of_bits binary64 b)) ((1085 - count_leading_zeros 64 b - 54) / 2) (b * 2 ^ (count_leading_zeros 64 b - 11 + (1085 - count_leading_zeros 64 b) % 2)) (at_low b c.requires.0 l)),
    )

pub returns-else-e-eq0 : goal.returns-else-e-eq0
returns-else-e-eq0 c =
    let b = c.args.b in
    let l : 2 ^ 52 ≤ b = some b c.if-e-eq0.false in
    (omega arith, unwrap (in_units (of_bits binary64 b)) ((b / 2 ^ 52 + 1073 - 54) / 2) ((b % 2 ^ 52 + 2 ^ 52) * 2 ^ ((b / 2 ^ 52 + 1073) % 2)) (at_normal b l c.requires.1))
  where
    some : (b : ℕ) → (b / 2 ^ 52 ≡ 0 → ⊥) → 2 ^ 52 ≤ b
    some b n = omega arith
