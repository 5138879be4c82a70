-- n units, in scale: n * 2 ^ 1074 is A * 2 ^ 54 * 4 ^ h with an A of 53 or 54 digits. Every n above 0 that a value has can be written so, since its digits after the 53 leading ones are zeros.
-- `root_units n` finds that h, and takes the whole part of the root of A * 2 ^ 54, which has 54 digits. Assumes nothing.
use mathlib.Core.Path.{◌≡◌, sym, ap, ◌∙◌}
use Prim.Native.Nat.{ℕ, ◌+◌, ◌-◌, ◌*◌, ◌/◌, ◌^◌, ◌≤◌, ◌<◌}
use native.Mathlib.Nat.{lt_of_lt_of_le, lt_of_le_of_lt, mul_assoc, mul-pos, mul-le-mul_right, le_of_mul-le-mul_right, lt_of_mul-lt-mul_right, mul-div_cancel}
use native.Mathlib.Omega.{arith}
use native.Mathlib.Decide.{dec_le}
use lib.Pow.{pow-add, pow_pos, pow_mono, shl_lt}
use lib.Ieee.{binary64, size, of_bits}
use lib.Ieee.Digits.{size-lt, size-le, size_reaches}
use Rattle.definition.specs.Root.{isqrt, root_units}
use Rattle.definition.proofs.Root.Isqrt.{Whole, isqrt_whole, whole_unique, sq_lt_back}
use Rattle.definition.proofs.Root.Units.{Grain, pow_lt_back, pow_split}

pub record Scaled (n h A : ℕ) : Type 0 where
  pub split : n * 2 ^ 1074 ≡ A * 2 ^ 54 * (2 ^ h * 2 ^ h)
  pub least : 2 ^ 52 ≤ A
  pub most : A < 2 ^ 54

pub flat : (A h : ℕ) → A * 2 ^ 54 * (2 ^ h * 2 ^ h) ≡ A * 2 ^ (54 + (h + h))
flat A h = simp (pow-add, mul_assoc)

-- ---- what `root_units` finds
h_found : (n h A : ℕ) → Scaled n h A → (size (n * 2 ^ 1074) - 107) / 2 ≡ h
h_found n h A c =
    let w = 54 + (h + h) in
    let N = n * 2 ^ 1074 in
    let e : N ≡ A * 2 ^ w = c.split ∙ flat A h in
    let hi : size N ≤ 54 + w = size-le N (54 + w) (rw e (shl_lt 54 w c.most)) in
    let lo : 52 + w < size N = pow_lt_back (52 + w) (size N) (lt_of_le_of_lt (rw (pow-add, e) (mul-le-mul_right (2 ^ w) c.least)) (size-lt N)) in
    omega arith

pub quad_lt : (A : ℕ) → A < 2 ^ 54 → A * 2 ^ 54 < 4 ^ 54
quad_lt A h = shl_lt 54 54 h

root_found : (n h A s : ℕ) → Scaled n h A → Whole s (A * 2 ^ 54) → isqrt 54 (n * 2 ^ 1074 / (2 ^ h * 2 ^ h)) ≡ s
root_found n h A s c w =
    rw (c.split, mul-div_cancel (A * 2 ^ 54) (mul-pos (pow_pos h) (pow_pos h)))
    (whole_unique (isqrt 54 (A * 2 ^ 54)) s (A * 2 ^ 54) (isqrt_whole 54 (A * 2 ^ 54) (quad_lt A c.most)) w)

pub root_units_at : (n h A s : ℕ) → Scaled n h A → Whole s (A * 2 ^ 54) → root_units n ≡ of_bits binary64 ((h + 1) * 2 ^ 52 + (s + 1) / 2)
unfolding root_units
root_units_at n h A s c w =
    ap (λ (i : ℕ). of_bits binary64 ((i + 1) * 2 ^ 52 + (isqrt 54 (n * 2 ^ 1074 / (2 ^ i * 2 ^ i)) + 1) / 2)) (h_found n h A c)
    ∙ ap (λ (r : ℕ). of_bits binary64 ((h + 1) * 2 ^ 52 + (r + 1) / 2)) (root_found n h A s c w)

-- ---- the root of A * 2 ^ 54 has 54 digits
pub root_least : (A s : ℕ) → 2 ^ 52 ≤ A → Whole s (A * 2 ^ 54) → 2 ^ 53 ≤ s
root_least A s l w = omega (arith, sq_lt_back (2 ^ 53) (s + 1) (lt_of_le_of_lt (omega arith) w.above))

pub root_most : (A s : ℕ) → A < 2 ^ 54 → Whole s (A * 2 ^ 54) → s < 2 ^ 54
root_most A s l w = sq_lt_back s (2 ^ 54) (lt_of_le_of_lt w.below (quad_lt A l))

-- ---- every n above 0 that a value has can be written so
grain_shift : (n j : ℕ) → Grain n → Grain (n * 2 ^ j)
grain_shift n j g k l = by (dec_le k j)
  where
    by : Dec (k ≤ j) → (t : ℕ) × (n * 2 ^ j ≡ t * 2 ^ k)
    by (yes h) = (n * 2 ^ (j - k), rw (mul_assoc, pow_split))
    by (no h) =
        let more : j ≤ k = omega arith in
        let e : 52 + k ≡ 52 + (k - j) + j = omega arith in
        let z = g (k - j) (le_of_mul-le-mul_right (rw (e, pow-add 2 (52 + (k - j)) j) at l) (pow_pos j)) in
        (z.0, ap (λ (x : ℕ). x * 2 ^ j) z.1 ∙ rw (mul_assoc, pow_split))

scaled_at : (n h : ℕ) → Grain n → 2 ^ (52 + (54 + (h + h))) ≤ n * 2 ^ 1074 → n * 2 ^ 1074 < 2 ^ (54 + (54 + (h + h))) → (A : ℕ) × Scaled n h A
scaled_at n h g lo hi =
    let w = 54 + (h + h) in
    let z = grain_shift n 1074 g w lo in (
      z.0,
      record {
        split = z.1 ∙ sym (flat z.0 h);
        least = le_of_mul-le-mul_right (rw (pow-add 2 52 w, z.1) at lo) (pow_pos w);
        most = lt_of_mul-lt-mul_right (2 ^ w) (rw (pow-add 2 54 w, z.1) at hi);
      },
    )

pub scaled : (n : ℕ) → Grain n → 0 < n → n < 2 ^ 2098 → (h : ℕ) × (A : ℕ) × Scaled n h A × (h < 1533)
scaled n g p l =
    let N = n * 2 ^ 1074 in
    let h = (size N - 107) / 2 in
    let least : 1074 < size N = pow_lt_back 1074 (size N) (lt_of_le_of_lt (mul-le-mul_right (2 ^ 1074) p) (size-lt N)) in
    let most : size N ≤ 3172 = size-le N 3172 (shl_lt 2098 1074 l) in
    let z = scaled_at n h g (size_reaches N (52 + (54 + (h + h))) (omega arith)) (lt_of_lt_of_le (size-lt N) (pow_mono (omega arith))) in
    (h, z.0, z.1, omega arith)
