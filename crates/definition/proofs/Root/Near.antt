-- Rounding a root, in whole numbers. s, of 54 digits, is the whole part of the root of an even M, and R is (s + 1) / 2 steps of 2 ^ (h + 1): then no other number Y of the grid is as near to the root of M * 4 ^ h.
-- For the middle of R and Y is at most s * 2 ^ h where Y is below R, and at least (s + 1) * 2 ^ h where Y is above, and it is not the root: it is s * 2 ^ h only for an odd s, whose square is not M. Assumes nothing.
use mathlib.Core.Path.{◌≡◌, refl}
use Prim.Native.Nat.{ℕ, zero, suc, ◌+◌, ◌*◌, ◌/◌, ◌%◌, ◌^◌, ◌≤◌, ◌<◌}
use native.Mathlib.Nat.{le_trans, le_of_eq, le_of_lt, not-le_of_lt, mul-le-mul, mul-le-mul_right, mul-lt-mul_of_pos_right, lt_of_mul-lt-mul_right, mul-pos, pow-succ'}
use native.Mathlib.Numerals.{add-one}
use native.Mathlib.Omega.{arith}
use native.Mathlib.Decide.{dec_lt}
use lib.Pow.{pow-add, pow_pos}
use Rattle.definition.proofs.Root.Isqrt.{Whole}
use Rattle.definition.proofs.Root.Units.{Grain}

-- R is nearer to the root of N than another number Y: the middle (R + Y) / 2 lies on Y's side of the root
pub record Nearer (N R Y : ℕ) : Type 0 where
  pub lower : Y < R → (R + Y) * (R + Y) < 4 * N
  pub upper : R < Y → 4 * N < (R + Y) * (R + Y)

-- so a Y that is not farther from the root than R is R, and none other is as near
pub nearer_only : (N R Y : ℕ) → Nearer N R Y → (R < Y → (Y + R) * (Y + R) ≤ 4 * N) → (Y < R → 4 * N ≤ (Y + R) * (Y + R)) → Y ≡ R
nearer_only N R Y n lower upper = elim (dec_lt R Y) [
  | yes k ↦ absurd (omega (arith, n.upper k, lower k))
  | no k ↦ elim (dec_lt Y R) [ yes l ↦ absurd (omega (arith, n.lower l, upper l)) | no l ↦ omega arith ]
]

pub nearer_no_tie : (N R Y : ℕ) → Nearer N R Y → (Y ≡ R → ⊥) → (R + Y) * (R + Y) ≡ 4 * N → ⊥
nearer_no_tie N R Y n d t = d (nearer_only N R Y n (λ k. omega arith) (λ k. omega arith))

-- ---- a, twice a middle, and the root of M * u * u
module _ (s M u a : ℕ) (w : Whole s M) (p : 0 < u) where
  above : 2 * ((s + 1) * u) ≤ a → 4 * (M * (u * u)) < a * a
  above h = omega (arith, mul-le-mul h h, mul-lt-mul_of_pos_right w.above (mul-pos p p))

  below : a < 2 * (s * u) → a * a < 4 * (M * (u * u))
  below h = omega (arith, mul-le-mul h h, mul-le-mul_right (u * u) w.below)

  below_strict : s * s < M → a ≤ 2 * (s * u) → a * a < 4 * (M * (u * u))
  below_strict l h = omega (arith, mul-le-mul h h, mul-lt-mul_of_pos_right l (mul-pos p p))

-- ---- the two ways to round, where the grid has no number between q steps and q + 1
module _ (q M u Y : ℕ) (p : 0 < u) (gap : q * (2 * u) < Y → (q + 1) * (2 * u) ≤ Y) where
  near_even : Whole (2 * q) M → Nearer (M * (u * u)) (q * (2 * u)) Y
  near_even w =
      let a = q * (2 * u) + Y in
      record { lower = λ k. below (2 * q) M u a w p (omega arith); upper = λ k. above (2 * q) M u a w p (omega (arith, gap k)) }

  near_odd : Whole (2 * q + 1) M → M % 2 ≡ 0 → Nearer (M * (u * u)) ((q + 1) * (2 * u)) Y
  near_odd w even =
      let a = (q + 1) * (2 * u) + Y in
      let strict : (2 * q + 1) * (2 * q + 1) < M = omega arith in
      record {
        lower = λ k. let at_most : ¬ (q * (2 * u) < Y) = λ l. not-le_of_lt k (gap l) in below_strict (2 * q + 1) M u a w p strict (omega arith);
        upper = λ k. above (2 * q + 1) M u a w p (omega arith);
      }

-- from 2 ^ 52 steps on, the numbers of the grid are whole numbers of steps
grid_gap : (k p Y : ℕ) → Grain Y → 2 ^ 52 ≤ p → p * 2 ^ k < Y → (p + 1) * 2 ^ k ≤ Y
grid_gap k p Y g l m =
    let z = g k (le_trans (le_of_eq (pow-add 2 52 k)) (le_trans (mul-le-mul_right (2 ^ k) l) (le_of_lt m))) in
    let more : p < z.0 = lt_of_mul-lt-mul_right (2 ^ k) (rw z.1 at m) in
    rw z.1 (mul-le-mul_right (2 ^ k) (omega arith))

pub near : (h M s : ℕ) → Whole s M → M % 2 ≡ 0 → 2 ^ 53 ≤ s → (Y : ℕ) → Grain Y → Nearer (M * (2 ^ h * 2 ^ h)) ((s + 1) / 2 * 2 ^ (h + 1)) Y
near h M s w even l Y g = rw step (by (s % 2) refl)
  where
    step : 2 ^ (h + 1) ≡ 2 * 2 ^ h
    step = rw add-one (pow-succ' 2 h)

    gap : s / 2 * (2 * 2 ^ h) < Y → (s / 2 + 1) * (2 * 2 ^ h) ≤ Y
    gap = rw step at (grid_gap (h + 1) (s / 2) Y g (omega arith))

    by : (r : ℕ) → s % 2 ≡ r → Nearer (M * (2 ^ h * 2 ^ h)) ((s + 1) / 2 * (2 * 2 ^ h)) Y
    by zero e =
        let half : (s + 1) / 2 ≡ s / 2 = omega arith in
        let whole : s ≡ 2 * (s / 2) = omega arith in
        rw half (near_even (s / 2) M (2 ^ h) Y (pow_pos h) gap (rw whole at w))
    by (suc r) e =
        let half : (s + 1) / 2 ≡ s / 2 + 1 = omega arith in
        let whole : s ≡ 2 * (s / 2) + 1 = omega arith in
        rw half (near_odd (s / 2) M (2 ^ h) Y (pow_pos h) gap (rw whole at w) even)
