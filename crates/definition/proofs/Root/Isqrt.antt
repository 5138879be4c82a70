-- `isqrt` is the whole part of a root: where r is that of n / 4, then 2 * r + 1 is that of n, or 2 * r where the square of 2 * r + 1 is above n. Assumes nothing.
use mathlib.Core.Path.{◌≡◌}
use mathlib.Core.Bool.{Bool, true, false, not, cond}
use Prim.Native.Nat.{ℕ, zero, suc, ◌+◌, ◌*◌, ◌/◌, ◌^◌, ◌≤◌, ◌<◌}
use native.Mathlib.Nat.{lt_of_not-le, lt_of_le_of_lt, not-le_of_lt, mul-le-mul}
use native.Mathlib.Omega.{arith}
use lib.Dec.{T, ltb, ltb→lt, nltb→le}
use Rattle.definition.specs.Root.{isqrt}

-- s is the whole part of the root of n
pub record Whole (s n : ℕ) : Type 0 where
  pub below : s * s ≤ n
  pub above : n < (s + 1) * (s + 1)

-- ---- squares
pub sq_lt_back : (a b : ℕ) → a * a < b * b → a < b
sq_lt_back a b h = lt_of_not-le (λ (g : b ≤ a). not-le_of_lt h (mul-le-mul g g))

pub whole_unique : (a b n : ℕ) → Whole a n → Whole b n → a ≡ b
whole_unique a b n p q =
    let u : a < b + 1 = sq_lt_back a (b + 1) (lt_of_le_of_lt p.below q.above) in
    let v : b < a + 1 = sq_lt_back b (a + 1) (lt_of_le_of_lt q.below p.above) in
    omega arith

-- ---- one digit more
pub isqrt_whole : (d n : ℕ) → n < 4 ^ d → Whole (isqrt d n) n
unfolding isqrt
isqrt_whole zero n h = omega arith
isqrt_whole (suc d) n h = digit (isqrt d (n / 4)) (isqrt_whole d (n / 4) (omega arith))
  where
    digit : (r : ℕ) → Whole r (n / 4) → Whole (cond (ltb n ((2 * r + 1) * (2 * r + 1))) (2 * r) (2 * r + 1)) n
    digit r w = by (ltb n ((2 * r + 1) * (2 * r + 1))) (ltb→lt n ((2 * r + 1) * (2 * r + 1))) (nltb→le n ((2 * r + 1) * (2 * r + 1)))
      where
        by : (b : Bool) → (T b → n < (2 * r + 1) * (2 * r + 1)) → (T (not b) → (2 * r + 1) * (2 * r + 1) ≤ n) → Whole (cond b (2 * r) (2 * r + 1)) n
        by true x y = omega (arith, x tt)
        by false x y = omega (arith, y tt)
