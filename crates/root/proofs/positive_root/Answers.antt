-- `root::positive_root` meets its contract: a guess that `is_root` finds right, and the whole part of the root that `whole_root` finds, give the same pattern, the one that `root_units` writes.
use mathlib.Core.Path.{◌≡◌, sym}
use Prim.Native.Nat.{ℕ, zero, suc, ◌+◌, ◌-◌, ◌*◌, ◌/◌, ◌^◌, ◌≤◌, ◌<◌}
use native.Mathlib.Nat.{lt_of_le_of_lt}
use native.Mathlib.Omega.{arith}
use mathlib.Core.Bool.{not}
use lib.Dec.{T}
use lib.Ieee.{binary64, of_bits, nan_bits}
use Rattle.definition.specs.Root.{isqrt, root_units}
use Rattle.definition.proofs.Root.Isqrt.{Whole, isqrt_whole, sq_lt_back}
use Rattle.definition.proofs.Root.Scaled.{Scaled, root_units_at, quad_lt, root_most}
use Rattle.std.proofs.lemmas.Float.{not_nan_f64_bits}
use Rattle.root.proofs.positive_root.Goals as goal

-- ---- c is half the root s of A * 2 ^ 54, rounded
not_above : (A c s : ℕ) → Whole s (A * 2 ^ 54) → c * c < A * 2 ^ 52 + c → 2 * c < s + 2
not_above A zero s w h = omega arith
not_above A (suc p) s w h = omega (arith, sq_lt_back (2 * p + 1) (s + 1) (lt_of_le_of_lt (omega arith) w.above))

not_below : (A c s : ℕ) → Whole s (A * 2 ^ 54) → A * 2 ^ 52 ≤ c * c + c → s < 2 * c + 1
not_below A c s w h = sq_lt_back s (2 * c + 1) (lt_of_le_of_lt w.below (omega arith))

rounded : (A c s : ℕ) → Whole s (A * 2 ^ 54) → (c * c < A * 2 ^ 52 + c) × (A * 2 ^ 52 ≤ c * c + c) → c ≡ (s + 1) / 2
rounded A c s w h = omega (arith, not_above A c s w h.0, not_below A c s w h.1)

-- ---- p is the pattern of the root of n units
record Pattern (n p : ℕ) : Type 0 where
  finite : p < 2047 * 2 ^ 52
  exact : of_bits binary64 p ≡ root_units n

number : (n p : ℕ) → Pattern n p → T (not (nan_bits binary64 p))
number n p q = not_nan_f64_bits p (omega (arith, q.finite))

module _ (n h A : ℕ) (l : h < 1533) (z : Scaled n h A) where
  by_whole : (s : ℕ) → Whole s (A * 2 ^ 54) → Pattern n ((h + 1) * 2 ^ 52 + (s + 1) / 2)
  by_whole s w = record { finite = omega (arith, root_most A s z.most w); exact = sym (root_units_at n h A s z w) }

  by_guess : (p : ℕ) → (h + 1) * 2 ^ 52 ≤ p → (let c = p - (h + 1) * 2 ^ 52 in (c * c < A * 2 ^ 52 + c) × (A * 2 ^ 52 ≤ c * c + c)) → Pattern n p
  by_guess p k e =
      let s = isqrt 54 (A * 2 ^ 54) in
      let w : Whole s (A * 2 ^ 54) = isqrt_whole 54 (A * 2 ^ 54) (quad_lt A z.most) in
      let same : p ≡ (h + 1) * 2 ^ 52 + (s + 1) / 2 = omega (arith, rounded A (p - (h + 1) * 2 ^ 52) s w e) in
      rw same (by_whole s w)

-- ---- the guess is right
pub float_from_bits-result : goal.float_from_bits-result
float_from_bits-result c = number _ _ (by_guess _ _ _ c.scale-v.ensures.0 c.scale-v.ensures.1 _ c.if-exponent-p.true (c.is_root.ensures c.if-is_root.true))

pub returns-then-is_root : goal.returns-then-is_root
returns-then-is_root c = (by_guess _ _ _ c.scale-v.ensures.0 c.scale-v.ensures.1 _ c.if-exponent-p.true (c.is_root.ensures c.if-is_root.true)).exact

-- ---- it is not
pub float_from_bits-result-2 : goal.float_from_bits-result-2
float_from_bits-result-2 c = (number _ _ (by_whole _ _ _ c.scale-v.ensures.0 c.scale-v.ensures.1 _ c.whole_root.ensures))

pub returns : goal.returns
returns c = (by_whole _ _ _ c.scale-v.ensures.0 c.scale-v.ensures.1 _ c.whole_root.ensures).exact
