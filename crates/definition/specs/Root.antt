-- The square root: "The nearest binary64 to the root, ties to even (IEEE 754), stated by comparing integer squares. Root of -0 is -0; of a negative or NaN, NaN; of +infinity, itself."
-- `IsRoot` is the property to believe and `root_of` the value that has it, computed; that it has it, and that no other value does, is proved.
use Rattle.std.specs.Prelude.{◌≡◌, Bool, true, false, not, cond, ℕ, zero, suc, ◌+◌, ◌-◌, ◌*◌, ◌/◌, ◌%◌, ◌^◌, ◌≤◌, ◌<◌, T, ltb, Float}
use Rattle.std.specs.Float.{nan, inf, fin, binary64}
use Rattle.std.specs.Float.Ieee.{up, down, size, fits, of_bits, to_bits}

-- ---- the property

-- a finite value's magnitude in units of 2 ^ -1074, the smallest binary64 above zero: a whole number for every value that binary64 holds
abbrev pub in_units : Float → ℕ
in_units nan = 0
in_units (inf s) = 0
in_units (fin s m e) = m * up e * 2 ^ 1074 / down e

-- finite, with the sign clear
abbrev pub plain : Float → Bool
plain nan = false
plain (inf s) = false
plain (fin s m e) = not s

-- a value of binary64 that is finite, with the sign clear
pub record Held (y : Float) : Type 0 where
  pub fitting : T (fits binary64 y)
  pub plainly : T (plain y)

-- Of the values r and y, r is not farther from the root of x, and where y is as near, r is the one whose last bit is 0.
-- In units, the root of x is that of in_units x * 2 ^ 1074. For y below r, r is as near as y or nearer where the middle (r + y) / 2 is not above the root;
-- squared, and times 4: (r + y) * (r + y) ≤ 4 * (in_units x * 2 ^ 1074). For y above r it is the other way round.
pub record NotFarther (x r y : Float) : Type 0 where
  pub lower : in_units y < in_units r → (in_units r + in_units y) * (in_units r + in_units y) ≤ 4 * (in_units x * 2 ^ 1074)
  pub upper : in_units r < in_units y → 4 * (in_units x * 2 ^ 1074) ≤ (in_units r + in_units y) * (in_units r + in_units y)
  pub tie : (in_units y ≡ in_units r → ⊥) → (in_units r + in_units y) * (in_units r + in_units y) ≡ 4 * (in_units x * 2 ^ 1074) → to_bits binary64 r % 2 ≡ 0

-- r is the nearest binary64 value to the root of x, ties to even
pub record NearestEven (x r : Float) : Type 0 where
  pub held : Held r
  pub nearest : (y : Float) → Held y → NotFarther x r y

-- r is the root of x, for every x that binary64 holds
abbrev pub IsRoot : Float → Float → Type 0
IsRoot nan r = r ≡ nan
IsRoot (inf true) r = r ≡ nan
IsRoot (inf false) r = r ≡ inf false
IsRoot (fin s zero e) r = r ≡ fin s zero e
IsRoot (fin true (suc m) e) r = r ≡ nan
IsRoot (fin false (suc m) e) r = NearestEven (fin false (suc m) e) r

-- ---- the value

-- the whole part of the root of an n below 4 ^ d, digit by digit
unfoldable pub isqrt : ℕ → ℕ → ℕ
isqrt zero n = 0
isqrt (suc d) n = let r = isqrt d (n / 4) in cond (ltb n ((2 * r + 1) * (2 * r + 1))) (2 * r) (2 * r + 1)

-- The root of n units, for an n above 0: in units it is the root of N = n * 2 ^ 1074. N / 4 ^ h has 107 or 108 binary digits, so the whole part of its root has 54; half of that, rounded up,
-- is the significand q, and the result is q * 2 ^ (h + 1) units, also where q is 2 ^ 53 and the pattern carries into the exponent. A root that lies exactly between two values of binary64 does not occur, so rounding up at a half is to nearest.
unfoldable pub root_units : ℕ → Float
unfolding isqrt size of_bits
root_units n =
    let h = (size (n * 2 ^ 1074) - 107) / 2 in
    let q = (isqrt 54 (n * 2 ^ 1074 / (2 ^ h * 2 ^ h)) + 1) / 2 in
    of_bits binary64 ((h + 1) * 2 ^ 52 + q)

-- `sqrt`
unfoldable pub root_of : Float → Float
unfolding root_units
root_of nan = nan
root_of (inf s) = cond s nan (inf false)
root_of (fin s zero e) = fin s zero e
root_of (fin true (suc m) e) = nan
root_of (fin false (suc m) e) = root_units (in_units (fin false (suc m) e))
