-- binary64: `Scalar` of the Rust, read as f64. Every operation is IEEE 754's, rounded once, to nearest with ties to even; NaNs all compare as one value.
-- A value is `nan`, an infinity, or `fin s m e`: the number m * 2 ^ e, negative where s is true. `fin s m (negsuc k)` is m * 2 ^ -(k + 1).
use Rattle.std.specs.Prelude.{true, false, cond, pos, negsuc, Float}
use Rattle.std.specs.Float.{nan, inf, fin, binary64}
use Rattle.std.specs.Float.Ieee.{add, sub, mul, div, lt, is_nan}

infixl 60 ◌⊕◌
infixl 60 ◌⊖◌
infixl 70 ◌⊗◌
infixl 70 ◌⊘◌
-- ---- the four operations

abbrev pub ◌⊕◌ : Float → Float → Float
x ⊕ y = add binary64 x y

abbrev pub ◌⊖◌ : Float → Float → Float
x ⊖ y = sub binary64 x y

abbrev pub ◌⊗◌ : Float → Float → Float
x ⊗ y = mul binary64 x y

abbrev pub ◌⊘◌ : Float → Float → Float
x ⊘ y = div binary64 x y

-- ---- constants

abbrev pub plus0 : Float
plus0 = fin false 0 (pos 0)

abbrev pub one : Float
one = fin false 1 (pos 0)

abbrev pub minus_one : Float
minus_one = fin true 1 (pos 0)

abbrev pub two : Float
two = fin false 1 (pos 1)

abbrev pub minus_two : Float
minus_two = fin true 1 (pos 1)

-- 0.5
abbrev pub half : Float
half = fin false 1 (negsuc 0)

-- 0.25
abbrev pub quarter : Float
quarter = fin false 1 (negsuc 1)

abbrev pub minus_quarter : Float
minus_quarter = fin true 1 (negsuc 1)

-- ---- thresholds

-- 2 ^ -52: `F::epsilon()`. The bound of the face search's squared tangent and of its step, and of the radius
abbrev pub epsilon : Float
epsilon = fin false 1 (negsuc 51)

-- 2 ^ -46: `F::epsilon() * 64`. The bound of the determinant of J transposed times J
abbrev pub singular : Float
singular = fin false 1 (negsuc 45)

-- 2 ^ -104: `F::epsilon() * F::epsilon()`. The bound of the squared length of a step of the element search
abbrev pub short_square : Float
short_square = fin false 1 (negsuc 103)

-- ---- max, min and the clamp: "max and min return the other operand when one is NaN"

unfoldable pub max_of : Float → Float → Float
max_of x y = cond (is_nan x) y (cond (is_nan y) x (cond (lt y x) x y))

unfoldable pub min_of : Float → Float → Float
min_of x y = cond (is_nan x) y (cond (is_nan y) x (cond (lt x y) x y))

-- "clamped to [-1, 1]; NaN becomes -1": `clamp_reference`, `x.max(-1).min(1)`
unfoldable pub clamp_of : Float → Float
clamp_of x = min_of (max_of x minus_one) one

-- the magnitude: `abs`
unfoldable pub magnitude : Float → Float
magnitude nan = nan
magnitude (inf s) = inf false
magnitude (fin s m e) = fin false m e

-- the squared distance of (ax, ay) and (bx, by): `squared_distance`
unfoldable pub squared_distance : Float → Float → Float → Float → Float
squared_distance ax ay bx by =
    let dx = ax ⊖ bx in
    let dy = ay ⊖ by in
    dx ⊗ dx ⊕ dy ⊗ dy
