-- "Exact cases: where ξ and η are multiples of 2^-20 (family 4) or 2^-12 (family 9) within [-1, 1], each N is the exact polynomial value and the N total exactly 1."
-- It holds since every number on the way is an integer of at most 53 binary digits over a power of two, which binary64 does not round; proofs/ExactCases.antt proves it. Assumes nothing.
use Rattle.std.specs.Prelude.{◌≡◌, Bool, true, false, List, [], ◌∷◌, ℕ, zero, suc, ◌*◌, ◌^◌, ◌≤◌, ◌<◌, ℤ, pos, neg_ℤ, nat_abs, ◌+ℤ◌, ◌-ℤ◌, ◌*ℤ◌, get_or, Float}
use Rattle.std.specs.Float.{nan, fin}
use Rattle.std.specs.Float.Ieee.{up, down}
use Rattle.definition.specs.Binary64.{◌⊕◌, plus0, one}
use Rattle.definition.specs.Elements.{by_family, nodes_of, shape_of}

-- ---- a float that is an integer over a power of two. The integers are ℤ: `pos n` is n, `negsuc n` is -(n + 1), and `nat_abs` is the magnitude

-- n, or -n where the sign is a minus
abbrev pub signed : Bool → ℕ → ℤ
signed false n = pos n
signed true n = neg_ℤ (pos n)

-- The float x is exactly d / 2 ^ k: x is ±m * 2 ^ e and d is ±n, with the same sign, and m * 2 ^ e = n / 2 ^ k.
-- (2 ^ e is up e / down e, and the equation is multiplied out to natural numbers. A zero may have either sign.)
pub record Exactly (x : Float) (k : ℕ) (d : ℤ) : Type 0 where
  pub minus : Bool
  pub m : ℕ
  pub e : ℤ
  pub n : ℕ
  pub float : x ≡ fin minus m e
  pub integer : d ≡ signed minus n
  pub equal : m * up e * 2 ^ k ≡ n * down e

-- x is z / 2 ^ k, within [-1, 1]
pub record Multiple (k : ℕ) (x : Float) (z : ℤ) : Type 0 where
  pub exact : Exactly x k z
  pub within : nat_abs z ≤ 2 ^ k

-- ---- the polynomials at ξ = z / 2 ^ k and η = w / 2 ^ k: their values as integers over one denominator

-- the k of a family's multiples
abbrev pub grain_of : ℕ → ℕ
grain_of family = by_family family 12 20

-- 1, as an integer over 2 ^ k
abbrev pub unit : ℕ → ℤ
unit family = pos (2 ^ grain_of family)

-- the denominator is 2 ^ 42 = 4 * 2 ^ 20 * 2 ^ 20 in family 4, and 2 ^ 50 = 2 ^ 25 * 2 ^ 25 in family 9
abbrev pub digits_of : ℕ → ℕ
digits_of family = by_family family 50 42

-- family 4: (1 ± ξ) * (1 ± η) / 4, by the "node signs (-,-), (+,-), (+,+), (-,+)"
abbrev pub bilinear : ℤ → ℤ → List ℤ
bilinear z w =
    ((unit 4 -ℤ z) *ℤ (unit 4 -ℤ w)) ∷
    ((unit 4 +ℤ z) *ℤ (unit 4 -ℤ w)) ∷
    ((unit 4 +ℤ z) *ℤ (unit 4 +ℤ w)) ∷
    ((unit 4 -ℤ z) *ℤ (unit 4 +ℤ w)) ∷ []

-- family 9: the quadratic Lagrange polynomials ξ * (ξ - 1) / 2, 1 - ξ * ξ and ξ * (ξ + 1) / 2, over 2 ^ 25 = 2 * 2 ^ 12 * 2 ^ 12; they are 1 at -1, at 0 and at 1
abbrev pub low : ℤ → ℤ
low z = z *ℤ (z -ℤ unit 9)

abbrev pub mid : ℤ → ℤ
mid z = pos 2 *ℤ (unit 9 *ℤ unit 9 -ℤ z *ℤ z)

abbrev pub high : ℤ → ℤ
high z = z *ℤ (z +ℤ unit 9)

-- and their products: four corners, four midsides, centre
abbrev pub biquadratic : ℤ → ℤ → List ℤ
biquadratic z w =
    (low z *ℤ low w) ∷ (high z *ℤ low w) ∷ (high z *ℤ high w) ∷ (low z *ℤ high w) ∷
    (mid z *ℤ low w) ∷ (high z *ℤ mid w) ∷ (mid z *ℤ high w) ∷ (low z *ℤ mid w) ∷
    (mid z *ℤ mid w) ∷ []

-- ---- the statement

-- of the local node j: N, and the value of its polynomial
abbrev pub N : ℕ → Float → Float → ℕ → Float
N family ξ η j = get_or (shape_of family ξ η) j nan

abbrev pub value_of : ℕ → ℤ → ℤ → ℕ → ℤ
value_of family z w j = get_or (by_family family (biquadratic z w) (bilinear z w)) j (pos 0)

-- start + f 0 + f 1 + .. + f (n - 1), added from the left
abbrev pub added : {A : Type 0} → (A → A → A) → A → (ℕ → A) → ℕ → A
added plus start f zero = start
added plus start f (suc n) = plus (added plus start f n) (f n)

-- each N is the exact polynomial value; these values total exactly 1; and the N, added as floats in local node order, total 1
pub record ExactAt (family : ℕ) (ξ η : Float) (z w : ℤ) : Type 0 where
  pub each : (j : ℕ) → j < nodes_of family → Exactly (N family ξ η j) (digits_of family) (value_of family z w j)
  pub total : added ◌+ℤ◌ (pos 0) (value_of family z w) (nodes_of family) ≡ pos (2 ^ digits_of family)
  pub float_total : added ◌⊕◌ plus0 (N family ξ η) (nodes_of family) ≡ one

-- proved for 4 and for 9
abbrev pub ExactCases : ℕ → Type 0
ExactCases family = (ξ η : Float) (z w : ℤ) → Multiple (grain_of family) ξ z → Multiple (grain_of family) η w → ExactAt family ξ η z w
