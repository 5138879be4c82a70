-- `root::root` meets its contract: what passes the first test is infinity or a finite value above zero, whose pattern is below infinity's; what passes the second is a zero; and what is left is below zero or a NaN.
use mathlib.Core.Path.{◌≡◌, refl, sym, ap, ◌∙◌}
use mathlib.Core.Bool.{Bool, true, false, true≢false, false≢true}
use mathlib.Core.Logic.{inl, inr}
use Prim.Native.Nat.{ℕ, zero, suc, ◌*◌, ◌^◌, ◌<◌}
use native.Mathlib.Nat.{eq-zero-or-pos, mul-pos, zero-lt-suc, zero-mul}
use native.Mathlib.Omega.{arith}
use lib.IntN.{ℤ, pos}
use lib.Dec.{T}
use borrow.Author.Tests.{ltb-true, ne_eqb}
use lib.Ieee.{Float, nan, inf, fin, binary64, up, down, fits, of_bits, to_bits, lt, eq}
use lib.Ieee.Bits.{of_bits-to_bits}
use lib.Ieee.Digits.{size-le}
use lib.Ieee.Fits.{up_pos, kept-lt}
use Rattle.definition.specs.Root.{in_units, root_units, root_of}
use Rattle.definition.proofs.Root.Units.{counted, pattern}
use Rattle.definition.proofs.Root.Order.{zero_below}
use Rattle.root.proofs.root.Goals as goal

-- ---- above zero
data Above : Float → Type 0 where
  infinite : Above (inf false)
  finite : (m : ℕ) (e : ℤ) → Above (fin false (suc m) e)

above : (x : Float) → lt (of_bits binary64 0) x ≡ true → Above x
unfolding of_bits lt
above nan h = absurd (false≢true h)
above (inf true) h = absurd (false≢true h)
above (inf false) h = infinite
above (fin true m e) h = absurd (false≢true h)
above (fin false zero e) h = absurd (omega (arith, ltb-true))
above (fin false (suc m) e) h = finite m e

-- ---- the pattern
some : (x : Float) → T (fits binary64 x) → lt (of_bits binary64 0) x ≡ true → 0 < to_bits binary64 x
unfolding of_bits lt
some x f h = elim (eq-zero-or-pos (to_bits binary64 x)) [
  | inl z ↦ absurd (true≢false (sym h ∙ ap (lt (of_bits binary64 0)) (sym (of_bits-to_bits binary64 x f) ∙ ap (of_bits binary64) z)))
  | inr p ↦ p
]

below_infinity : (m : ℕ) (e : ℤ) → T (fits binary64 (fin false m e)) → to_bits binary64 (fin false m e) < 2047 * 2 ^ 52
below_infinity m e f = let n = in_units (fin false m e) in omega (arith, pattern (fin false m e) tt, size-le n 2098 (counted false m e f).small, kept-lt 53 n)

finite_pattern : {x : Float} → Above x → T (fits binary64 x) → lt x (of_bits binary64 (2047 * 2 ^ 52)) ≡ true → to_bits binary64 x < 2047 * 2 ^ 52
unfolding of_bits lt
finite_pattern infinite f h = absurd (false≢true h)
finite_pattern (finite m e) f h = below_infinity (suc m) e f

at_finite : {x : Float} → Above x → T (fits binary64 x) → lt x (of_bits binary64 (2047 * 2 ^ 52)) ≡ true → root_units (in_units (of_bits binary64 (to_bits binary64 x))) ≡ root_of x
unfolding root_of of_bits lt
at_finite infinite f h = absurd (false≢true h)
at_finite (finite m e) f h = ap (λ (y : Float). root_units (in_units y)) (of_bits-to_bits binary64 (fin false (suc m) e) f)

at_infinity : {x : Float} → Above x → lt x (of_bits binary64 (2047 * 2 ^ 52)) ≡ false → x ≡ root_of x
unfolding root_of of_bits lt
at_infinity infinite h = refl
at_infinity (finite m e) h = absurd (true≢false h)

-- ---- not above zero
at_zero : (x : Float) → eq x (of_bits binary64 0) ≡ true → x ≡ root_of x
unfolding of_bits eq root_of
at_zero nan h = refl
at_zero (inf s) h = absurd (false≢true h)
at_zero (fin s zero e) h = refl
at_zero (fin s (suc m) e) h = absurd (false≢true (rw (ne_eqb (suc m * up e * 1) (0 * down e) (λ q. omega (arith, mul-pos (zero-lt-suc m) (up_pos e)))) at h))

level_zero : (s : Bool) (e : ℤ) → eq (fin s zero e) (of_bits binary64 0) ≡ true
unfolding of_bits eq
level_zero true e = simp (zero-mul)
level_zero false e = simp (zero-mul)

at_rest : (x : Float) → lt (of_bits binary64 0) x ≡ false → eq x (of_bits binary64 0) ≡ false → of_bits binary64 0x7ff8_0000_0000_0000 ≡ root_of x
unfolding of_bits lt eq root_of
at_rest nan l h = refl
at_rest (inf true) l h = refl
at_rest (inf false) l h = absurd (true≢false l)
at_rest (fin s zero e) l h = absurd (true≢false (sym (level_zero s e) ∙ h))
at_rest (fin true (suc m) e) l h = refl
at_rest (fin false (suc m) e) l h = absurd (rw l at (zero_below false (pos 0) m e))

-- ---- the goals
pub positive_root-requires : goal.positive_root-requires
positive_root-requires c =
    let f : T (fits binary64 c.args.x) = rw c.well_formed.0.1 tt in (some c.args.x f c.if-x.true, finite_pattern (above c.args.x c.if-x.true) f c.if-x-2.true)

pub returns-then-x-2 : goal.returns-then-x-2
returns-then-x-2 c = c.positive_root.ensures ∙ at_finite (above c.args.x c.if-x.true) (rw c.well_formed.0.1 tt) c.if-x-2.true

pub returns-else-x-2 : goal.returns-else-x-2
returns-else-x-2 c = at_infinity (above c.args.x c.if-x.true) c.if-x-2.false

pub returns-then-x-3 : goal.returns-then-x-3
returns-then-x-3 c = at_zero c.args.x c.if-x-3.true

pub returns-else-x-3 : goal.returns-else-x-3
returns-else-x-3 c = at_rest c.args.x c.if-x.false c.if-x-3.false
