-- `root_of x` is the root of x, and no other value is: above zero it is the nearest to the root and none is as near, since what `root_units` computes is the root's 53 leading digits, rounded.
-- So it fits, it keeps the order, and of a value whose sign is clear it has a clear sign and is a NaN only where that is one. Assumes nothing.
pub mod Isqrt
pub mod Units
pub mod Near
pub mod Scaled
pub mod Order
use mathlib.Core.Path.{◌≡◌, refl}
use mathlib.Core.Bool.{Bool, true, false, not}
use Prim.Native.Nat.{ℕ, zero, suc, ◌+◌, ◌*◌, ◌/◌, ◌^◌, ◌≤◌, ◌<◌}
use native.Mathlib.Nat.{le_of_lt, mul-pos, lt_of_mul-lt-mul_right}
use native.Mathlib.Omega.{arith}
use lib.IntN.{ℤ}
use lib.Dec.{T, not_T}
use lib.Pow.{pow_pos}
use lib.Ieee.{Float, nan, inf, fin, binary64, fits, is_nan, of_bits, lt, le}
use lib.Ieee.Bits.{of_bits-fits, is_false}
use lib.Ieee.Fits.{nan-fits}
use Rattle.std.proofs.lemmas.Float.{le_of_not-lt, lt_irrefl, lt_of_le_of_lt}
use Rattle.definition.specs.Root.{in_units, plain, Held, IsRoot, isqrt, root_units, root_of}
use Isqrt.{Whole, isqrt_whole}
use Units.{Counted, counted, above_zero, grain_held, of_value, significand_value, units_only}
use Near.{Nearer, near, nearer_only, nearer_no_tie}
use Scaled.{scaled, root_units_at, quad_lt, root_least, root_most}
use Order.{lt_units, zero_below, not_below_zero, inf_lt, lt_nan}

-- r is the nearest value to the root of n units, above 0, and no other is as near
pub record Nearest (n : ℕ) (r : Float) : Type 0 where
  pub held : Held r
  pub some : 0 < in_units r
  pub nearer : (y : Float) → Held y → Nearer (n * 2 ^ 1074) (in_units r) (in_units y)

root_units_nearest : (n : ℕ) → Counted n → 0 < n → Nearest n (root_units n)
root_units_nearest n c p =
    let z = scaled n c.grain p c.small in
    let h = z.0 in
    let A = z.1 in
    let s = isqrt 54 (A * 2 ^ 54) in
    let q = (s + 1) / 2 in
    let b = (h + 1) * 2 ^ 52 + q in
    let w : Whole s (A * 2 ^ 54) = isqrt_whole 54 (A * 2 ^ 54) (quad_lt A z.2.most) in
    let least : 2 ^ 53 ≤ s = root_least A s z.2.least w in
    let most : s < 2 ^ 54 = root_most A s z.2.most w in
    let v = of_value (of_bits binary64 b) (q * 2 ^ (h + 1)) (significand_value (h + 1) q (omega (arith, z.3)) (omega arith) (omega arith)) in
    rw (root_units_at n h A s z.2 w)
    (record {
      held = record { fitting = of_bits-fits binary64 b; plainly = v.0 };
      some = rw v.1 (mul-pos (omega arith) (pow_pos (h + 1)));
      nearer = λ y k. rw (v.1, z.2.split) (near h (A * 2 ^ 54) s w (omega arith) least (in_units y) (grain_held y k));
    })

pub root_nearest : (m : ℕ) (e : ℤ) → let x = fin false (suc m) e in T (fits binary64 x) → Nearest (in_units x) (root_of x)
unfolding root_of
root_nearest m e f = root_units_nearest (in_units (fin false (suc m) e)) (counted false (suc m) e f) (above_zero false m e f)

-- no other value is as near: the tie that IEEE 754 settles by the last bit never comes
pub root_no_tie : (m : ℕ) (e : ℤ) (y : Float) → let x = fin false (suc m) e in
    let r = root_of x in
    T (fits binary64 x) → Held y → (in_units y ≡ in_units r → ⊥) → (in_units r + in_units y) * (in_units r + in_units y) ≡ 4 * (in_units x * 2 ^ 1074) → ⊥
root_no_tie m e y f k d t = let x = fin false (suc m) e in nearer_no_tie (in_units x * 2 ^ 1074) (in_units (root_of x)) (in_units y) ((root_nearest m e f).nearer y k) d t

-- ---- `root_of x` has the property of the root, and no other value has it
pub root_is : (x : Float) → T (fits binary64 x) → IsRoot x (root_of x)
unfolding root_of
root_is nan f = refl
root_is (inf true) f = refl
root_is (inf false) f = refl
root_is (fin s zero e) f = refl
root_is (fin true (suc m) e) f = refl
root_is (fin false (suc m) e) f =
    let n = root_nearest m e f in
    record {
      held = n.held;
      nearest = λ y k. record { lower = λ l. le_of_lt ((n.nearer y k).lower l); upper = λ l. le_of_lt ((n.nearer y k).upper l); tie = λ d t. absurd (root_no_tie m e y f k d t) };
    }

pub root_only : (x r : Float) → T (fits binary64 x) → IsRoot x r → r ≡ root_of x
unfolding root_of
root_only nan r f h = h
root_only (inf true) r f h = h
root_only (inf false) r f h = h
root_only (fin s zero e) r f h = h
root_only (fin true (suc m) e) r f h = h
root_only (fin false (suc m) e) r f h =
    let x = fin false (suc m) e in
    let n = root_nearest m e f in
    let a = h.nearest (root_of x) n.held in
    units_only r (root_of x) h.held n.held (nearer_only (in_units x * 2 ^ 1074) (in_units (root_of x)) (in_units r) (n.nearer r h.held) a.lower a.upper)

pub root_fits : (x : Float) → T (fits binary64 x) → T (fits binary64 (root_of x))
unfolding root_of
root_fits nan f = f
root_fits (inf true) f = nan-fits binary64
root_fits (inf false) f = f
root_fits (fin s zero e) f = f
root_fits (fin true (suc m) e) f = nan-fits binary64
root_fits (fin false (suc m) e) f = (root_nearest m e f).held.fitting

-- ---- the sign is clear, or there is none
abbrev pub clear : Float → Bool
clear nan = true
clear (inf s) = not s
clear (fin s m e) = not s

plain_clear : (r : Float) → T (plain r) → T (clear r) × (is_nan r ≡ false)
unfolding is_nan
plain_clear nan p = absurd p
plain_clear (inf s) p = absurd p
plain_clear (fin s m e) p = (p, refl)

pub root_clear : (x : Float) → T (fits binary64 x) → T (clear x) → T (clear (root_of x))
unfolding root_of
root_clear nan f c = tt
root_clear (inf true) f c = tt
root_clear (inf false) f c = tt
root_clear (fin s zero e) f c = c
root_clear (fin true (suc m) e) f c = tt
root_clear (fin false (suc m) e) f c = (plain_clear (root_of (fin false (suc m) e)) (root_nearest m e f).held.plainly).0

pub root_nan : (x : Float) → T (fits binary64 x) → T (clear x) → is_nan (root_of x) ≡ is_nan x
unfolding root_of is_nan
root_nan nan f c = refl
root_nan (inf true) f c = absurd c
root_nan (inf false) f c = refl
root_nan (fin s zero e) f c = refl
root_nan (fin true (suc m) e) f c = absurd c
root_nan (fin false (suc m) e) f c = (plain_clear (root_of (fin false (suc m) e)) (root_nearest m e f).held.plainly).1

-- ---- the order
-- the middle of two roots that differ is above the root of the one value and below that of the other
plain_lt : (m : ℕ) (e : ℤ) (n : ℕ) (d : ℤ) → let x = fin false (suc m) e in
    let y = fin false (suc n) d in
    T (fits binary64 x) → T (fits binary64 y) → T (lt (root_of x) (root_of y)) → T (lt x y)
plain_lt m e n d f g h =
    let x = fin false (suc m) e in
    let y = fin false (suc n) d in
    let a = root_nearest m e f in
    let b = root_nearest n d g in
    let l = (lt_units (root_of x) (root_of y) a.held b.held).0 h in
    (lt_units x y (record { fitting = f; plainly = tt }) (record { fitting = g; plainly = tt })).1
    (lt_of_mul-lt-mul_right (2 ^ 1074) (between (in_units x * 2 ^ 1074) (in_units y * 2 ^ 1074) (in_units (root_of x)) (in_units (root_of y)) ((a.nearer (root_of y) b.held).upper l) ((b.nearer (root_of x) a.held).lower l)))
  where
    between : (M N r q : ℕ) → 4 * M < (r + q) * (r + q) → (q + r) * (q + r) < 4 * N → M < N
    between M N r q u v = omega arith

-- roots in order are of values in order
pub root_lt : (x y : Float) → T (fits binary64 x) → T (fits binary64 y) → T (lt (root_of x) (root_of y)) → T (lt x y)
unfolding root_of lt
root_lt nan y f g h = absurd h
root_lt (inf true) y f g h = absurd h
root_lt (inf false) y f g h = absurd (rw inf_lt at h)
root_lt (fin true (suc m) e) y f g h = absurd h
root_lt (fin s zero e) nan f g h = h
root_lt (fin s zero e) (inf true) f g h = absurd h
root_lt (fin s zero e) (inf false) f g h = h
root_lt (fin s zero e) (fin t zero d) f g h = h
root_lt (fin s zero e) (fin true (suc n) d) f g h = absurd h
root_lt (fin s zero e) (fin false (suc n) d) f g h = zero_below s e n d
root_lt (fin false (suc m) e) nan f g h = absurd (rw lt_nan at h)
root_lt (fin false (suc m) e) (inf true) f g h = absurd (rw lt_nan at h)
root_lt (fin false (suc m) e) (inf false) f g h = tt
root_lt (fin false (suc m) e) (fin t zero d) f g h = absurd (not_below_zero (root_of (fin false (suc m) e)) t d (root_nearest m e f).held.plainly h)
root_lt (fin false (suc m) e) (fin true (suc n) d) f g h = absurd (rw lt_nan at h)
root_lt (fin false (suc m) e) (fin false (suc n) d) f g h = plain_lt m e n d f g h

-- where x is not below y, neither is its root
pub root_not_lt : (x y : Float) → T (fits binary64 x) → T (fits binary64 y) → (T (lt x y) → ⊥) → T (lt (root_of x) (root_of y)) → ⊥
root_not_lt x y f g n h = n (root_lt x y f g h)

pub root_not_smaller : (x y : Float) → T (fits binary64 x) → T (fits binary64 y) → lt x y ≡ false → lt (root_of x) (root_of y) ≡ false
root_not_smaller x y f g h = is_false (lt (root_of x) (root_of y)) (not_T (lt (root_of x) (root_of y)) (root_not_lt x y f g (λ t. rw h at t)))

-- the root of the lesser is the lesser, where both roots are numbers
pub root_le : (x y : Float) → T (fits binary64 x) → T (fits binary64 y) → T (not (is_nan (root_of x))) → T (not (is_nan (root_of y))) → T (le x y) → T (le (root_of x) (root_of y))
root_le x y f g p q h = le_of_not-lt (root_of y) (root_of x) q p (not_T (lt (root_of y) (root_of x)) (λ k. lt_irrefl x (lt_of_le_of_lt x y x h (root_lt y x g f k))))
