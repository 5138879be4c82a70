-- Integers as differences p - m of natural numbers: the parts of a sum and of a product are polynomials in the parts, so that an equation of integers becomes one of natural numbers, for `omega`.
-- From that, the sign and the magnitude of a product. Assumes nothing.
use mathlib.Core.Path.{◌≡◌, refl, ap}
use mathlib.Core.Bool.{Bool, true, false, not, cond}
use Prim.Native.Nat.{ℕ, zero, suc, ◌+◌, ◌-◌, ◌*◌, ◌≤◌, ◌<◌}
use native.Mathlib.Omega.{arith}
use lib.Dec.{T, ltb, ltb→lt, nltb→le}
use lib.IntN.{ℤ, pos, negsuc, neg_ℤ, neg_ℤ-neg_ℤ, nat_abs, sub_ℕ, ◌+ℤ◌, ◌-ℤ◌, ◌*ℤ◌}
use lib.Ieee.{unlike}
use Rattle.laws.specs.ExactCases.{signed}

-- d is p - m
abbrev pub IsMinus : ℤ → ℕ → ℕ → Type 0
IsMinus (pos n) p m = n + m ≡ p
IsMinus (negsuc n) p m = suc n + p ≡ m

pub record Minus (d : ℤ) (p m : ℕ) : Type 0 where
  pub is : IsMinus d p m

-- d is q with the sign s
abbrev pub Signed : Bool → ℕ → ℤ → Type 0
Signed s q d = Minus d (cond s 0 1 * q) (cond s 1 0 * q)

-- p - m and q - n are equal where p + n ≡ q + m
pub same : {d e : ℤ} {p m q n : ℕ} → Minus d p m → Minus e q n → p + n ≡ q + m → d ≡ e
same {d = pos a} {e = pos b} f g h = ap pos (omega arith)
same {d = pos a} {e = negsuc b} f g h = absurd (omega arith)
same {d = negsuc a} {e = pos b} f g h = absurd (omega arith)
same {d = negsuc a} {e = negsuc b} f g h = ap negsuc (omega arith)

-- ---- the parts of n, of -d, and of sums, differences and products
pub whole : (n : ℕ) → Minus (pos n) n 0
whole n = omega arith

opposite : {d : ℤ} {p m : ℕ} → Minus d p m → Minus (neg_ℤ d) m p
opposite {d = pos zero} f = omega arith
opposite {d = pos (suc n)} f = omega arith
opposite {d = negsuc n} f = omega arith

apart : (a b : ℕ) {p m : ℕ} → a + m ≡ b + p → Minus (sub_ℕ a b) p m
apart a b {p} {m} h = go (ltb a b) (ltb→lt a b) (nltb→le a b)
  where
    go : (c : Bool) → (T c → a < b) → (T (not c) → b ≤ a) → Minus (cond c (negsuc (b - suc a)) (pos (a - b))) p m
    go true l u = let v = l tt in omega arith
    go false l u = let v = u tt in omega arith

infixl 6 ◌⊞◌
infixl 6 ◌⊟◌
infixl 7 ◌⊠◌
pub ◌⊞◌ : {d e : ℤ} {p m q n : ℕ} → Minus d p m → Minus e q n → Minus (d +ℤ e) (p + q) (m + n)
◌⊞◌ {d = pos a} {e = pos b} f g = omega arith
◌⊞◌ {d = pos a} {e = negsuc b} f g = apart a (suc b) (omega arith)
◌⊞◌ {d = negsuc a} {e = pos b} f g = apart b (suc a) (omega arith)
◌⊞◌ {d = negsuc a} {e = negsuc b} f g = omega arith

pub ◌⊟◌ : {d e : ℤ} {p m q n : ℕ} → Minus d p m → Minus e q n → Minus (d -ℤ e) (p + n) (m + q)
f ⊟ g = f ⊞ opposite g

pub ◌⊠◌ : {d e : ℤ} {p m q n : ℕ} → Minus d p m → Minus e q n → Minus (d *ℤ e) (p * q + m * n) (p * n + m * q)
◌⊠◌ {d = pos a} {e = pos b} f g = rw (← f.is, ← g.is) (omega arith)
◌⊠◌ {d = pos a} {e = negsuc b} f g = rw (← f.is, ← g.is) (opposite {d = pos (a * suc b)} (omega arith))
◌⊠◌ {d = negsuc a} {e = pos b} f g = rw (← f.is, ← g.is) (opposite {d = pos (suc a * b)} (omega arith))
◌⊠◌ {d = negsuc a} {e = negsuc b} f g = rw (← f.is, ← g.is) (omega arith)

-- ---- signs and magnitudes
pub signed_parts : (s : Bool) (q : ℕ) → Signed s q (signed s q)
signed_parts false q = omega arith
signed_parts true q = opposite {d = pos q} (omega arith)

pub signed_opposite : (s : Bool) (q : ℕ) → neg_ℤ (signed s q) ≡ signed (not s) q
signed_opposite false q = refl
signed_opposite true q = neg_ℤ-neg_ℤ (pos q)

pub signed_product : {d e : ℤ} (s t : Bool) (q r : ℕ) → Signed s q d → Signed t r e → d *ℤ e ≡ signed (unlike s t) (q * r)
signed_product false false q r f g = same (f ⊠ g) (signed_parts false (q * r)) (omega arith)
signed_product false true q r f g = same (f ⊠ g) (signed_parts true (q * r)) (omega arith)
signed_product true false q r f g = same (f ⊠ g) (signed_parts true (q * r)) (omega arith)
signed_product true true q r f g = same (f ⊠ g) (signed_parts false (q * r)) (omega arith)

pub signed_magnitude : (s : Bool) (q : ℕ) → nat_abs (signed s q) ≡ q
signed_magnitude false q = refl
signed_magnitude true zero = refl
signed_magnitude true (suc q) = refl

pub magnitude_product : (d e : ℤ) → nat_abs (d *ℤ e) ≡ nat_abs d * nat_abs e
magnitude_product (pos a) (pos b) = refl
magnitude_product (pos a) (negsuc b) = signed_magnitude true (a * suc b)
magnitude_product (negsuc a) (pos b) = signed_magnitude true (suc a * b)
magnitude_product (negsuc a) (negsuc b) = refl

pub magnitude_is : {d : ℤ} {p m : ℕ} → Minus d p m → nat_abs d ≡ (p - m) + (m - p)
magnitude_is {d = pos n} f = omega arith
magnitude_is {d = negsuc n} f = omega arith
