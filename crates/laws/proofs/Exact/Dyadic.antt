-- `Dyadic x k d b`: x is exactly d / 2 ^ k, and |d| is at most b. Sums, differences and products of such numbers are such numbers while the bound of the result stays below 2 ^ 53:
-- the result is then an integer of at most 53 binary digits over a power of two, and `round` keeps it as it is. Assumes nothing.
use mathlib.Core.Path.{◌≡◌, refl, ap, ◌∙◌}
use mathlib.Core.Bool.{Bool, true, false, not, ◌&&◌, beq, cond}
use Prim.Native.Nat.{ℕ, zero, suc, ◌+◌, ◌-◌, ◌*◌, ◌^◌, ◌≤◌, ◌<◌}
use native.Mathlib.Nat.{le_refl, le_of_lt, lt_of_lt_of_le, add-le-add, zero-mul, mul_comm, mul_assoc, mul-sub, mul-pos, mul-le-mul, mul-le-mul_right, le_of_mul-le-mul_right, eq_of_mul-eq-mul_right, pow-succ'}
use native.Mathlib.Omega.{arith}
use lib.Dec.{T, leb, ltb, ltb→lt, lt→ltb, nltb→le, lit<, lit≤}
use lib.IntN.{ℤ, pos, negsuc, neg_ℤ, nat_abs, ◌+ℤ◌, ◌-ℤ◌, ◌*ℤ◌}
use lib.Pow.{pow_pos, pow-add, pow_mono, shl_lt}
use lib.Ieee.{Float, nan, inf, fin, binary64, up, down, unlike, round, neg, sum, add, sub, mul, fits}
use lib.Ieee.Fits.{down_pos, add-fits}
use lib.Ieee.Exact.{HasValue, round_exact}
use lib.Ieee.Scale.{round_same}
use lib.Ieee.Back.{whole_unique}
use Rattle.definition.specs.Binary64.{◌⊕◌, ◌⊖◌, ◌⊗◌, plus0, one}
use Rattle.definition.proofs.Root.Units.{pow_split}
use Rattle.laws.specs.ExactCases.{signed, Exactly, Multiple, added}
use Rattle.laws.proofs.Exact.Integers.{Minus, Signed, same, whole, ◌⊞◌, ◌⊠◌, signed_parts, signed_opposite, signed_product, signed_magnitude}

pub record Dyadic (x : Float) (k : ℕ) (d : ℤ) (b : ℕ) : Type 0 where
  pub exact : Exactly x k d
  pub small : exact.n ≤ b

pub bounded : {x : Float} {k : ℕ} {d : ℤ} {b : ℕ} → nat_abs d ≤ b → Exactly x k d → Dyadic x k d b
bounded h f = record { exact = f; small = rw (f.integer, signed_magnitude) at h }

pub multiple : {x : Float} {k : ℕ} {z : ℤ} → Multiple k x z → Dyadic x k z (2 ^ k)
multiple f = bounded f.within f.exact

pub parts : {x : Float} {k : ℕ} {d : ℤ} (f : Exactly x k d) → Signed f.minus f.n d
parts f = rw f.integer (signed_parts f.minus f.n)

-- ---- fractions: a / c is q / 2 ^ k
record Ratio (a c q k : ℕ) : Type 0 where
  is : a * 2 ^ k ≡ q * c

ratio_mul : {a b c e q r k l : ℕ} → Ratio a c q k → Ratio b e r l → Ratio (a * b) (c * e) (q * r) (k + l)
ratio_mul {b = b} {c} {q = q} {l = l} f g = record { is = rw pow-add (omega (arith, ap (λ (n : ℕ). n * (b * 2 ^ l)) f.is, ap (λ (n : ℕ). q * c * n) g.is)) }

module _ {a b c q r k : ℕ} (f : Ratio a c q k) (g : Ratio b c r k) where
  ratio_sub : Ratio (a - b) c (q - r) k
  ratio_sub = record { is = rw (mul_comm (a - b), mul-sub, mul_comm (q - r), mul-sub, mul_comm (2 ^ k) a, mul_comm (2 ^ k) b, f.is, g.is, mul_comm c q, mul_comm c r) }

  ratio_le : 0 < c → a ≤ b → q ≤ r
  ratio_le C h = le_of_mul-le-mul_right {k = c} (rw (← f.is, ← g.is) (mul-le-mul_right (2 ^ k) h)) C

-- where a / c is q / 2 ^ k with a q of at most 53 digits, `round` keeps ±a / c
round_keeps : (s : Bool) {a c q k b : ℕ} {d : ℤ} → 0 < c → q ≤ b → b < 2 ^ 53 → k ≤ 1074 → Ratio a c q k → d ≡ signed s q → Dyadic (round binary64 s a c) k d b
round_keeps s {a} {c} {q} {k} {b} {d} C h B K f i =
    let small : q < 2 ^ 53 = omega arith in
    let under = lt_of_lt_of_le (shl_lt 53 (1074 - k) small) (pow_mono {i = 53 + (1074 - k)} {j = 2098} (omega arith)) in
    rw (round_same binary64 s a c q (2 ^ k) C (pow_pos k) f.is)
    (opened (round binary64 s q (2 ^ k)) (round_exact binary64 s q (2 ^ k) q (1074 - k) (pow_pos k) small under (rw (mul_assoc, pow_split 1074 k K))))
  where
    opened : (x : Float) → HasValue x s q (2 ^ k) → Dyadic x k d b
    opened nan v = absurd v
    opened (inf t) v = absurd v
    opened (fin t m e) v = record { exact = record { minus = s; m = m; e = e; n = q; float = ap (λ (t : Bool). fin t m e) v.0; integer = i; equal = v.1 }; small = h }

-- ---- products and sums
pub dyadic-⊗ : {x y : Float} {k l : ℕ} {d e : ℤ} {a b : ℕ} → T (ltb (a * b) (2 ^ 53)) → T (leb (k + l) 1074) → Dyadic x k d a → Dyadic y l e b → Dyadic (x ⊗ y) (k + l) (d *ℤ e) (a * b)
unfolding mul
dyadic-⊗ h i f g =
    let u = f.exact in
    let v = g.exact in
    let integer = signed_product u.minus v.minus u.n v.n (parts u) (parts v) in
    rw (u.float, v.float)
    (round_keeps (unlike u.minus v.minus) (mul-pos (down_pos u.e) (down_pos v.e)) (mul-le-mul f.small g.small) (lit< h) (lit≤ i) (ratio_mul (record { is = u.equal }) (record { is = v.equal })) integer)

-- ±a / c and ±b / c added, by each way that `sum` goes: by the signs, by whether a < b (x) and whether b < a (y)
dyadic_sum : (s t : Bool) {a b c q r k l : ℕ} {d e : ℤ} → 0 < c → q + r ≤ l → l < 2 ^ 53 → k ≤ 1074 → Ratio a c q k → Ratio b c r k → Signed s q d → Signed t r e → Dyadic (sum binary64 s a t b c) k (d +ℤ e) l
unfolding sum
dyadic_sum s t {a} {b} {c} {q} {r} {k} {l} {d} {e} C h L K f g u v =
    go s t (ltb a b) (ltb b a) (λ i. ratio_le f g C (le_of_lt (ltb→lt a b i))) (λ i. ratio_le g f C (nltb→le a b i)) (λ i. ratio_le f g C (nltb→le b a i)) u v
  where
    made : (s : Bool) {a m p n : ℕ} → Ratio a c m k → Minus (d +ℤ e) p n → (m ≤ l) × (p + cond s 1 0 * m ≡ cond s 0 1 * m + n) → Dyadic (round binary64 s a c) k (d +ℤ e) l
    made s {m = m} f w i = round_keeps s C i.0 L K f (same w (signed_parts s m) i.1)

    go : (s t x y : Bool) → (T x → q ≤ r) → (T (not x) → r ≤ q) → (T (not y) → q ≤ r) → Signed s q d → Signed t r e
        → Dyadic (cond (beq s t) (round binary64 s (a + b) c) (cond x (round binary64 t (b - a) c) (round binary64 (s && y) (a - b) c))) k (d +ℤ e) l
    go false false x y _ _ _ u v = made false {a = a + b} {m = q + r} (omega arith) (u ⊞ v) (omega arith)
    go true true x y _ _ _ u v = made true {a = a + b} {m = q + r} (omega arith) (u ⊞ v) (omega arith)
    go false true true y i _ _ u v = let z = i tt in made true (ratio_sub g f) (u ⊞ v) (omega arith)
    go false true false y _ i _ u v = let z = i tt in made false (ratio_sub f g) (u ⊞ v) (omega arith)
    go true false true y i _ _ u v = let z = i tt in made false (ratio_sub g f) (u ⊞ v) (omega arith)
    go true false false true _ i _ u v = let z = i tt in made true (ratio_sub f g) (u ⊞ v) (omega arith)
    go true false false false _ i j u v = let z = i tt in let y = j tt in made false (ratio_sub f g) (u ⊞ v) (omega arith)

pub dyadic-⊕ : {x y : Float} {k : ℕ} {d e : ℤ} {a b : ℕ} → T (ltb (a + b) (2 ^ 53)) → T (leb k 1074) → Dyadic x k d a → Dyadic y k e b → Dyadic (x ⊕ y) k (d +ℤ e) (a + b)
unfolding add
dyadic-⊕ h i f g =
    let u = f.exact in
    let v = g.exact in
    rw (u.float, v.float)
    (dyadic_sum u.minus v.minus (mul-pos (down_pos u.e) (down_pos v.e)) (add-le-add f.small g.small) (lit< h) (lit≤ i)
    (record { is = omega (arith, ap (λ (n : ℕ). n * down v.e) u.equal) }) (record { is = omega (arith, ap (λ (n : ℕ). n * down u.e) v.equal) }) (parts u) (parts v))

pub dyadic-⊖ : {x y : Float} {k : ℕ} {d e : ℤ} {a b : ℕ} → T (ltb (a + b) (2 ^ 53)) → T (leb k 1074) → Dyadic x k d a → Dyadic y k e b → Dyadic (x ⊖ y) k (d -ℤ e) (a + b)
unfolding sub neg
dyadic-⊖ h i f g =
    let v = g.exact in
    let integer = ap neg_ℤ v.integer ∙ signed_opposite v.minus v.n in
    dyadic-⊕ h i f (record { exact = record { minus = not v.minus; m = v.m; e = v.e; n = v.n; float = ap neg v.float; integer = integer; equal = v.equal }; small = g.small })

-- ---- a constant; 1; the product with 1 / 2 ^ (j + 1); the same number over the next denominator
constant : (m : ℕ) (e : ℤ) (k : ℕ) {n : ℕ} → m * up e * 2 ^ k ≡ n * down e → Dyadic (fin false m e) k (pos n) n
constant m e k {n} h = record { exact = record { minus = false; m = m; e = e; n = n; float = refl; integer = refl; equal = h }; small = le_refl n }

pub dyadic_one : (k : ℕ) → Dyadic one k (pos (2 ^ k)) (2 ^ k)
dyadic_one k = constant 1 (pos 0) k (mul_comm 1 (2 ^ k))

pub dyadic_power : {x : Float} {k : ℕ} {d : ℤ} {b : ℕ} (j : ℕ) → T (ltb (1 * b) (2 ^ 53)) → T (leb (suc j + k) 1074) → Dyadic x k d b → Dyadic (fin false 1 (negsuc j) ⊗ x) (suc j + k) d (1 * b)
dyadic_power j h i f = let p = parts f.exact in rw (same (whole 1 ⊠ p) p (omega arith)) at (dyadic-⊗ h i (constant 1 (negsuc j) (suc j) refl) f)

pub doubled : {x : Float} {k : ℕ} {d : ℤ} {b : ℕ} → Dyadic x k d b → Dyadic x (suc k) (pos 2 *ℤ d) (2 * b)
doubled {k = k} f =
    let u = f.exact in
    let integer = same (whole 2 ⊠ parts u) (signed_parts u.minus (2 * u.n)) (omega arith) in
    let equal : u.m * up u.e * 2 ^ suc k ≡ 2 * u.n * down u.e = rw (pow-succ' 2 k) (omega (arith, u.equal)) in
    record { exact = record { minus = u.minus; m = u.m; e = u.e; n = 2 * u.n; float = u.float; integer = integer; equal = equal }; small = mul-le-mul (le_refl 2) f.small }

-- ---- a value of binary64 that is exactly 1 is the float 1; so is a sum, begun at +0, of numbers that total 1
exactly_one : {x : Float} {k : ℕ} → T (fits binary64 x) → Exactly x k (pos (2 ^ k)) → x ≡ one
exactly_one {x} {k} t f = go f.minus f.float (parts f)
  where
    go : (s : Bool) → x ≡ fin s f.m f.e → Signed s f.n (pos (2 ^ k)) → x ≡ one
    go true _ p = absurd (omega (arith, pow_pos k))
    go false v p =
        let equal = eq_of_mul-eq-mul_right (2 ^ k) (pow_pos k) (f.m * up f.e * 1) (1 * down f.e) (omega (arith, f.equal, ap (λ (n : ℕ). n * down f.e) p.is)) in
        whole_unique binary64 x one false 1 t (unfold fits in tt) (rw v (refl, equal)) (refl, refl)

module _ {f : ℕ → Float} {d : ℕ → ℤ} {b : ℕ → ℕ} {k : ℕ} (i : T (leb k 1074)) where
  dyadic_added : (n : ℕ) → ((j : ℕ) → j < n → Dyadic (f j) k (d j) (b j)) → added ◌+◌ 0 b n < 2 ^ 53 → Dyadic (added ◌⊕◌ plus0 f n) k (added ◌+ℤ◌ (pos 0) d n) (added ◌+◌ 0 b n)
  dyadic_added zero g h = constant 0 (pos 0) k (zero-mul (2 ^ k))
  dyadic_added (suc n) g h = dyadic-⊕ (lt→ltb _ _ h) i (dyadic_added n (λ j l. g j (omega arith)) (omega arith)) (g n (le_refl (suc n)))

  pub total_one : (n : ℕ) → ((j : ℕ) → j < n → Dyadic (f j) k (d j) (b j)) → added ◌+◌ 0 b n < 2 ^ 53 → added ◌+ℤ◌ (pos 0) d n ≡ pos (2 ^ k) → added ◌⊕◌ plus0 f n ≡ one
  total_one zero g h t = absurd (omega (arith, pow_pos k, ap nat_abs t))
  total_one (suc n) g h t = exactly_one (add-fits binary64 (added ◌⊕◌ plus0 f n) (f n)) (rw t at (dyadic_added (suc n) g h).exact)
