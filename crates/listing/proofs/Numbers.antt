-- A number's text by its last digit and the text before it in decimal, and by its last byte's two digits and the text before them in hexadecimal.
-- In decimal, more digits allowed than the number has change nothing, so std's text of a number is the definition's. In hexadecimal, hex's text of a number's bytes is the definition's. Assumes nothing.
use Rattle.std.proofs.Common.{◌≡◌, refl, List, [], ◌∷◌, ◌++◌, ℕ, zero, suc, ◌*◌, ◌/◌, ◌%◌, ◌^◌, ◌≤◌, ◌<◌, Bool, true, ◌&&◌, eqb, ap, ◌∙◌, inl, inr, slice_index, arith}
use Rattle.std.proofs.Math.Nat.{pow-succ', div-div-eq-div-mul}
use Rattle.std.proofs.lemmas.Bool.{and_parts, cases_lt, eqb-true}
use lib.Seq.{append_snoc}
use Rattle.std.specs.Int.{byte_at, bytes_high_first}
use Rattle.hex.specs.Hex.{lower_digits, encode_with}
use native.Mathlib.Nat.{not-suc-le-zero}
use native.Mathlib.Decide.{dec_lt}
use borrow.Author.Tests.{lt-ltb, le-ltb}
use Rattle.std.specs.Fmt.{decimal as std_decimal}
use Rattle.std.proofs.lemmas.Fmt.{decimal_by_steps}
use Rattle.definition.specs.Job.{glyph, digits, decimal_from, decimal}

-- ---- a number in decimal

from_one : (k n : ℕ) → n < 10 → decimal_from (suc k) n ≡ glyph n ∷ []
unfolding decimal_from
from_one k n h = simp (lt-ltb n 10 h, decimal_from)

from_more : (k n : ℕ) → 10 ≤ n → decimal_from (suc k) n ≡ decimal_from k (n / 10) ++ glyph (n % 10) ∷ []
unfolding decimal_from
from_more k n h = rw (le-ltb n 10 h, decimal_from)

from_same : (j k n : ℕ) → n < j → n < k → decimal_from j n ≡ decimal_from k n
from_same zero k n h i = absurd (not-suc-le-zero h)
from_same (suc j) zero n h i = absurd (not-suc-le-zero i)
from_same (suc j) (suc k) n h i =
    elim (dec_lt n 10) [
      | yes l ↦ rw (from_one j n l, from_one k n l)
      | no l ↦ rw (from_more j n (omega arith), from_more k n (omega arith), from_same j k (n / 10) (omega arith) (omega arith))
    ]

pub decimal_one : (n : ℕ) → n < 10 → decimal n ≡ glyph n ∷ []
unfolding decimal
decimal_one n h = from_one n n h

pub decimal_more : (n : ℕ) → 10 ≤ n → decimal n ≡ decimal (n / 10) ++ glyph (n % 10) ∷ []
unfolding decimal
decimal_more n h = rw (from_more n n h, from_same n (suc (n / 10)) (n / 10) (omega arith) (omega arith))

-- std's text of a number
pub decimal_text : (n : ℕ) → n < 2 ^ 64 → std_decimal n ≡ decimal n
decimal_text n h =
    decimal_by_steps (λ m text. text ≡ decimal m)
    (λ m l. rw (decimal_one m l, lt-ltb m 10 l))
    (λ m text l e. let r : m % 10 < 10 = omega arith in rw (decimal_more m l, e, lt-ltb (m % 10) 10 r))
    n h

-- ---- a number by its bytes' hexadecimal digits

-- the digits' table is the definition's, at its first n places
abbrev same_glyphs : ℕ → Bool
same_glyphs zero = true
same_glyphs (suc n) = eqb (slice_index lower_digits n) (glyph n) && same_glyphs n

glyph_at : (n d : ℕ) → same_glyphs n ≡ true → d < n → slice_index lower_digits d ≡ glyph d
glyph_at zero d h l = absurd (not-suc-le-zero l)
glyph_at (suc n) d h l =
    let parts = and_parts (eqb (slice_index lower_digits n) (glyph n)) (same_glyphs n) h in
    elim (cases_lt d n) [
      | inl below ↦ glyph_at n d parts.1 below
      | inr top ↦ let e : d ≡ n = omega arith in rw e (eqb-true (slice_index lower_digits n) (glyph n) parts.0)
    ]

-- hex's digit is the definition's
lower_glyph : (d : ℕ) → d < 16 → slice_index lower_digits d ≡ glyph d
lower_glyph d l = glyph_at 16 d refl l

-- the last byte after those before it
byte_next : (k n : ℕ) → byte_at (suc k) n ≡ byte_at k (n / 256)
byte_next zero n = refl
byte_next (suc k) n =
    let wider : 256 ^ suc (suc k) ≡ 256 * 256 ^ suc k = pow-succ' 256 (suc k) in
    rw (wider, div-div-eq-div-mul n 256 (256 ^ suc k)) refl

bytes_last : (k n : ℕ) → bytes_high_first (suc k) n ≡ bytes_high_first k (n / 256) ++ n % 256 ∷ []
bytes_last zero n = refl
bytes_last (suc k) n = rw (byte_next k n, bytes_last k n) refl

-- hex's text of two lists one after the other, and of one byte
encode_append : (t xs ys : List ℕ) → encode_with t (xs ++ ys) ≡ encode_with t xs ++ encode_with t ys
unfolding encode_with
encode_append t [] ys = refl
encode_append t (x ∷ xs) ys = rw (encode_append t xs ys) refl

encode_one : (b : ℕ) → encode_with lower_digits (b ∷ []) ≡ slice_index lower_digits (b / 16) ∷ slice_index lower_digits (b % 16) ∷ []
unfolding encode_with
encode_one b = refl

-- a byte's two digits after those before it
digits_two : (k n : ℕ) → digits 16 (suc (suc k)) n ≡ digits 16 k (n / 256) ++ glyph (n / 16 % 16) ∷ glyph (n % 16) ∷ []
unfolding digits
digits_two k n =
    let byte : n / 16 / 16 ≡ n / 256 = omega arith in
    rw (byte, append_snoc) refl

-- hex's text of the last k bytes of a number, the highest first, is its last 2 k digits
pub bytes_text : (k n : ℕ) → encode_with lower_digits (bytes_high_first k n) ≡ digits 16 (2 * k) n
unfolding digits encode_with
bytes_text zero n = refl
bytes_text (suc k) n =
    let two : 2 * suc k ≡ suc (suc (2 * k)) = omega arith in
    let high : n % 256 / 16 ≡ n / 16 % 16 = omega arith in
    let low : n % 256 % 16 ≡ n % 16 = omega arith in
    let h : n / 16 % 16 < 16 = omega arith in
    let l : n % 16 < 16 = omega arith in
    let byte : encode_with lower_digits (n % 256 ∷ []) ≡ glyph (n / 16 % 16) ∷ glyph (n % 16) ∷ [] = encode_one (n % 256) ∙ rw (high, low, lower_glyph (n / 16 % 16) h, lower_glyph (n % 16) l) refl in
    ap (encode_with lower_digits) (bytes_last k n)
    ∙ encode_append lower_digits (bytes_high_first k (n / 256)) (n % 256 ∷ [])
    ∙ rw (two, digits_two (2 * k) n, ← bytes_text k (n / 256), byte) refl
