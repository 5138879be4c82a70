-- How long the listing's lines are at most: a decimal text by its number's power of ten, a float's by its 16 digits, and each line by its fields. Assumes nothing.
use mathlib.Core.Path.{◌≡◌, refl}
use mathlib.Core.Bool.{true, false, cond}
use Prim.Native.Nat.{ℕ, zero, suc, ◌*◌, ◌/◌, ◌^◌, ◌≤◌, ◌<◌}
use native.Mathlib.Nat.{le_refl, pow-suc}
use native.Mathlib.Decide.{dec_lt}
use native.Mathlib.Omega.{arith}
use lib.ListN.{length, length-append}
use lib.Ieee.{Float, binary64, is_nan, to_bits}
use Rattle.definition.specs.Job.{text, digits, decimal, hexadecimal, line, refusal_line, counts_line, point_line}
use Rattle.definition.specs.declared.QueryCounts.{QueryCounts}
use Rattle.definition.specs.declared.PointAnswer.{PointAnswer}
use Rattle.listing.proofs.Numbers.{decimal_one, decimal_more}

pub decimal_length : (k : ℕ) {n : ℕ} → n < 10 ^ suc k → length (decimal n) ≤ suc k
decimal_length zero h = rw (decimal_one _ h) (omega arith)
decimal_length (suc k) {n} h =
    elim (dec_lt n 10) [
      | yes l ↦ rw (decimal_one n l) (omega arith)
      | no l ↦
          let p : 10 ^ suc (suc k) ≡ 10 ^ suc k * 10 = pow-suc 10 (suc k) in
          let r : n / 10 < 10 ^ suc k = omega arith in
          rw (decimal_more n (omega arith), length-append) (omega (arith, decimal_length k r))
    ]

digits_length : (k n : ℕ) → length (digits 16 k n) ≡ k
unfolding digits
digits_length zero n = refl
digits_length (suc k) n = rw (length-append, digits_length k (n / 16)) (omega arith)

pub hexadecimal_length : (x : Float) → length (hexadecimal x) ≤ 16
unfolding hexadecimal
hexadecimal_length x =
    elim (is_nan x) as (λ b. length (cond b (text "nan") (digits 16 16 (to_bits binary64 x))) ≤ 16) [
      | true ↦ omega arith
      | false ↦ rw (digits_length 16 (to_bits binary64 x)) (le_refl 16)
    ]

pub refusal_length : {number place : ℕ} → number < 100 → place < 100000 → length (refusal_line number place) ≤ 17
unfolding line refusal_line
refusal_length h i = simp length-append (omega (arith, decimal_length 1 h, decimal_length 4 i))

pub counts_length : (c : QueryCounts) → c.points < 1000 → c.repeated < 1000 → c.inside < 1000 → length (counts_line c) ≤ 18
unfolding line counts_line
counts_length c h i j = simp length-append (omega (arith, decimal_length 2 h, decimal_length 2 i, decimal_length 2 j))

pub point_length : {p : ℕ} (a : PointAnswer) → p < 1000 → a.node.node_index < 1000 → a.element.element_index < 1000 → a.face.element_index < 1000 → a.face.local_face < 10 → length (point_line p a) ≤ 120
unfolding line point_line
point_length a h i j k l =
    simp length-append
    (omega (
      arith,
      decimal_length 2 h,
      decimal_length 2 i,
      decimal_length 2 j,
      decimal_length 2 k,
      decimal_length 0 l,
      hexadecimal_length a.node.distance,
      hexadecimal_length a.element.reference.xi,
      hexadecimal_length a.element.reference.eta,
      hexadecimal_length a.element.distance,
      hexadecimal_length a.face.s,
      hexadecimal_length a.face.distance,
    ))
