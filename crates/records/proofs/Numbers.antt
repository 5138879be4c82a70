-- Numbers by the least byte first: std's sum of a part's bytes, each by its worth, is the definition's number. Assumes nothing.
use Rattle.std.proofs.Common.{◌≡◌, List, ℕ, zero, suc, ◌+◌, ◌-◌, ◌*◌, ◌^◌, ◌≤◌, ◌<◌, arith, get_or, drop, slice_range}
use native.Mathlib.Nat.{pow-suc}
use Rattle.std.specs.Int.{sum_through, byte_worth}
use Rattle.std.proofs.lemmas.List.{get_or-take, get_or-drop}
use Rattle.definition.specs.Job.{little}

-- one byte more, which is the number's greatest
little_more : (bytes : List ℕ) (at n : ℕ) → little bytes at (suc n) ≡ little bytes at n + get_or bytes (at + n) 0 * 256 ^ n
unfolding little
little_more bytes at zero = let e : at + 0 ≡ at = omega arith in rw e (omega arith)
little_more bytes at (suc n) =
    let e : suc at + n ≡ at + suc n = omega arith in
    let p : 256 ^ suc n ≡ 256 ^ n * 256 = pow-suc 256 n in
    rw (little_more bytes (suc at) n, e, p) (grind arith)

sum_is : (bytes part : List ℕ) (at n : ℕ) → ((i : ℕ) → i ≤ n → get_or part i 0 ≡ get_or bytes (at + i) 0) → sum_through (λ i. byte_worth i (get_or part i 0)) n ≡ little bytes at (suc n)
unfolding little
sum_is bytes part at zero same = let e : at + 0 ≡ at = omega arith in rw (same 0 (omega arith), e) (omega arith)
sum_is bytes part at (suc n) same = rw (sum_is bytes part at n (λ i l. same i (omega arith)), little_more bytes at (suc n), same (suc n) (omega arith))

pub number_is : (bytes : List ℕ) (at n : ℕ) {part : List ℕ} → part ≡ slice_range bytes at (at + suc n) → sum_through (λ i. byte_worth i (get_or part i 0)) n ≡ little bytes at (suc n)
number_is bytes at n {part} e =
    sum_is bytes part at n (λ i l.
    let size : at + suc n - at ≡ suc n = omega arith in
    let within : i < suc n = omega arith in
    rw (e, size, get_or-take (suc n) (drop at bytes) i 0 within, get_or-drop))
