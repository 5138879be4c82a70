-- A list in parts of f numbers each: part e is f places from f * e on, as far as the list goes. Assumes nothing.
use Prim.Native.Nat.{ℕ, ◌+◌, ◌*◌, ◌≤◌, ◌<◌}
use native.Mathlib.Nat.{mul-suc, mul-le-mul_left}

-- part i of n parts ends within them
pub part_fits : (f : ℕ) {i n : ℕ} → i < n → f * i + f ≤ f * n
part_fits f h = rw mul-suc at (mul-le-mul_left f h)
