-- The numbers of rows, columns and places are far below the largest. Assumes nothing.
use Rattle.std.proofs.Common.{ℕ, ◌*◌, ◌/◌, ◌^◌, ◌≤◌, ◌<◌, arith}
use Rattle.std.proofs.Math.Nat.{mul-le-mul, mul-le-mul_right}

-- a column's number
pub column_fits : {c node : ℕ} → c ≤ 2 → node < 2 ^ 32 → c * node < 2 ^ 33
column_fits {node = node} h l = omega (arith, mul-le-mul_right node h)

-- a row's number
pub row_fits : {k p : ℕ} → k ≤ 4 → p < 2 ^ 32 → k * p < 2 ^ 34
row_fits {p = p} h l = omega (arith, mul-le-mul_right p h)

-- the entries of a point
pub entries_fit : {k c F : ℕ} → k ≤ 4 → c ≤ 2 → F ≤ 9 → c * F * k ≤ 72
entries_fit h l m = mul-le-mul (mul-le-mul l m) h

-- the places of a point
pub places_fit : {k c F : ℕ} → k ≤ 4 → c ≤ 2 → F ≤ 9 → k * c * F ≤ 72
places_fit h l m = mul-le-mul (mul-le-mul h l) m

-- the number of columns, where a list of that many numbers has the nodes
pub columns_fit : {c n : ℕ} → c ≤ 2 → c * (n / 2) ≤ n
columns_fit {n = n} h = omega (arith, mul-le-mul_right (n / 2) h)
