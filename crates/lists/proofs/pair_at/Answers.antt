-- `pair_at` meets its contract: past the list's end the definition reads `nan`. Assumes nothing.
use mathlib.Core.Path.{◌≡◌}
use Prim.Native.Nat.{ℕ, ◌+◌, ◌*◌, ◌≤◌}
use native.Mathlib.Omega.{arith}
use lib.ListN.{length, get_or, get_or-eq_default}
use lib.Ieee.{nan, of_bits}
use Rattle.lists.proofs.pair_at.Goals as goal

pub returns-else-i-pairs : goal.returns-else-i-pairs
unfolding of_bits
returns-else-i-pairs c =
    let a = c.args in
    let past : (k : ℕ) → length a.pairs.now ≤ k → get_or a.pairs.now k nan ≡ nan = λ k h. get_or-eq_default a.pairs.now nan h in
    rw (past (2 * a.i) (omega (arith, c.if-i-pairs.false)), past (2 * a.i + 1) (omega (arith, c.if-i-pairs.false)))
