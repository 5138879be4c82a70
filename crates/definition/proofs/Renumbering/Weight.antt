-- Numbers are ordered as their weights are, and no two have the same: a finite number's weight is its units, which are its value exactly, and infinity's is 2 ^ 2098, above all of those. Assumes nothing.
use mathlib.Core.Path.{◌≡◌, refl, sym}
use mathlib.Core.Bool.{Bool, true, false, true≢false}
use mathlib.Core.Logic.{◌↔◌}
use Prim.Native.Nat.{ℕ, ◌^◌, ◌≤◌, ◌<◌}
use native.Mathlib.Nat.{le_of_lt, lt_irrefl}
use native.Mathlib.Omega.{arith}
use lib.IntN.{ℤ}
use lib.Dec.{T, ltb}
use lib.Ieee.{Float, nan, inf, fin, lt, is_nan}
use borrow.Author.Tests.{ltb-true, ltb-false, lt-ltb, le-ltb}
use Rattle.definition.specs.Root.{in_units, Held}
use Rattle.definition.proofs.Root.Units.{counted, units_only}
use Rattle.definition.proofs.Root.Order.{lt_units}
use Rattle.definition.proofs.Renumbering.Distance.{IsNumber}

pub weight : Float → ℕ
weight nan = 0
weight (inf s) = 2 ^ 2098
weight (fin s m e) = in_units (fin s m e)

-- ---- a number is infinity, or finite
data Number : Float → Type 0 where
  infinite : Number (inf false)
  finite : (m : ℕ) (e : ℤ) → Held (fin false m e) → Number (fin false m e)

number : (x : Float) → IsNumber x → Number x
unfolding is_nan
number nan p = absurd (true≢false p.not_nan)
number (inf true) p = absurd p.is_distance.sign_clear
number (inf false) p = infinite
number (fin true m e) p = absurd p.is_distance.sign_clear
number (fin false m e) p = finite m e (record { fitting = p.is_distance.fitting; plainly = tt })

below_infinity : (m : ℕ) (e : ℤ) → Held (fin false m e) → in_units (fin false m e) < 2 ^ 2098
below_infinity m e h = (counted false m e h.fitting).small

-- ---- the order
test_is : (t : Bool) (a b : ℕ) → T t ↔ (a < b) → t ≡ ltb a b
test_is true a b h = sym (lt-ltb a b (h.0 tt))
test_is false a b h = sym (le-ltb a b (omega arith))

number_order : {x y : Float} → Number x → Number y → lt x y ≡ ltb (weight x) (weight y)
unfolding lt weight
number_order infinite infinite = refl
number_order infinite (finite n d k) = sym (le-ltb _ _ (le_of_lt (below_infinity n d k)))
number_order (finite m e h) infinite = sym (lt-ltb _ _ (below_infinity m e h))
number_order (finite m e h) (finite n d k) = test_is _ _ _ (lt_units (fin false m e) (fin false n d) h k)

number_only : {x y : Float} → Number x → Number y → weight x ≡ weight y → x ≡ y
unfolding weight
number_only infinite infinite w = refl
number_only infinite (finite n d k) w = absurd (lt_irrefl (2 ^ 2098) (rw (← w) at (below_infinity n d k)))
number_only (finite m e h) infinite w = absurd (lt_irrefl (2 ^ 2098) (rw w at (below_infinity m e h)))
number_only (finite m e h) (finite n d k) w = units_only (fin false m e) (fin false n d) h k w

module _ {x y : Float} (p : IsNumber x) (q : IsNumber y) where
  pub lt_weight : lt x y ≡ ltb (weight x) (weight y)
  lt_weight = number_order (number x p) (number y q)

  pub less : (lt x y ≡ true) ↔ (weight x < weight y)
  less = rw lt_weight (ltb-true (weight x) (weight y), lt-ltb (weight x) (weight y))

  pub not_less : (lt x y ≡ false) ↔ (weight y ≤ weight x)
  not_less = rw lt_weight (ltb-false (weight x) (weight y), le-ltb (weight x) (weight y))

  pub weight_only : weight x ≡ weight y → x ≡ y
  weight_only = number_only (number x p) (number y q)
