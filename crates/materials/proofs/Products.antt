-- How long a product is, and that with four columns it is the definition's. Assumes nothing.
use mathlib.Core.Path.{◌≡◌, refl}
use mathlib.Core.List.{List}
use Prim.Native.Nat.{ℕ, ◌*◌}
use lib.ListN.{length}
use lib.Ieee.{Float}
use Rattle.definition.specs.Rows.{product_of}
use Rattle.definition.proofs.Lists.{each_length, values_length}
use Rattle.materials.specs.Products.{entry_of, times_of}

pub times_length : (a b : List Float) (n : ℕ) → length (times_of a b n) ≡ n * 4
unfolding times_of
times_length a b n = each_length _ (λ i l. values_length (entry_of a b n i) n)

pub product_is_times : (a b : List Float) → times_of a b 4 ≡ product_of a b
unfolding times_of entry_of product_of
product_is_times a b = refl

pub product_length : (a b : List Float) → length (product_of a b) ≡ 16
product_length a b = rw (← product_is_times) (times_length a b 4)
