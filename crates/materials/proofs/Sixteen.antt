-- Sixteen numbers of a list, and that they are all that a product reads of it. Assumes nothing.
use mathlib.Core.Path.{◌≡◌, refl, sym, ◌∙◌}
use mathlib.Core.List.{List}
use Prim.Native.Nat.{ℕ, ◌+◌, ◌*◌, ◌<◌}
use native.Mathlib.Omega.{arith}
use lib.ListN.{length, get_or}
use lib.Ieee.{Float, nan}
use Rattle.definition.specs.Rows.{four_terms, product_of}
use Rattle.definition.proofs.Lists.{each_same, values_at, values_is}
use Rattle.materials.specs.Products.{entry_of, times_of}
use Rattle.materials.proofs.Products.{product_is_times}
use Rattle.materials.specs.Sixteen.{sixteen}

pub sixteen_at : (l : List Float) {i : ℕ} → i < 16 → get_or (sixteen l) i nan ≡ get_or l i nan
unfolding sixteen
sixteen_at l h = values_at (λ i. get_or l i nan) nan h

-- a list of sixteen numbers is kept as it is
pub sixteen_whole : {l : List Float} → length l ≡ 16 → sixteen l ≡ l
unfolding sixteen
sixteen_whole h = sym (values_is nan h (λ i l. refl))

-- a product reads sixteen numbers of its first matrix and no more
four_terms_of_sixteen : (a : List Float) {i : ℕ} (b0 b1 b2 b3 : Float) → i < 4 → four_terms (sixteen a) i b0 b1 b2 b3 ≡ four_terms a i b0 b1 b2 b3
unfolding four_terms
four_terms_of_sixteen a {i} b0 b1 b2 b3 h =
    rw (sixteen_at a {i = 4 * i} (omega arith), sixteen_at a {i = 4 * i + 1} (omega arith), sixteen_at a {i = 4 * i + 2} (omega arith), sixteen_at a {i = 4 * i + 3} (omega arith))

pub times_of_sixteen : (a b : List Float) (n : ℕ) → times_of (sixteen a) b n ≡ times_of a b n
unfolding times_of entry_of
times_of_sixteen a b n = each_same (λ i h. each_same (λ t l. rw (four_terms_of_sixteen a _ _ _ _ h)))

pub product_of_sixteen : (a b : List Float) → product_of (sixteen a) b ≡ product_of a b
product_of_sixteen a b = sym (product_is_times (sixteen a) b) ∙ times_of_sixteen a b 4 ∙ product_is_times a b
