-- Numbers that are equal are no NaN, and a value is read back from its bits. Assumes nothing.
use Rattle.std.proofs.Common.{◌≡◌, true, sym, ap, ◌∙◌}
use Rattle.std.proofs.lemmas.Float.{le_of_eq, le_right}
use mathlib.Core.Bool.{not}
use lib.Dec.{T}
use lib.Ieee.{Float, binary64, fits, is_nan, of_bits, to_bits, eq}
use lib.Ieee.Bits.{of_bits-to_bits}

pub right_number : (a b : Float) → eq a b ≡ true → T (not (is_nan b))
right_number a b e = le_right a b (le_of_eq _ _ (rw e tt))

pub one_pattern : (a b : Float) → fits binary64 a ≡ true → fits binary64 b ≡ true → to_bits binary64 a ≡ to_bits binary64 b → a ≡ b
one_pattern a b f g h = sym (of_bits-to_bits binary64 a (rw f tt)) ∙ ap (of_bits binary64) h ∙ of_bits-to_bits binary64 b (rw g tt)
