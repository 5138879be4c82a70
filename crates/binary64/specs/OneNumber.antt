-- Two numbers that are one.
use Rattle.std.specs.Prelude.{Bool, ◌&&◌, eqb, Float}
use Rattle.std.specs.Float.{binary64}
use Rattle.std.specs.Float.Ieee.{to_bits, eq}

-- whether two numbers are equal and have the same bits: +0 and -0 do not, and a NaN equals nothing
unfoldable pub one_number : Float → Float → Bool
one_number a b = eq a b && eqb (to_bits binary64 a) (to_bits binary64 b)
