-- How numbers and points are written in rows that the checker computes.
use mathlib.Core.Bool.{false}
use Prim.Native.Nat.{ℕ, ◌^◌}
use lib.IntN.{pos}
use lib.Ieee.{Float, fin, binary64, round, of_bits}
use Rattle.definition.specs.declared.Point.{Point}

abbrev pub number : ℕ → Float
number n = round binary64 false n 1

-- 2 ^ k and 2 ^ -k
abbrev pub two_to : ℕ → Float
two_to k = fin false 1 (pos k)

abbrev pub two_to_minus : ℕ → Float
two_to_minus k = round binary64 false 1 (2 ^ k)

-- a binary64 by its bits
abbrev pub bits : ℕ → Float
bits b = of_bits binary64 b

abbrev pub at : Float → Float → Point
at x y = record { x = x; y = y }
