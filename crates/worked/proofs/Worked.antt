-- The twelve starred probes of document 01's 'Probes worked by hand', as one table that the checker computes. A row is a call and the result that document 01 gives;
-- each evaluates the whole call's definition: the root, the shape numbers, the listing of a job file, the answer of an operator with its three lists afterwards.
-- Assumes nothing.
use mathlib.Core.Path.{◌≡◌, refl}
use mathlib.Core.Bool.{true, false}
use mathlib.Core.List.{List, [], ◌∷◌, ◌++◌, map}
use Prim.Native.Nat.{ℕ, zero, suc, ◌-◌, ◌/◌, ◌%◌, ◌^◌}
use lib.ListN.{replicate, take}
use lib.Ieee.{Float, binary64, round, to_bits}
use Rattle.definition.specs.Binary64.{plus0, one, two, half, quarter, minus_quarter}
use Rattle.definition.specs.Root.{root_of}
use Rattle.definition.specs.Elements.{nodes_of, shape_of}
use Rattle.definition.specs.Questions.{Outcome, accepted, refused}
use Rattle.definition.specs.Operators.{InterpolationCall, StrainCall, TripletLists, operated, triplet_lists, interpolation, strain}
use Rattle.definition.specs.Job.{text, listing}
use Rattle.definition.specs.declared.OperatorCounts.{OperatorCounts}
use Rattle.definition.specs.declared.Structural2dFormulation.{Structural2dFormulation}
use Rattle.definition.specs.declared.Structural2dFormulation.TheVariants.{Axisymmetric, PlaneStrain}
use Rattle.definition.proofs.Computing.{listing_of_jobs, operating}
use Rattle.definition.proofs.Written.{two_to_minus, bits}

-- ---- how inputs are written

-- the binary64 nearest to a / b, and to -a / b
abbrev ratio : ℕ → ℕ → Float
ratio a b = round binary64 false a b

abbrev minus : ℕ → ℕ → Float
minus a b = round binary64 true a b

-- n as k bytes, least byte first
abbrev bytes : ℕ → ℕ → List ℕ
bytes zero n = []
bytes (suc k) n = n % 256 ∷ bytes k (n / 256)

-- the records of a job file
abbrev QF : ℕ → ℕ → List ℕ
QF family iterations = text "QF" ++ bytes 1 family ++ bytes 2 iterations

abbrev QN : Float → Float → List ℕ
QN x y = text "QN" ++ bytes 8 (to_bits binary64 x) ++ bytes 8 (to_bits binary64 y)

abbrev QP : Float → Float → List ℕ
QP x y = text "QP" ++ bytes 8 (to_bits binary64 x) ++ bytes 8 (to_bits binary64 y)

abbrev QE4 : ℕ → ℕ → ℕ → ℕ → List ℕ
QE4 a b c d = text "QE" ++ bytes 4 a ++ bytes 4 b ++ bytes 4 c ++ bytes 4 d

-- U: "QF 4, 0; QN (0,0), (2,0), (2,2), (0,2); QE 0 1 2 3", with one point
abbrev job_u : Float → Float → List ℕ
job_u x y = QF 4 0 ++ QN plus0 plus0 ++ QN two plus0 ++ QN two two ++ QN plus0 two ++ QE4 0 1 2 3 ++ QP x y

abbrev pub nodes_u : List Float
nodes_u = plus0 ∷ plus0 ∷ two ∷ plus0 ∷ two ∷ two ∷ plus0 ∷ two ∷ []

-- lent lists of n places, each holding 9
abbrev nines : ℕ → TripletLists
nines n = record { rows = replicate n 9; columns = replicate n 9; values = replicate n (ratio 9 1) }

-- lists that begin with triplets, n places of 9 after them
abbrev lists : ℕ → List ℕ → List ℕ → List Float → TripletLists
lists n rows columns values = record { rows = rows ++ replicate n 9; columns = columns ++ replicate n 9; values = values ++ replicate n (ratio 9 1) }

-- one reference point in a family 9 element with the nodes 0 to 8
abbrev interpolate9 : Float → Float → InterpolationCall
interpolate9 ξ η =
    record {
      mesh = record { family = 9; nodes = replicate 18 one; elements = 0 ∷ 1 ∷ 2 ∷ 3 ∷ 4 ∷ 5 ∷ 6 ∷ 7 ∷ 8 ∷ [] };
      element_indices = 0 ∷ [];
      reference_points = ξ ∷ η ∷ [];
    }

-- one reference point in the element of the nodes of U, taken in the order given
abbrev strain_u : List ℕ → Structural2dFormulation → Float → Float → StrainCall
strain_u elements f ξ η =
    record {
      base = record {
        mesh = record { family = 4; nodes = nodes_u; elements = elements };
        element_indices = 0 ∷ [];
        reference_points = ξ ∷ η ∷ [];
      };
      formulation = f;
    }

abbrev U : List ℕ
U = 0 ∷ 1 ∷ 2 ∷ 3 ∷ []

abbrev plane_strain : Structural2dFormulation
plane_strain = PlaneStrain one

-- ---- the table

-- a call that is accepted, with its numbers of rows, columns and triplets
abbrev counts : ℕ → ℕ → ℕ → Outcome OperatorCounts
counts r c t = accepted (record { rows = r; columns = c; triplets = t })

data Call : Type 0 where
  root : Float → Call
  shape : (family : ℕ) → (ξ η : Float) → Call
  job : List ℕ → Call
  interpolate : InterpolationCall → TripletLists → Call
  strains : StrainCall → TripletLists → Call

data Result : Type 0 where
  floats : List Float → Result
  prints : List ℕ → Result
  operator : Outcome OperatorCounts → TripletLists → Result

abbrev result : Call → Result
result (root x) = floats (root_of x ∷ [])
result (shape family ξ η) = floats (take (nodes_of family) (shape_of family ξ η))
result (job b) = prints (listing b)
result (interpolate c lent) = operator (operated (interpolation c lent)) (triplet_lists (interpolation c lent) (operated (interpolation c lent)) lent)
result (strains c lent) = operator (operated (strain c lent)) (triplet_lists (strain c lent) (operated (strain c lent)) lent)

record Row : Type 0 where
  probe : ℕ
  call : Call
  expected : Result

abbrev row : ℕ → Call → Result → Row
row n c r = record { probe = n; call = c; expected = r }

abbrev table : List Row
table =
    row 1 (shape 4 half (minus 25 100))
    (floats (ratio 15625 100000 ∷ ratio 46875 100000 ∷ ratio 28125 100000 ∷ ratio 9375 100000 ∷ []))
    ∷ row 2 (interpolate (interpolate9 half plus0) (nines 10))
    (operator (counts 1 9 3) (lists 7 (0 ∷ 0 ∷ 0 ∷ []) (5 ∷ 7 ∷ 8 ∷ []) (ratio 375 1000 ∷ minus 125 1000 ∷ ratio 75 100 ∷ [])))
    ∷ row 3 (root two)
    (floats (bits 0x3ff6a09e667f3bcd ∷ []))
    ∷ row 4 (root (two_to_minus 1074))
    (floats (two_to_minus 537 ∷ []))
    ∷ row 5 (root plus0)
    (floats (plus0 ∷ []))
    ∷ row 6 (job (job_u one one))
    (prints (text "query 1 0 1\n0 0 3ff6a09e667f3bcd 0 0000000000000000 0000000000000000 0000000000000000 0 0 0000000000000000 3ff0000000000000\n"))
    ∷ row 7 (job (job_u (ratio 3 1) one))
    (prints (text "query 1 0 0\n0 1 3ff6a09e667f3bcd 0 3ff0000000000000 0000000000000000 3ff0000000000000 0 1 0000000000000000 3ff0000000000000\n"))
    ∷ row 8 (strains (strain_u U plane_strain plus0 plus0) (nines 32))
    (operator (counts 4 8 16)
    (lists 16
    (0 ∷ 0 ∷ 0 ∷ 0 ∷ 1 ∷ 1 ∷ 1 ∷ 1 ∷ 3 ∷ 3 ∷ 3 ∷ 3 ∷ 3 ∷ 3 ∷ 3 ∷ 3 ∷ [])
    (0 ∷ 2 ∷ 4 ∷ 6 ∷ 1 ∷ 3 ∷ 5 ∷ 7 ∷ 0 ∷ 1 ∷ 2 ∷ 3 ∷ 4 ∷ 5 ∷ 6 ∷ 7 ∷ [])
    (minus_quarter ∷ quarter ∷ quarter ∷ minus_quarter
    ∷ minus_quarter ∷ minus_quarter ∷ quarter ∷ quarter
    ∷ minus_quarter ∷ minus_quarter ∷ minus_quarter ∷ quarter ∷ quarter ∷ quarter ∷ quarter ∷ minus_quarter ∷ [])))
    ∷ row 9 (strains (strain_u U Axisymmetric plus0 plus0) (nines 32))
    (operator (counts 4 8 20)
    (lists 12
    (0 ∷ 0 ∷ 0 ∷ 0 ∷ 1 ∷ 1 ∷ 1 ∷ 1 ∷ 2 ∷ 2 ∷ 2 ∷ 2 ∷ 3 ∷ 3 ∷ 3 ∷ 3 ∷ 3 ∷ 3 ∷ 3 ∷ 3 ∷ [])
    (0 ∷ 2 ∷ 4 ∷ 6 ∷ 1 ∷ 3 ∷ 5 ∷ 7 ∷ 0 ∷ 2 ∷ 4 ∷ 6 ∷ 0 ∷ 1 ∷ 2 ∷ 3 ∷ 4 ∷ 5 ∷ 6 ∷ 7 ∷ [])
    (minus_quarter ∷ quarter ∷ quarter ∷ minus_quarter
    ∷ minus_quarter ∷ minus_quarter ∷ quarter ∷ quarter
    ∷ quarter ∷ quarter ∷ quarter ∷ quarter
    ∷ minus_quarter ∷ minus_quarter ∷ minus_quarter ∷ quarter ∷ quarter ∷ quarter ∷ quarter ∷ minus_quarter ∷ [])))
    ∷ row 10 (strains (strain_u (0 ∷ 3 ∷ 2 ∷ 1 ∷ []) plane_strain plus0 plus0) (nines 32))
    (operator (refused 16 0) (nines 32))
    ∷ row 11 (strains (strain_u U Axisymmetric (minus (2 ^ 52 - 1) (2 ^ 52)) plus0) (nines 32))
    (operator (refused 17 0) (nines 32))
    ∷ row 12 (strains (strain_u U Axisymmetric (minus (2 ^ 51 - 1) (2 ^ 51)) plus0) (nines 32))
    (operator (counts 4 8 20)
    (lists 12
    (0 ∷ 0 ∷ 0 ∷ 0 ∷ 1 ∷ 1 ∷ 1 ∷ 1 ∷ 2 ∷ 2 ∷ 2 ∷ 2 ∷ 3 ∷ 3 ∷ 3 ∷ 3 ∷ 3 ∷ 3 ∷ 3 ∷ 3 ∷ [])
    (0 ∷ 2 ∷ 4 ∷ 6 ∷ 1 ∷ 3 ∷ 5 ∷ 7 ∷ 0 ∷ 2 ∷ 4 ∷ 6 ∷ 0 ∷ 1 ∷ 2 ∷ 3 ∷ 4 ∷ 5 ∷ 6 ∷ 7 ∷ [])
    (minus_quarter ∷ quarter ∷ quarter ∷ minus_quarter
    ∷ minus (2 ^ 52 - 1) (2 ^ 53) ∷ minus 1 (2 ^ 53) ∷ two_to_minus 53 ∷ ratio (2 ^ 52 - 1) (2 ^ 53)
    ∷ ratio (2 ^ 52 - 1) 4 ∷ quarter ∷ quarter ∷ ratio (2 ^ 52 - 1) 4
    ∷ minus (2 ^ 52 - 1) (2 ^ 53) ∷ minus_quarter ∷ minus 1 (2 ^ 53) ∷ quarter ∷ two_to_minus 53 ∷ quarter ∷ ratio (2 ^ 52 - 1) (2 ^ 53) ∷ minus_quarter ∷ [])))
    ∷ []

-- every row's call has the result that is expected
worked : map (λ r. result r.call) table ≡ map (λ r. r.expected) table
unfolding listing_of_jobs operating
worked = refl
