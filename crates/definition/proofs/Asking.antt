-- The order of the questions of a query and of a job file: in each row every later question would be answered no as well, and the row's number and place are those of the first.
-- And the bounds of questions 16 and 17. Every row is computed. Assumes nothing.
use mathlib.Core.Path.{◌≡◌, refl}
use mathlib.Core.Bool.{true, false, cond}
use mathlib.Core.List.{List, [], ◌∷◌, ◌++◌}
use Prim.Native.Nat.{ℕ, ◌-◌, ◌*◌}
use Prim.Native.String.{String}
use lib.Dec.{eqb}
use lib.ListN.{replicate}
use lib.Ieee.{Float}
use Rattle.definition.specs.Lists.{each}
use Rattle.definition.specs.Binary64.{plus0, one, minus_one}
use Rattle.definition.specs.Questions.{Question, Outcome, accepted, refused, asked, not_inverted, off_axis}
use Rattle.definition.specs.Query.{QueryLists, query_room, query_questions}
use Rattle.definition.specs.Job.{Job, text, record_questions, listing}
use Rattle.definition.specs.declared.Reference.{Reference}
use Rattle.definition.specs.declared.Structural2dFormulation.TheVariants.{Axisymmetric}
use Rattle.definition.proofs.Computing.{querying, operating, listing_of_jobs}
use Rattle.definition.proofs.Written.{two_to_minus}

-- what questions come to: a refusal, or the acceptance of no value
abbrev pub verdict : List Question → Outcome (List ℕ)
verdict qs = asked qs []

-- ---- the query: 1, 2, 3, 4, 5, 7, 8, 9, 10

-- twelve lists with n places for a point, and two for a pair; list k (from 0) lacks one place
abbrev lacking : ℕ → ℕ → QueryLists
lacking n k =
    record {
      node_indices = replicate (n - cond (eqb k 0) 1 0) 0;
      node_points = replicate (2 * n - cond (eqb k 1) 1 0) plus0;
      node_distances = replicate (n - cond (eqb k 2) 1 0) plus0;
      element_indices = replicate (n - cond (eqb k 3) 1 0) 0;
      element_references = replicate (2 * n - cond (eqb k 4) 1 0) plus0;
      element_points = replicate (2 * n - cond (eqb k 5) 1 0) plus0;
      element_distances = replicate (n - cond (eqb k 6) 1 0) plus0;
      face_element_indices = replicate (n - cond (eqb k 7) 1 0) 0;
      face_local_faces = replicate (n - cond (eqb k 8) 1 0) 0;
      face_coordinates = replicate (n - cond (eqb k 9) 1 0) plus0;
      face_points = replicate (2 * n - cond (eqb k 10) 1 0) plus0;
      face_distances = replicate (n - cond (eqb k 11) 1 0) plus0;
    }

-- with every place there is room, and without any one of them there is not
each_list_is_asked : each (λ k. query_room (lacking 3 k) 3 ∷ []) 13 ≡ replicate 12 false ++ true ∷ []
unfolding querying
each_list_is_asked = refl

abbrev query : ℕ → List Float → List ℕ → ℕ → List Float → ℕ → Outcome (List ℕ)
query family nodes elements iterations points places =
    verdict (query_questions (record { mesh = record { family = family; nodes = nodes; elements = elements }; iterations = iterations; points = points }) (lacking places 12))

-- half a pair, a pair, and node numbers: three, two rows of which the second names a node that is not there, and the same with both rows good
abbrev pub half : List Float
half = one ∷ []

abbrev pub pair : List Float
pair = one ∷ one ∷ []

abbrev pub three : List ℕ
three = 0 ∷ 0 ∷ 0 ∷ []

abbrev pub second_bad : List ℕ
second_bad = 0 ∷ 0 ∷ 0 ∷ 0 ∷ 0 ∷ 0 ∷ 0 ∷ 1 ∷ []

abbrev pub both_good : List ℕ
both_good = replicate 8 0

query_order :
    query 5 half three 1001 half 0
    ∷ query 4 half three 1001 half 0
    ∷ query 4 pair three 1001 half 0
    ∷ query 4 pair second_bad 1001 half 0
    ∷ query 4 pair second_bad 1000 half 0
    ∷ query 4 pair second_bad 1000 pair 0
    ∷ query 4 pair second_bad 1000 pair 1
    ∷ query 4 [] second_bad 1000 pair 1
    ∷ query 4 [] [] 1000 pair 1
    ∷ query 4 pair [] 1000 pair 1
    ∷ query 4 pair both_good 1000 pair 1
    ∷ query 9 pair (replicate 9 0) 0 [] 0
    ∷ []
    ≡ refused 1 0
    ∷ refused 2 0
    ∷ refused 3 0
    ∷ refused 4 0
    ∷ refused 5 0
    ∷ refused 7 0
    ∷ refused 8 1
    ∷ refused 8 0
    ∷ refused 9 0
    ∷ refused 10 0
    ∷ accepted []
    ∷ accepted []
    ∷ []
unfolding querying
query_order = refl

-- ---- the determinant and the radius, of point 3: 16 and 17

abbrev centre : Reference
centre = record { xi = plus0; eta = plus0 }

-- a square whose nodes run clockwise, and nodes that all have the radius 2^-52: the determinant is -1, and the radius at its bound
shape_refusals :
    verdict (not_inverted (record { count = 4; xy = minus_one ∷ minus_one ∷ minus_one ∷ one ∷ one ∷ one ∷ one ∷ minus_one ∷ replicate 10 plus0 }) 3 centre ∷ [])
    ∷ verdict (off_axis Axisymmetric (record { count = 4; xy = replicate 18 (two_to_minus 52) }) 3 centre)
    ∷ []
    ≡ refused 16 3 ∷ refused 17 3 ∷ []
unfolding operating
shape_refusals = refl

-- ---- the records of a job file: 18, 19, 20, 1, 21

-- a job of family 4 with this many nodes, elements and points
abbrev holding : ℕ → ℕ → ℕ → Job
holding n e p = record { family = 4; iterations = 0; nodes = replicate (2 * n) 0; elements = replicate (4 * e) 0; points = replicate (2 * p) 0 }

-- record 7 of a file whose last bytes it is, in such a job, and record 0
abbrev seventh : String → ℕ → Job → Outcome (List ℕ)
seventh bytes zeros j = verdict (record_questions (text bytes ++ replicate zeros 0) 0 7 j)

abbrev zeroth : List ℕ → Outcome (List ℕ)
zeroth bytes = verdict (record_questions bytes 0 0 (holding 0 0 0))

record_order :
    zeroth (text "Q")
    ∷ zeroth (text "QX")
    ∷ zeroth (text "F")
    ∷ zeroth (text "QN")
    ∷ zeroth (text "QF" ++ 5 ∷ 0 ∷ [])
    ∷ zeroth (text "QF" ++ 5 ∷ 0 ∷ 0 ∷ [])
    ∷ zeroth (text "QF" ++ 4 ∷ 0 ∷ 0 ∷ [])
    ∷ zeroth (text "QF" ++ 9 ∷ 232 ∷ 3 ∷ [])
    ∷ seventh "Q" 0 (holding 512 256 256)
    ∷ seventh "QF" 0 (holding 512 256 256)
    ∷ seventh "QN" 15 (holding 512 256 256)
    ∷ seventh "QE" 15 (holding 512 256 256)
    ∷ seventh "QP" 15 (holding 512 256 256)
    ∷ seventh "QN" 16 (holding 512 255 255)
    ∷ seventh "QE" 16 (holding 511 256 255)
    ∷ seventh "QP" 16 (holding 511 255 256)
    ∷ seventh "QN" 16 (holding 511 256 256)
    ∷ seventh "QE" 16 (holding 512 255 256)
    ∷ seventh "QP" 16 (holding 512 256 255)
    ∷ []
    ≡ refused 18 0
    ∷ refused 18 0
    ∷ refused 18 0
    ∷ refused 19 0
    ∷ refused 20 0
    ∷ refused 1 0
    ∷ accepted []
    ∷ accepted []
    ∷ refused 18 7
    ∷ refused 19 7
    ∷ refused 20 7
    ∷ refused 20 7
    ∷ refused 20 7
    ∷ refused 21 7
    ∷ refused 21 7
    ∷ refused 21 7
    ∷ accepted []
    ∷ accepted []
    ∷ accepted []
    ∷ []
unfolding listing_of_jobs
record_order = refl

-- an empty file, one stray byte, and a QF alone, whose query has no node
file_refusals :
    listing [] ∷ listing (0 ∷ []) ∷ listing (text "QF" ++ 4 ∷ 0 ∷ 0 ∷ []) ∷ listing (text "QF" ++ 4 ∷ 233 ∷ 3 ∷ []) ∷ []
    ≡ text "refused 19 0\n" ∷ text "refused 18 0\n" ∷ text "refused 9 0\n" ∷ text "refused 4 0\n" ∷ []
unfolding listing_of_jobs
file_refusals = refl
