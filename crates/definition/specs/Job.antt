-- The job file and its listing: from the bytes of standard input to the bytes of standard output.
use Rattle.std.specs.Prelude.{◌≡◌, Result, Bool, true, false, cond, ◌&&◌, List, [], ◌∷◌, ◌++◌, map, ℕ, zero, suc, ◌+◌, ◌*◌, ◌/◌, ◌%◌, leb, ltb, eqb, length, get_or, replicate, Float}
use Rattle.std.specs.Bool.{beq}
use Prim.Native.Char.{code}
use Prim.Native.String.{String}
use Rattle.std.specs.Float.{binary64}
use Rattle.std.specs.Float.Ieee.{is_nan, of_bits, to_bits}
use Rattle.definition.specs.Lists.{each, over}
use Rattle.definition.specs.Binary64.{plus0}
use Rattle.definition.specs.Elements.{nodes_of}
use Rattle.definition.specs.Questions.{Question, ask, Outcome, accepted, refused, asked, outcome, is_family}
use Rattle.definition.specs.Query.{QueryCall, QueryLists, answer_at, queried}
use Rattle.definition.specs.declared.Mark.{Mark}
use Rattle.definition.specs.declared.Mark.TheVariants.{Head, Node, Element, Point, Unknown}
use Rattle.definition.specs.declared.PointAnswer.{PointAnswer}
use Rattle.definition.specs.declared.QueryCounts.{QueryCounts}
use Rattle.definition.specs.declared.Refusal.{Refusal}

-- ASCII
abbrev pub text : String → List ℕ
text String.[] = []
text (String.◌∷◌ c s) = code c ∷ text s

-- ---- the records: "Every record begins with a two-byte ASCII mark; numbers little-endian. QF: family u8, iterations u16. QN: two f64. QE: F u32. QP: two f64."

-- F 70, N 78, E 69, P 80, after Q 81
unfoldable pub mark_of : ℕ → ℕ → Mark
mark_of q letter =
    cond (eqb q 81)
    (cond (eqb letter 70) Head (cond (eqb letter 78) Node (cond (eqb letter 69) Element (cond (eqb letter 80) Point Unknown))))
    Unknown

-- the mark at a place; a mark of one byte is not whole, and so unknown
unfoldable pub mark_at : List ℕ → ℕ → Mark
mark_at bytes at = cond (leb (at + 2) (length bytes)) (mark_of (get_or bytes at 0) (get_or bytes (at + 1) 0)) Unknown

abbrev pub is_known : Mark → Bool
is_known Head = true
is_known Node = true
is_known Element = true
is_known Point = true
is_known Unknown = false

abbrev pub is_head : Mark → Bool
is_head Head = true
is_head Node = false
is_head Element = false
is_head Point = false
is_head Unknown = false

-- the bytes of a record, its mark among them
unfoldable pub record_bytes : Mark → ℕ → ℕ
record_bytes Head family = 5
record_bytes Node family = 18
record_bytes Element family = 2 + 4 * nodes_of family
record_bytes Point family = 18
record_bytes Unknown family = 2

-- the number of n bytes from a place on, least byte first
unfoldable pub little : List ℕ → ℕ → ℕ → ℕ
little bytes at zero = 0
little bytes at (suc n) = get_or bytes at 0 + 256 * little bytes (suc at) n

-- the job that has been read: the floats by their bits as read
pub record Job : Type 0 where
  pub family : ℕ
  pub iterations : ℕ
  pub nodes : List ℕ
  pub elements : List ℕ
  pub points : List ℕ

abbrev pub empty_job : Job
empty_job = record { family = 0; iterations = 0; nodes = []; elements = []; points = [] }

-- two floats, and F node numbers, from a place on
unfoldable pub pair_bits : List ℕ → ℕ → List ℕ
pair_bits bytes at = little bytes at 8 ∷ little bytes (at + 8) 8 ∷ []

unfoldable pub row_of : List ℕ → ℕ → ℕ → List ℕ
row_of bytes at n = each (λ k. little bytes (at + 4 * k) 4 ∷ []) n

-- the job with the record at a place
unfoldable pub taken : Mark → List ℕ → ℕ → Job → Job
taken Head bytes at j = record { family = get_or bytes (at + 2) 0; iterations = little bytes (at + 3) 2; nodes = j.nodes; elements = j.elements; points = j.points }
taken Node bytes at j = record { family = j.family; iterations = j.iterations; nodes = j.nodes ++ pair_bits bytes (at + 2); elements = j.elements; points = j.points }
taken Element bytes at j = record { family = j.family; iterations = j.iterations; nodes = j.nodes; elements = j.elements ++ row_of bytes (at + 2) (nodes_of j.family); points = j.points }
taken Point bytes at j = record { family = j.family; iterations = j.iterations; nodes = j.nodes; elements = j.elements; points = j.points ++ pair_bits bytes (at + 2) }
taken Unknown bytes at j = j

-- ---- its questions: "For each record: is the mark whole and known? (18) Is QF first and only first? (19; also for an empty file) Is the body whole? (20) Family 4 or 9? (1) At most 512 nodes, 256 elements, 256 points? (21) Place: record index from 0."

abbrev pub family_read : Mark → List ℕ → ℕ → Bool
family_read Head bytes at = is_family (get_or bytes (at + 2) 0)
family_read Node bytes at = true
family_read Element bytes at = true
family_read Point bytes at = true
family_read Unknown bytes at = true

-- whether the job with the record is within the limits
abbrev pub within_limits : Job → Bool
within_limits j = leb (length j.nodes) (2 * 512) && leb (length j.elements) (nodes_of j.family * 256) && leb (length j.points) (2 * 256)

unfoldable pub record_questions : List ℕ → ℕ → ℕ → Job → List Question
record_questions bytes at index j =
    let m = mark_at bytes at in
    ask 18 index (is_known m)
    ∷ ask 19 index (beq (is_head m) (eqb index 0))
    ∷ ask 20 index (leb (at + record_bytes m j.family) (length bytes))
    ∷ ask 1 index (family_read m bytes at)
    ∷ ask 21 index (within_limits (taken m bytes at j))
    ∷ []

-- the records from a place on, at most n of them; `index` is that of the next record
unfoldable pub read_from : ℕ → List ℕ → ℕ → ℕ → Job → Outcome Job
read_from zero bytes at index j = asked (ask 19 0 (ltb 0 index) ∷ []) j
read_from (suc n) bytes at index j =
    elim (ltb at (length bytes)) [
      | true ↦ elim (asked (record_questions bytes at index j) (taken (mark_at bytes at) bytes at j)) [
        | accepted k ↦ read_from n bytes (at + record_bytes (mark_at bytes at) j.family) (suc index) k
        | refused number place ↦ refused number place
      ]
      | false ↦ asked (ask 19 0 (ltb 0 index) ∷ []) j
    ]

-- a record has two bytes at least, so there are no more records than bytes
unfoldable pub read_job : List ℕ → Outcome Job
read_job bytes = read_from (length bytes) bytes 0 0 empty_job

-- "Then the query's questions": the query of the job that was read, its floats read as numbers
abbrev pub query_of : Job → QueryCall
query_of j =
    record {
      mesh = record { family = j.family; nodes = map (of_bits binary64) j.nodes; elements = j.elements };
      iterations = j.iterations;
      points = map (of_bits binary64) j.points;
    }

-- the program's own lists, for 256 points
unfoldable pub own_lists : QueryLists
own_lists =
    record {
      node_indices = replicate 256 0;
      node_points = replicate 512 plus0;
      node_distances = replicate 256 plus0;
      element_indices = replicate 256 0;
      element_references = replicate 512 plus0;
      element_points = replicate 512 plus0;
      element_distances = replicate 256 plus0;
      face_element_indices = replicate 256 0;
      face_local_faces = replicate 256 0;
      face_coordinates = replicate 256 plus0;
      face_points = replicate 512 plus0;
      face_distances = replicate 256 plus0;
    }

-- ---- the listing

-- the ASCII code of a digit below 16, and the last k digits of n in a base, the most significant first
abbrev pub glyph : ℕ → ℕ
glyph d = cond (ltb d 10) (48 + d) (87 + d)

unfoldable pub digits : ℕ → ℕ → ℕ → List ℕ
digits base zero n = []
digits base (suc k) n = digits base k (n / base) ++ glyph (n % base) ∷ []

-- a number in decimal, by at most k digits
unfoldable pub decimal_from : ℕ → ℕ → List ℕ
decimal_from zero n = []
decimal_from (suc k) n = elim (ltb n 10) [ true ↦ glyph n ∷ [] | false ↦ decimal_from k (n / 10) ++ glyph (n % 10) ∷ [] ]

unfoldable pub decimal : ℕ → List ℕ
decimal n = decimal_from (suc n) n

-- "floats as 16 hexadecimal digits of their bits, or `nan`"
unfoldable pub hexadecimal : Float → List ℕ
hexadecimal x = cond (is_nan x) (text "nan") (digits 16 16 (to_bits binary64 x))

-- a line: its fields with one space between two, and a line feed at the end
unfoldable pub line : List (List ℕ) → List ℕ
line [] = text "\n"
line (f ∷ []) = f ++ text "\n"
line (f ∷ g ∷ fs) = f ++ text " " ++ line (g ∷ fs)

-- "A refusal prints `refused`, number, place."
unfoldable pub refusal_line : ℕ → ℕ → List ℕ
refusal_line number place = line (text "refused" ∷ decimal number ∷ decimal place ∷ [])

-- "First line: points, elements with repeated nodes, points inside, in decimal."
unfoldable pub counts_line : QueryCounts → List ℕ
counts_line c = line (text "query" ∷ decimal c.points ∷ decimal c.repeated ∷ decimal c.inside ∷ [])

-- "Then per point: its index, node, node distance, element, ξ, η, distance, face's element, face, s, distance"
unfoldable pub point_line : ℕ → PointAnswer → List ℕ
point_line p a =
    line
    (decimal p
    ∷ decimal a.node.node_index ∷ hexadecimal a.node.distance
    ∷ decimal a.element.element_index ∷ hexadecimal a.element.reference.xi ∷ hexadecimal a.element.reference.eta ∷ hexadecimal a.element.distance
    ∷ decimal a.face.element_index ∷ decimal a.face.local_face ∷ hexadecimal a.face.s ∷ hexadecimal a.face.distance
    ∷ [])

abbrev pub query_listing : QueryCall → Outcome QueryCounts → List ℕ
query_listing q (accepted c) = counts_line c ++ each (λ p. point_line p (answer_at q p)) c.points
query_listing q (refused number place) = refusal_line number place

abbrev pub job_listing : Outcome Job → List ℕ
job_listing (accepted j) = query_listing (query_of j) (queried (query_of j) own_lists)
job_listing (refused number place) = refusal_line number place

-- THE PROGRAM: what `probe` prints for a job file
unfoldable pub listing : List ℕ → List ℕ
listing bytes = job_listing (read_job bytes)

-- ---- the call from a job's bytes to the listing's, in a lent output

-- the longest listing: a first line of 18 bytes, and 256 lines of 120
abbrev pub longest_listing : ℕ
longest_listing = 18 + 256 * 120

-- a job's own refusal is a listing too, the line that `refusal_line` gives; this call refuses only an output that is too short
unfoldable pub job_answered : List ℕ → List ℕ → Outcome ℕ
job_answered bytes lent = asked (ask 7 0 (leb longest_listing (length lent)) ∷ []) (length (listing bytes))

abbrev pub listing_over : List ℕ → Outcome ℕ → List ℕ → List ℕ
listing_over bytes (accepted n) lent = over (listing bytes) lent
listing_over bytes (refused number place) lent = lent

-- THE PROMISE of the job's call: given a job's bytes and lent the output `before`, it answers `answer` and leaves the output `after`
pub record JobPromise (bytes before : List ℕ) (answer : Result ℕ Refusal) (after : List ℕ) : Type 0 where
  pub answers : outcome answer ≡ job_answered bytes before
  pub leaves : after ≡ listing_over bytes (job_answered bytes before) before
