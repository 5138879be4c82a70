-- What a record of each mark has: its bytes, its family and the room that it needs. Assumes nothing.
use Rattle.std.proofs.Common.{◌≡◌, refl, ap, ◌∙◌, true, List, [], ◌∷◌, ◌++◌, ℕ, ◌+◌, ◌*◌, ◌≤◌, leb, length, get_or, arith, length-append}
use Rattle.std.proofs.Math.Bool.{true-and, and-true}
use native.Mathlib.Nat.{one-mul}
use borrow.Author.Tests.{leb-true, le-leb}
use Rattle.std.proofs.lemmas.Bool.{and_parts}
use Rattle.definition.specs.Elements.{nodes_of}
use Rattle.definition.specs.declared.Mark.{Mark}
use Rattle.definition.specs.declared.Mark.TheVariants.{Head, Node, Element, Point, Unknown}
use Rattle.definition.specs.Job.{is_head, Job, empty_job, record_bytes, little, pair_bits, row_of, taken, within_limits}
use Rattle.definition.proofs.Families.{nodes_are}
use Rattle.definition.proofs.Lists.{each_more, each_length}
use Rattle.records.specs.Reading.{room_for}

-- the nodes of an element, and the bytes of a record
pub nodes_few : (family : ℕ) → nodes_of family ≤ 9
nodes_few family = grind (arith, nodes_are family)

pub record_some : (m : Mark) (family : ℕ) → 2 ≤ record_bytes m family
unfolding record_bytes
record_some Head family = omega arith
record_some Node family = omega arith
record_some Element family = omega arith
record_some Point family = omega arith
record_some Unknown family = omega arith

-- ---- the lengths of the lists

pub pair_length : (bytes : List ℕ) (at : ℕ) (l : List ℕ) → length (l ++ pair_bits bytes at) ≡ length l + 2
unfolding pair_bits
pair_length bytes at l = length-append l _

pub row_length : (bytes : List ℕ) (at n : ℕ) (l : List ℕ) → length (l ++ row_of bytes at n) ≡ length l + n
unfolding row_of
row_length bytes at n l = length-append l _ ∙ ap (λ k. length l + k) (each_length (λ k. little bytes (at + 4 * k) 4 ∷ []) (λ i h. refl) ∙ one-mul n)

-- one number more of a row
pub row_next : (bytes : List ℕ) (at k : ℕ) → row_of bytes at (k + 1) ≡ row_of bytes at k ++ little bytes (at + 4 * k) 4 ∷ []
unfolding row_of
row_next bytes at k = each_more _ k

limits_parts : (j : Job) → within_limits j ≡ true → (leb (length j.nodes) 1024 ≡ true) × (leb (length j.elements) (nodes_of j.family * 256) ≡ true) × (leb (length j.points) 512 ≡ true)
limits_parts j h =
    let (most, points) = and_parts _ _ h in
    let (nodes, elements) = and_parts _ _ most in
    (nodes, elements, points)

pub limits_bound : (j : Job) → within_limits j ≡ true → (length j.nodes ≤ 1024) × (length j.elements ≤ 2304) × (length j.points ≤ 512)
limits_bound j h =
    let (nodes, elements, points) = limits_parts j h in
    let e : length j.elements ≤ nodes_of j.family * 256 = leb-true _ _ elements in
    (leb-true _ _ nodes, omega (arith, nodes_few j.family), leb-true _ _ points)

-- the empty job holds the limits
pub start_within : within_limits empty_job ≡ true
unfolding nodes_of
start_within = refl

-- where the job holds the limits, and the QF comes first, the room for a record decides whether they hold with it
pub room_is : (m : Mark) (bytes : List ℕ) (at : ℕ) (j : Job) → within_limits j ≡ true → (is_head m ≡ true → j ≡ empty_job) → room_for m j ≡ within_limits (taken m bytes at j)
unfolding taken
room_is Head bytes at j w first =
    let f = get_or bytes (at + 2) 0 in
    rw (first refl, le-leb 0 (nodes_of f * 256) (omega arith))
room_is Node bytes at j w first =
    let (nodes, elements, points) = limits_parts j w in
    simp (pair_length, elements, points, and-true) refl
room_is Element bytes at j w first =
    let (nodes, elements, points) = limits_parts j w in
    simp (row_length, nodes, points, true-and, and-true) refl
room_is Point bytes at j w first =
    let (nodes, elements, points) = limits_parts j w in
    rw (pair_length, nodes, elements)
room_is Unknown bytes at j w first = rw w
