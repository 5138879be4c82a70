-- What the records of a job take of its bytes: 5 for the QF, 18 a node or a point, which are two values, and 2 + 4 F an element, which is F values. Assumes nothing.
use mathlib.Core.Path.{◌≡◌, refl}
use mathlib.Core.Logic.{inl, inr}
use mathlib.Core.Bool.{true, beq}
use mathlib.Core.List.{List}
use Prim.Native.Nat.{ℕ, suc, ◌+◌, ◌*◌, ◌≤◌}
use native.Mathlib.Nat.{mul-suc}
use native.Mathlib.Omega.{arith}
use borrow.Author.Tests.{leb-true}
use lib.Dec.{leb, eqb}
use lib.ListN.{length}
use Rattle.std.proofs.lemmas.Bool.{and_parts}
use Rattle.definition.specs.Elements.{nodes_of}
use Rattle.definition.specs.Questions.{accepted, asked}
use Rattle.definition.specs.declared.Mark.{Mark}
use Rattle.definition.specs.declared.Mark.TheVariants.{Head, Node, Element, Point, Unknown}
use Rattle.definition.specs.Job.{is_known, is_head, Job, empty_job, mark_at, record_bytes, taken, family_read, within_limits, record_questions}
use Rattle.definition.proofs.Families.{nodes_are}
use Rattle.definition.proofs.Passing.{passes, asked_accepted}
use Rattle.records.proofs.Marks.{pair_length, row_length}
use Rattle.records.proofs.Reached.{head_first}

pub record Spent (at index : ℕ) (j : Job) : Type 0 where
  pub slow : index ≤ at
  pub start : index ≡ 0 → (at ≡ 0) × (length j.elements ≡ 0)
  pub count : ℕ
  pub rows : length j.elements ≡ nodes_of j.family * count
  pub bytes : at ≤ 5 + 9 * length j.nodes + (2 + 4 * nodes_of j.family) * count + 9 * length j.points

-- within the limits that is at most 5 + 512 * 18 + 256 * 38 + 256 * 18
pub spent_most : {at index : ℕ} {j : Job} → Spent at index j → within_limits j ≡ true → at ≤ 23557
spent_most {at} {index} {j} s h =
    let (most, points) = and_parts _ _ h in
    let (nodes, elements) = and_parts _ _ most in
    let n : length j.nodes ≤ 1024 = leb-true _ _ nodes in
    let p : length j.points ≤ 512 = leb-true _ _ points in
    let e : length j.elements ≤ nodes_of j.family * 256 = leb-true _ _ elements in
    let r = s.rows in
    let b = s.bytes in
    elim (nodes_are j.family) [
      | inl q ↦ omega (arith, rw q at e, rw q at r, rw q at b)
      | inr q ↦ omega (arith, rw q at e, rw q at r, rw q at b)
    ]

-- ---- the start, and a record more

pub spent_start : Spent 0 0 empty_job
spent_start = record { slow = omega arith; start = λ e. (refl, refl); count = 0; rows = omega arith; bytes = omega arith }

spent_next : (m : Mark) (bytes : List ℕ) {at index : ℕ} {j : Job} → Spent at index j → is_known m ≡ true → beq (is_head m) (eqb index 0) ≡ true → Spent (at + record_bytes m j.family) (suc index) (taken m bytes at j)
unfolding record_bytes taken
spent_next Head bytes {at} {index} s known placed =
    let (none, empty) = s.start (head_first index placed refl) in
    record { slow = omega (arith, s.slow); start = λ e. absurd (omega arith); count = 0; rows = omega arith; bytes = omega arith }
spent_next Node bytes {at} {index} {j} s known placed =
    record { slow = omega (arith, s.slow); start = λ e. absurd (omega arith); count = s.count; rows = s.rows; bytes = rw (pair_length bytes (at + 2) j.nodes) (omega (arith, s.bytes)) }
spent_next Element bytes {at} {index} {j} s known placed =
    let f = nodes_of j.family in
    record {
      slow = omega (arith, s.slow);
      start = λ e. absurd (omega arith);
      count = suc s.count;
      rows = rw (row_length bytes (at + 2) f j.elements, mul-suc f s.count) (omega (arith, s.rows));
      bytes = rw (mul-suc (2 + 4 * f) s.count) (omega (arith, s.bytes));
    }
spent_next Point bytes {at} {index} {j} s known placed =
    record { slow = omega (arith, s.slow); start = λ e. absurd (omega arith); count = s.count; rows = s.rows; bytes = rw (pair_length bytes (at + 2) j.points) (omega (arith, s.bytes)) }
spent_next Unknown bytes s known placed = absurd (let z : ◌≡◌ {A = ℕ} 0 1 = cc in omega arith)

-- a record that passes leaves the job within the limits
pub spent_on : (bytes : List ℕ) (at index : ℕ) {j k : Job} → Spent at index j → asked (record_questions bytes at index j) (taken (mark_at bytes at) bytes at j) ≡ accepted k → Spent (at + record_bytes (mark_at bytes at) j.family) (suc index) k × (within_limits k ≡ true)
unfolding record_questions passes
spent_on bytes at index {j} s e =
    let m = mark_at bytes at in
    let (passed, same) = asked_accepted (record_questions bytes at index j) e in
    let (known, more) = and_parts (is_known m) _ passed in
    let (placed, rest) = and_parts (beq (is_head m) (eqb index 0)) _ more in
    let (whole, others) = and_parts (leb (at + record_bytes m j.family) (length bytes)) _ rest in
    let (named, last) = and_parts (family_read m bytes at) _ others in
    rw (← same) (spent_next m bytes s known placed, (and_parts (within_limits (taken m bytes at j)) true last).0)
