-- How much of a job's file decides its answer: as long as every record passed, the job is within its limits and at most 23,557 bytes were taken, and no record has more than 38. Assumes nothing.
use mathlib.Core.Path.{◌≡◌, refl, sym, ap, ◌∙◌}
use mathlib.Core.Bool.{Bool, true, false}
use mathlib.Core.List.{List, [], ◌∷◌}
use Prim.Native.Nat.{ℕ, zero, suc, ◌+◌, ◌≤◌, ◌<◌}
use native.Mathlib.Omega.{arith}
use borrow.Author.Tests.{ltb-true, ltb-false, leb-true, leb-false}
use lib.Dec.{ltb, leb}
use lib.ListN.{length, get_or, take}
use lib.Seq.{take_all, get_or-take, length-take-le}
use Rattle.definition.specs.Questions.{Outcome, accepted, refused, ask, asked}
use Rattle.definition.specs.Job.{Job, empty_job, mark_at, record_bytes, taken, within_limits, record_questions, read_from, read_job}
use Rattle.records.proofs.Marks.{record_some, start_within}
use Rattle.records.proofs.Turns.{read_passed, read_refused, read_ended}
use Rattle.records.proofs.Agreeing.{mark_same, taken_same, questions_agree}
use Rattle.records.proofs.Spending.{Spent, spent_start, spent_most, spent_on}

-- what a record that is asked about comes to
abbrev turn : List ℕ → ℕ → ℕ → Job → Outcome Job
turn bytes at index j = asked (record_questions bytes at index j) (taken (mark_at bytes at) bytes at j)

-- ---- every answer

-- an accepted job is within the limits and its file short, and a refusal has a small number and a small place
abbrev Small : List ℕ → Outcome Job → Type 0
Small bytes (accepted j) = (within_limits j ≡ true) × (length bytes ≤ 23557)
Small bytes (refused number place) = (number ≤ 21) × (place ≤ 23557)

-- past the last byte only question 19 is left
ended : (bytes : List ℕ) (b : Bool) (j : Job) → within_limits j ≡ true → length bytes ≤ 23557 → Small bytes (asked (ask 19 0 b ∷ []) j)
unfolding asked
ended bytes true j w h = (w, h)
ended bytes false j w h = (omega arith, omega arith)

-- a record is refused at its own index
abbrev Here : ℕ → Outcome Job → Type 0
Here index (accepted j) = Unit
Here index (refused number place) = (number ≤ 21) × (place ≡ index)

five : (i : ℕ) (a b c d e : Bool) (j : Job) → Here i (asked (ask 18 i a ∷ ask 19 i b ∷ ask 20 i c ∷ ask 1 i d ∷ ask 21 i e ∷ []) j)
unfolding asked
five i false b c d e j = (omega arith, refl)
five i true false c d e j = (omega arith, refl)
five i true true false d e j = (omega arith, refl)
five i true true true false e j = (omega arith, refl)
five i true true true true false j = (omega arith, refl)
five i true true true true true j = tt

asked_here : (bytes : List ℕ) (at index : ℕ) (j : Job) → Here index (turn bytes at index j)
unfolding record_questions
asked_here bytes at index j = five index _ _ _ _ _ (taken (mark_at bytes at) bytes at j)

small_from : (n : ℕ) (bytes : List ℕ) (at index : ℕ) (j : Job) → Spent at index j → within_limits j ≡ true → length bytes ≤ at + n → Small bytes (read_from n bytes at index j)
small_from zero bytes at index j s w f =
    let most = spent_most s w in
    rw (read_ended bytes at index j zero (omega arith)) (ended bytes (ltb 0 index) j w (omega arith))
small_from (suc n) bytes at index j s w f =
    by (λ i l q.
    let (next, fits) = spent_on bytes at index s q in
    rw (read_passed bytes at index j n l q) (small_from n bytes (at + record_bytes (mark_at bytes at) j.family) (suc index) i next fits (omega (arith, record_some (mark_at bytes at) j.family))))
    (ltb at (length bytes)) refl (turn bytes at index j) refl
  where
    most : at ≤ 23557
    most = spent_most s w

    by : ((i : Job) → at < length bytes → turn bytes at index j ≡ accepted i → Small bytes (read_from (suc n) bytes at index j)) → (b : Bool) → ltb at (length bytes) ≡ b → (o : Outcome Job) → turn bytes at index j ≡ o → Small bytes (read_from (suc n) bytes at index j)
    by again true l (accepted i) q = again i (ltb-true _ _ l) q
    by again true l (refused number place) q =
        let (few, here) = rw q at (asked_here bytes at index j) in
        rw (read_refused bytes at index j n (ltb-true _ _ l) q) (few, omega (arith, most, s.slow))
    by again false l o q =
        let end = ltb-false at (length bytes) l in
        rw (read_ended bytes at index j (suc n) end) (ended bytes (ltb 0 index) j w (omega (arith, most)))

small : (bytes : List ℕ) → Small bytes (read_job bytes)
unfolding read_job
small bytes = small_from (length bytes) bytes 0 0 empty_job spent_start start_within (omega arith)

-- an accepted job has at most 23,557 bytes: 5 + 512 * 18 + 256 * 38 + 256 * 18
pub accepted_length : (bytes : List ℕ) {j : Job} → read_job bytes ≡ accepted j → length bytes ≤ 23557
accepted_length bytes e = let (within, short) = rw e at (small bytes) in short

-- an accepted job has at most 512 nodes, 256 elements and 256 points
pub accepted_within : (bytes : List ℕ) {j : Job} → read_job bytes ≡ accepted j → within_limits j ≡ true
accepted_within bytes e = let (within, short) = rw e at (small bytes) in within

-- a refusal has a question's number up to 21, and a record's index up to 23,557
pub refused_small : (bytes : List ℕ) {number place : ℕ} → read_job bytes ≡ refused number place → (number ≤ 21) × (place ≤ 23557)
refused_small bytes e = rw e at (small bytes)

-- ---- a file that is longer

module _ (a b : List ℕ) (agree : (i : ℕ) → i < 23595 → get_or a i 0 ≡ get_or b i 0) (in_a : 23595 ≤ length a) (in_b : 23595 ≤ length b) where
  -- the two readings stay together until a record is refused
  same_from : (n m at index : ℕ) {j : Job} → Spent at index j → within_limits j ≡ true → length a ≤ at + n → length b ≤ at + m → read_from n a at index j ≡ read_from m b at index j
  same_from zero m at index s w f g = absurd (omega (arith, spent_most s w))
  same_from (suc n) zero at index s w f g = absurd (omega (arith, spent_most s w))
  same_from (suc n) (suc m) at index {j} s w f g =
      by (λ i q.
      let (next, fits) = spent_on b at index s q in
      let long = record_some (mark_at b at) j.family in
      same_from n m (at + record_bytes (mark_at b at) j.family) (suc index) next fits (omega arith) (omega arith))
      (turn b at index j) refl
    where
      most : at + 38 ≤ 23595
      most = omega (arith, spent_most s w)

      mark : mark_at a at ≡ mark_at b at
      mark = mark_same a b 23595 agree in_a in_b at most

      asks : turn a at index j ≡ turn b at index j
      asks = rw (questions_agree a b 23595 agree in_a in_b at most index j, mark, taken_same a b 23595 agree in_a in_b at most (mark_at b at) j)

      by : ((i : Job) → turn b at index j ≡ accepted i → let next = at + record_bytes (mark_at b at) j.family in read_from n a next (suc index) i ≡ read_from m b next (suc index) i) → (o : Outcome Job) → turn b at index j ≡ o → read_from (suc n) a at index j ≡ read_from (suc m) b at index j
      by again (accepted i) q = rw mark at (read_passed a at index j n (omega (arith, most)) (asks ∙ q)) ∙ again i q ∙ sym (read_passed b at index j m (omega (arith, most)) q)
      by again (refused number place) q = read_refused a at index j n (omega (arith, most)) (asks ∙ q) ∙ sym (read_refused b at index j m (omega (arith, most)) q)

-- the first 23,595 bytes of a file decide its answer
pub prefix : (bytes : List ℕ) → read_job (take 23595 bytes) ≡ read_job bytes
unfolding read_job
prefix bytes = by (leb (length bytes) 23595) refl
  where
    by : (b : Bool) → leb (length bytes) 23595 ≡ b → read_job (take 23595 bytes) ≡ read_job bytes
    by true h = ap read_job (take_all 23595 bytes (leb-true _ _ h))
    by false h =
        let long : 23595 < length bytes = leb-false _ _ h in
        let size : length (take 23595 bytes) ≡ 23595 = length-take-le 23595 bytes (omega arith) in
        same_from (take 23595 bytes) bytes (λ i l. get_or-take 23595 bytes i 0 l) (omega arith) (omega arith) (length (take 23595 bytes)) (length bytes) 0 0 spent_start start_within (omega arith) (omega arith)
