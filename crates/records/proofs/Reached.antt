-- Where the reading stands, what is left to read comes to the job's answer: so it is at the start, so it stays with each record that passes, and so the answer is known where the bytes end. Assumes nothing.
use Rattle.std.proofs.Common.{◌≡◌, refl, sym, ◌∙◌, Bool, true, false, List, [], ◌∷◌, ℕ, zero, suc, ◌+◌, ◌-◌, ◌≤◌, ◌<◌, ltb, eqb, length, add-one, arith}
use Rattle.std.specs.Bool.{beq}
use borrow.Author.Tests.{leb-true, eqb-true, ltb-true}
use Rattle.std.proofs.lemmas.Bool.{and_parts}
use Rattle.definition.specs.Questions.{accepted, refused, ask, asked, is_family}
use Rattle.definition.specs.declared.Mark.{Mark}
use Rattle.definition.specs.declared.Mark.TheVariants.{Head, Node, Element, Point, Unknown}
use Rattle.definition.specs.Job.{is_known, is_head, Job, empty_job, mark_at, record_bytes, record_questions, taken, family_read, within_limits, read_from, read_job}
use Rattle.definition.proofs.Passing.{passes, asked_accepted, asked_with, held}
use Rattle.records.proofs.Marks.{record_some, limits_bound, start_within, room_is}
use Rattle.records.proofs.Turns.{read_passed, read_refused, read_ended}
use Rattle.records.specs.Reading.{room_for, Bounded}

-- ---- what a record that passes shows

pub record Ready (bytes : List ℕ) (at index : ℕ) (j : Job) : Type 0 where
  pub placed : beq (is_head (mark_at bytes at)) (eqb index 0) ≡ true
  pub whole : at + record_bytes (mark_at bytes at) j.family ≤ length bytes
  pub named : family_read (mark_at bytes at) bytes at ≡ true
  pub fits : within_limits (taken (mark_at bytes at) bytes at j) ≡ true

pub ready : {bytes : List ℕ} {at index : ℕ} {j : Job} → accepted tt ≡ asked (record_questions bytes at index j) (tt {0}) → Ready bytes at index j
unfolding passes record_questions
ready {bytes} {at} {index} {j} h =
    let (placed, rest) = and_parts _ _ (and_parts (is_known (mark_at bytes at)) _ (asked_accepted (record_questions bytes at index j) (sym h)).0).1 in
    let (whole, more) = and_parts _ _ rest in
    let (named, last) = and_parts _ _ more in
    record { placed = placed; whole = leb-true _ _ whole; named = named; fits = (and_parts _ _ last).0 }

-- the QF is the first record
pub head_first : {first : Bool} (index : ℕ) → beq first (eqb index 0) ≡ true → first ≡ true → index ≡ 0
head_first {first} index h e = eqb-true index 0 (by (eqb index 0) (rw e at h))
  where
    by : (b : Bool) → beq true b ≡ true → b ≡ true
    by true q = refl
    by false q = q

-- after the first record there is a family
later : (n : ℕ) → beq false (eqb n 0) ≡ true → 0 < n
later zero h = let z : ◌≡◌ {A = ℕ} 0 1 = cc in omega arith
later (suc n) h = omega arith

family_next : (m : Mark) (bytes : List ℕ) (at index : ℕ) (j : Job) → (0 < index → is_family j.family ≡ true) → beq (is_head m) (eqb index 0) ≡ true → family_read m bytes at ≡ true → is_family (taken m bytes at j).family ≡ true
unfolding taken
family_next Head bytes at index j known placed named = named
family_next Node bytes at index j known placed named = known (later index placed)
family_next Element bytes at index j known placed named = known (later index placed)
family_next Point bytes at index j known placed named = known (later index placed)
family_next Unknown bytes at index j known placed named = known (later index placed)

-- ---- what is left to read

pub record Reached (bytes : List ℕ) (at index : ℕ) (j : Job) : Type 0 where
  pub inside : at ≤ length bytes
  pub slow : index ≤ at
  pub start : index ≡ 0 → j ≡ empty_job
  pub limits : within_limits j ≡ true
  pub family : 0 < index → is_family j.family ≡ true
  pub iterations : j.iterations < 65536
  pub same : read_from (length bytes - index) bytes at index j ≡ read_job bytes

pub reached_start : (bytes : List ℕ) → Reached bytes 0 0 empty_job
unfolding read_job
reached_start bytes =
    record {
      inside = omega arith;
      slow = omega arith;
      start = λ h. refl;
      limits = start_within;
      family = λ h. absurd (omega arith);
      iterations = omega arith;
      same = let e : length bytes - 0 ≡ length bytes = omega arith in rw e;
    }

module _ {bytes : List ℕ} {at index : ℕ} {j : Job} (r : Reached bytes at index j) where
  fuel : at < length bytes → length bytes - index ≡ suc (length bytes - suc index)
  fuel l = omega (arith, r.slow)

  pub reached_next : at < length bytes → accepted tt ≡ asked (record_questions bytes at index j) (tt {0}) → (taken (mark_at bytes at) bytes at j).iterations < 65536 → Reached bytes (at + record_bytes (mark_at bytes at) j.family) (index + 1) (taken (mark_at bytes at) bytes at j)
  reached_next l h few =
      let m = mark_at bytes at in
      let shows = ready h in
      let accepts : asked (record_questions bytes at index j) (taken m bytes at j) ≡ accepted (taken m bytes at j) = asked_with (record_questions bytes at index j) (taken m bytes at j) h in
      record {
        inside = shows.whole;
        slow = omega (arith, record_some m j.family, r.slow);
        start = λ e. absurd (omega arith);
        limits = shows.fits;
        family = λ e. family_next m bytes at index j r.family shows.placed shows.named;
        iterations = few;
        same = rw add-one (sym (read_passed bytes at index j (length bytes - suc index) l accepts) ∙ rw (← fuel l) r.same);
      }

  pub reached_refused : {number place : ℕ} → at < length bytes → refused number place ≡ asked (record_questions bytes at index j) (tt {0}) → refused number place ≡ read_job bytes
  reached_refused l h =
      sym (read_refused bytes at index j (length bytes - suc index) l (asked_with (record_questions bytes at index j) (taken (mark_at bytes at) bytes at j) h)) ∙ rw (← fuel l) r.same

  -- there is room for a record that passes
  pub reached_room : accepted tt ≡ asked (record_questions bytes at index j) (tt {0}) → room_for (mark_at bytes at) j ≡ true
  reached_room h = let shows = ready h in room_is (mark_at bytes at) bytes at j r.limits (λ e. r.start (head_first index shows.placed e)) ∙ shows.fits

  -- past the last byte only question 19 is left
  ended : length bytes ≤ at → asked (ask 19 0 (ltb 0 index) ∷ []) j ≡ read_job bytes
  ended h = sym (read_ended bytes at index j (length bytes - index) h) ∙ r.same

  pub reached_end : length bytes ≤ at → accepted tt ≡ asked (ask 19 0 (ltb 0 index) ∷ []) (tt {0}) → accepted j ≡ read_job bytes
  reached_end l h = sym (asked_with (ask 19 0 (ltb 0 index) ∷ []) j h) ∙ ended l

  pub reached_none : {number place : ℕ} → length bytes ≤ at → refused number place ≡ asked (ask 19 0 (ltb 0 index) ∷ []) (tt {0}) → refused number place ≡ read_job bytes
  reached_none l h = sym (asked_with (ask 19 0 (ltb 0 index) ∷ []) j h) ∙ ended l

  pub reached_bounds : accepted tt ≡ asked (ask 19 0 (ltb 0 index) ∷ []) (tt {0}) → Bounded j
  reached_bounds h =
      let (nodes, elements, points) = limits_bound j r.limits in
      record { family = r.family (ltb-true 0 index (held 19 0 h)); iterations = r.iterations; nodes = nodes; elements = elements; points = points }
