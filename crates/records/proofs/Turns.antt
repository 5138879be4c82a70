-- One turn of the definition's reading: a record that passes is taken, one that does not is the answer, and past the last byte the reading ends. Assumes nothing.
use mathlib.Core.Path.{◌≡◌, refl}
use mathlib.Core.List.{List, [], ◌∷◌}
use Prim.Native.Nat.{ℕ, zero, suc, ◌+◌, ◌≤◌, ◌<◌}
use borrow.Author.Tests.{lt-ltb, le-ltb}
use lib.Dec.{ltb}
use lib.ListN.{length}
use Rattle.definition.specs.Questions.{accepted, refused, ask, asked}
use Rattle.definition.specs.Job.{Job, mark_at, record_bytes, record_questions, taken, read_from}

module _ (bytes : List ℕ) (at index : ℕ) (j : Job) where
  pub read_passed : (n : ℕ) {k : Job} → at < length bytes → asked (record_questions bytes at index j) (taken (mark_at bytes at) bytes at j) ≡ accepted k → read_from (suc n) bytes at index j ≡ read_from n bytes (at + record_bytes (mark_at bytes at) j.family) (suc index) k
  unfolding read_from
  read_passed n h e = rw (lt-ltb at (length bytes) h, e, read_from)

  pub read_refused : (n : ℕ) {number place : ℕ} → at < length bytes → asked (record_questions bytes at index j) (taken (mark_at bytes at) bytes at j) ≡ refused number place → read_from (suc n) bytes at index j ≡ refused number place
  unfolding read_from
  read_refused n h e = rw (lt-ltb at (length bytes) h, e, read_from)

  pub read_ended : (n : ℕ) → length bytes ≤ at → read_from n bytes at index j ≡ asked (ask 19 0 (ltb 0 index) ∷ []) j
  unfolding read_from
  read_ended zero h = refl
  read_ended (suc n) h = rw (le-ltb at (length bytes) h, read_from)
