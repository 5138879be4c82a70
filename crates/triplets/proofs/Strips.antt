-- Triplets put one after the other are one list of triplets, and triplets that have room from place 0 on are written over the lists: by the laws of a fold. Assumes nothing.
use mathlib.Core.Path.{◌≡◌, refl, ap, ◌∙◌}
use mathlib.Core.Bool.{true, false, cond, ◌&&◌}
use mathlib.Core.List.{List, [], ◌∷◌, ◌++◌, map, map-append}
use Prim.Native.Nat.{ℕ, ◌+◌, ◌≤◌, ◌<◌}
use native.Mathlib.Omega.{arith}
use lib.Dec.{ltb}
use lib.ListN.{length, set, length-append, length-map, length-set}
use borrow.Author.Tests.{lt-ltb}
use Rattle.std.proofs.lemmas.List.Sums.{fold-append}
use Rattle.definition.specs.Lists.{each, over}
use Rattle.definition.specs.Operators.{TripletLists, triplets_over}
use Rattle.definition.specs.Rows.{Triplet}
use Rattle.definition.proofs.Lists.{each_more, fold_on, over_length, over_next}
use Rattle.triplets.specs.Strip.{Strip, strip, stored, written}

-- one part more of triplets in parts
pub written_each : (s : Strip) (g : ℕ → List Triplet) (n : ℕ) {q r : Strip} → q ≡ written s (each g n) → r ≡ written q (g n) → r ≡ written s (each g (n + 1))
unfolding written
written_each s g n e h = rw each_more (cc (fold-append stored s (each g n) (g n)))

-- the lists keep their lengths
abbrev pub lengths : Strip → List ℕ
lengths s = length s.lists.rows ∷ length s.lists.columns ∷ length s.lists.values ∷ []

stored_keeps : (s : Strip) (t : Triplet) → lengths (stored s t) ≡ lengths s
unfolding stored
stored_keeps s t =
    let l = s.lists in
    elim (ltb s.at (length l.rows) && ltb s.at (length l.columns) && ltb s.at (length l.values))
    as (λ b. lengths (cond b (strip (set l.rows s.at t.row) (set l.columns s.at t.column) (set l.values s.at t.value) (s.at + 1)) s) ≡ lengths s)
    [ true ↦ simp length-set | false ↦ refl ]

pub written_keeps : (s : Strip) (ts : List Triplet) {r : Strip} → r ≡ written s ts → lengths r ≡ lengths s
unfolding written
written_keeps s [] e = ap lengths e
written_keeps s (t ∷ ts) e = written_keeps (stored s t) ts e ∙ stored_keeps s t

-- ---- triplets that have room

-- three lists have n places each
abbrev pub Room : TripletLists → ℕ → Type 0
Room l n = (n ≤ length l.rows) × (n ≤ length l.columns) × (n ≤ length l.values)

-- the lists with the triplets `done` in their first places, and the place after them
abbrev after : TripletLists → List Triplet → Strip
after l done = record { lists = triplets_over done l; at = length done }

-- one value more of a triplet is a store at the place after those of the triplets before
over_more : {A : Type 0} (f : Triplet → A) (done : List Triplet) (t : Triplet) (old : List A) → length done < length old → over (map f (done ++ t ∷ [])) old ≡ set (over (map f done) old) (length done) (f t)
over_more f done t old h = rw (map-append f done (t ∷ []), over_next (map f done) old (f t) (rw length-map h), length-map)

-- and its place is in the list
over_place : {A : Type 0} (f : Triplet → A) (done : List Triplet) (old : List A) → length done < length old → ltb (length done) (length (over (map f done) old)) ≡ true
over_place f done old h = lt-ltb (length done) (length (over (map f done) old)) (rw (over_length (map f done) old (rw length-map (omega arith))) h)

module _ (l : TripletLists) where
  stored_after : (done : List Triplet) (t : Triplet) → Room l (length done + 1) → stored (after l done) t ≡ after l (done ++ t ∷ [])
  unfolding stored triplets_over
  stored_after done t h =
      rw (over_place (λ t. t.row) done l.rows (omega (arith, h.0)), over_place (λ t. t.column) done l.columns (omega (arith, h.1)), over_place (λ t. t.value) done l.values (omega (arith, h.2)), over_more (λ t. t.row) done t l.rows (omega (arith, h.0)), over_more (λ t. t.column) done t l.columns (omega (arith, h.1)), over_more (λ t. t.value) done t l.values (omega (arith, h.2)), length-append)

  pub written_over : (ts : List Triplet) → Room l (length ts) → written (record { lists = l; at = 0 }) ts ≡ after l ts
  unfolding written over triplets_over
  written_over ts h = fold_on stored (after l) {n = length ts} (λ done t m. stored_after done t (omega (arith, h.0), omega (arith, h.1), omega (arith, h.2))) [] ts (omega arith)
