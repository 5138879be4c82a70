-- A lent list written from a place on: what one value more is, and what comes of writing on where the last call ended. Assumes nothing.
use mathlib.Core.Path.{◌≡◌}
use mathlib.Core.List.{List, [], ◌∷◌, ◌++◌, append_assoc, append-nil}
use Prim.Native.Nat.{ℕ, ◌+◌, ◌*◌, ◌≤◌, ◌<◌}
use native.Mathlib.Omega.{arith}
use lib.ListN.{length, set, take, take-append-drop, length-append}
use lib.Seq.{length-take-le, drop-length, drop-append-add, drop-drop}
use Rattle.definition.specs.Lists.{each, over}
use Rattle.definition.specs.Query.{values}
use Rattle.definition.proofs.Lists.{each_more, each_length, values_length, pairs_length, over_take, over_next, over_two}
use Rattle.materials.specs.Products.{over_from}

-- nothing written
pub over_from_none : {A : Type 0} (at : ℕ) (old : List A) → at ≤ length old → over_from at [] old ≡ old
unfolding over_from over
over_from_none at old h = rw (append-nil, length-take-le at old h) (take-append-drop at old)

-- one value more is a store at the next place, and one pair more is two stores
pub over_from_value : {A : Type 0} (v : ℕ → A) (at n : ℕ) (old : List A) → at + n < length old → over_from at (values v (n + 1)) old ≡ set (over_from at (values v n) old) (at + n) (v n)
unfolding over_from
over_from_value v at n old h =
    let before = take at old ++ values v n in
    let size : length before ≡ at + n = rw (length-append, length-take-le at old (omega arith), values_length v n) in
    rw (each_more, ← append_assoc, over_next before old (v n) (rw size h), size)

pub over_from_pair : {A : Type 0} (x y : ℕ → A) (at k : ℕ) (old : List A) → at + 2 * k + 1 < length old →
    over_from at (each (λ i. x i ∷ y i ∷ []) (k + 1)) old ≡ set (set (over_from at (each (λ i. x i ∷ y i ∷ []) k) old) (at + 2 * k) (x k)) (at + 2 * k + 1) (y k)
unfolding over_from
over_from_pair x y at k old h =
    let before = take at old ++ each (λ i. x i ∷ y i ∷ []) k in
    let size : length before ≡ at + 2 * k = rw (length-append, length-take-le at old (omega arith), pairs_length x y k) in
    rw (each_more, ← append_assoc, over_two before old (x k) (y k) (rw size h), size)

over_over : {A : Type 0} (new more old : List A) → over (new ++ more) (over new old) ≡ over (new ++ more) old
unfolding over
over_over new more old = rw (length-append, drop-append-add, drop-drop)

-- written on where the new values end
pub over_from_over : {A : Type 0} (new more old : List A) → over_from (length new) more (over new old) ≡ over (new ++ more) old
unfolding over_from
over_from_over new more old = rw over_take (over_over new more old)

-- a list written over whole
pub over_whole : {A : Type 0} (new old : List A) → length new ≡ length old → over new old ≡ new
unfolding over
over_whole new old h = rw (h, drop-length, append-nil)

-- ---- parts of k entries each, one after the other

pub part_next : {A : Type 0} (g : ℕ → List A) (k i : ℕ) {before after : List A} (old : List A) → ((j : ℕ) → length (g j) ≡ k) →
    before ≡ over (each g i) old → after ≡ over_from (k * i) (g i) before → after ≡ over (each g (i + 1)) old
part_next g k i old e p q =
    let size : length (each g i) ≡ k * i = each_length g (λ j l. e j) in
    rw (q, p, ← size, each_more) (over_from_over (each g i) (g i) old)
