-- The strain values by rows: each row is written from its place on, and the lists that the rows are made of hold what the definition reads. Assumes nothing.
use mathlib.Core.Path.{◌≡◌, refl, ◌∙◌}
use mathlib.Core.List.{List, [], ◌∷◌}
use Prim.Native.Nat.{ℕ, ◌+◌, ◌*◌, ◌≤◌, ◌<◌}
use native.Mathlib.Omega.{arith}
use lib.ListN.{length, get_or, take, replicate, get_or-replicate, length-replicate}
use lib.Seq.{length-take-le}
use lib.Ieee.{Float, nan}
use Rattle.std.proofs.lemmas.List.{get_or-take}
use Rattle.definition.specs.Lists.{each, over}
use Rattle.definition.specs.Binary64.{plus0}
use Rattle.definition.specs.Mapping.{first, second}
use Rattle.definition.specs.Rows.{Basis, hoop, strain_entry}
use Rattle.definition.specs.declared.Structural2dFormulation.{Structural2dFormulation}
use Rattle.definition.proofs.Lists.{each_same}
use Rattle.materials.specs.Products.{over_from}
use Rattle.materials.proofs.Writing.{part_next}
use Rattle.lists.specs.Values.{values_of}
use Rattle.lists.proofs.Values.{row_of, row_length, values_of_same}
use Rattle.rows.specs.Values.{entry_by}

-- ---- the four rows

-- the first and the second numbers of a row of F nodes
abbrev pub pairs : List Float → List Float → ℕ → List Float
pairs x y F = each (λ j. get_or x j nan ∷ get_or y j nan ∷ []) F

-- the next row is written
row_next : (value : ℕ → ℕ → ℕ → Float) (F i : ℕ) {at : ℕ} {before after row : List Float} (old : List Float) →
    at ≡ 2 * F * i → before ≡ over (each (row_of 2 F value) i) old → after ≡ over_from at row before → row ≡ row_of 2 F value i → after ≡ over (each (row_of 2 F value) (i + 1)) old
row_next value F i old p q e r = part_next (row_of 2 F value) (2 * F) i old (row_length 2 F value) q (rw (r, p) at e)

-- as many zeros as there are nodes
abbrev pub zeros : ℕ → List Float
zeros F = take F (replicate 9 plus0)

module _ {F : ℕ} (few : F ≤ 9) where
  zero_at : (j : ℕ) → j < F → get_or (zeros F) j nan ≡ plus0
  zero_at j h = get_or-take F (replicate 9 plus0) j nan h ∙ get_or-replicate 9 j plus0 nan (omega arith)

  zeros_length : length (zeros F) ≡ F
  zeros_length = length-take-le F (replicate 9 plus0) (rw length-replicate few)

pub rows_written : (x y t old : List Float) {a b c d : List Float} → length x ≤ 9 → length y ≡ length x → length t ≡ length x →
    a ≡ over_from 0 (pairs x (zeros (length x)) (length x)) old →
    b ≡ over_from (2 * length x) (pairs (zeros (length x)) y (length (zeros (length x)))) a →
    c ≡ over_from (4 * length x) (pairs t (zeros (length x)) (length t)) b →
    d ≡ over_from (6 * length x) (pairs y x (length y)) c →
    d ≡ over (values_of 4 2 (length x) (entry_by x y t)) old
unfolding entry_by each over
rows_written x y t old few same_y same_t p q r s =
    row_next (entry_by x y t) (length x) 3 old (omega arith)
    (row_next (entry_by x y t) (length x) 2 old (omega arith)
    (row_next (entry_by x y t) (length x) 1 old (omega arith)
    (row_next (entry_by x y t) (length x) 0 old (omega arith) refl p (each_same (λ j h. rw (zero_at few j h))))
    (rw (zeros_length few) at q) (each_same (λ j h. rw (zero_at few j h))))
    (rw same_t at r) (each_same (λ j h. rw (zero_at few j h))))
    (rw same_y at s) refl

-- ---- the lists that the rows are made of

pub entries_are : (f : Structural2dFormulation) (b : Basis) (x y t : List Float) {F : ℕ} → F ≤ length x →
    ((j : ℕ) → j < F → get_or x j nan ≡ first b.gradient j) →
    ((j : ℕ) → j < F → get_or y j nan ≡ second b.gradient j) →
    ((j : ℕ) → j < F → get_or t j nan ≡ hoop f b j) →
    values_of 4 2 (length (take F x)) (entry_by (take F x) (take F y) (take F t)) ≡ values_of 4 2 F (strain_entry f b)
unfolding entry_by strain_entry
entries_are f b x y t {F} few p q r =
    rw (length-take-le F x few) (values_of_same 2 (λ i j d a h. rw (get_or-take F x j nan h, get_or-take F y j nan h, get_or-take F t j nan h, p j h, q j h, r j h)))
