-- An element has fewer than F distinct nodes exactly where two of its nodes are equal; and a mesh of which one element has. Assumes nothing.
use mathlib.Core.Path.{◌≡◌, refl}
use mathlib.Core.Bool.{Bool, true, false, cond, ◌||◌}
use mathlib.Core.List.{List, [], ◌∷◌}
use Prim.Native.Nat.{ℕ, zero, suc, ◌+◌, ◌≤◌, ◌<◌, zero-le}
use native.Mathlib.Nat.{le_of_suc-le-suc, not-suc-le-zero}
use native.Mathlib.Omega.{arith}
use borrow.Author.Tests.{eqb-true, eq-eqb}
use lib.Dec.{eqb}
use lib.ListN.{length, get_or}
use Rattle.definition.specs.Mesh.{is_in, distinct, repeated_count}
use Rattle.definition.proofs.Computing.{querying}

-- places i and j of the list, i before j, hold one number
pub record Pair (l : List ℕ) : Type 0 where
  pub i : ℕ
  pub j : ℕ
  pub before : i < j
  pub within : j < length l
  pub equal : get_or l i 0 ≡ get_or l j 0

-- what is in a list has a place there, and the other way round
pub place_of : (v : ℕ) (l : List ℕ) → is_in v l ≡ true → (j : ℕ) × (j < length l) × (v ≡ get_or l j 0)
unfolding is_in
place_of v [] h = absurd (let z : ◌≡◌ {A = ℕ} 0 1 = cc in omega arith)
place_of v (w ∷ ws) h = by (eqb v w) refl h (place_of v ws)
  where
    by : (b : Bool) → eqb v w ≡ b → (b || is_in v ws) ≡ true → (is_in v ws ≡ true → (j : ℕ) × (j < length ws) × (v ≡ get_or ws j 0)) → (j : ℕ) × (j < suc (length ws)) × (v ≡ get_or (w ∷ ws) j 0)
    by true e h later = (0, omega arith, eqb-true v w e)
    by false e h later = let p = later h in (suc p.0, omega arith, p.2)

pub is_in_lem : (v : ℕ) (l : List ℕ) (j : ℕ) → j < length l → v ≡ get_or l j 0 → is_in v l ≡ true
unfolding is_in
is_in_lem v [] j h e = absurd (not-suc-le-zero h)
is_in_lem v (w ∷ ws) zero h e = rw (eq-eqb v w e)
is_in_lem v (w ∷ ws) (suc j) h e = by (eqb v w) (is_in_lem v ws j (le_of_suc-le-suc h) e)
  where
    by : (b : Bool) → is_in v ws ≡ true → (b || is_in v ws) ≡ true
    by true later = refl
    by false later = later

pub distinct_most : (l : List ℕ) → distinct l ≤ length l
unfolding distinct
distinct_most [] = zero-le
distinct_most (v ∷ vs) = by (is_in v vs) (distinct_most vs)
  where
    by : (b : Bool) → distinct vs ≤ length vs → cond b 0 1 + distinct vs ≤ suc (length vs)
    by true later = omega arith
    by false later = omega arith

pub pair_of_fewer : (l : List ℕ) → distinct l < length l → Pair l
unfolding distinct
pair_of_fewer [] h = absurd (not-suc-le-zero h)
pair_of_fewer (v ∷ vs) h = by (is_in v vs) refl h (pair_of_fewer vs)
  where
    by : (b : Bool) → is_in v vs ≡ b → cond b 0 1 + distinct vs < suc (length vs) → (distinct vs < length vs → Pair vs) → Pair (v ∷ vs)
    by true e h later = let p = place_of v vs e in record { i = 0; j = suc p.0; before = omega arith; within = omega (arith, p.1); equal = p.2 }
    by false e h later =
        let p = later (omega arith) in
        record { i = suc p.i; j = suc p.j; before = omega (arith, p.before); within = omega (arith, p.within); equal = p.equal }

fewer_of_places : (l : List ℕ) (i j : ℕ) → i < j → j < length l → get_or l i 0 ≡ get_or l j 0 → distinct l < length l
unfolding distinct
fewer_of_places [] i j b w e = absurd (not-suc-le-zero w)
fewer_of_places (v ∷ vs) i zero b w e = absurd (not-suc-le-zero b)
fewer_of_places (v ∷ vs) zero (suc j) b w e = rw (is_in_lem v vs j (le_of_suc-le-suc w) e) (omega (arith, distinct_most vs))
fewer_of_places (v ∷ vs) (suc i) (suc j) b w e = by (is_in v vs) (fewer_of_places vs i j (le_of_suc-le-suc b) (le_of_suc-le-suc w) e)
  where
    by : (c : Bool) → distinct vs < length vs → cond c 0 1 + distinct vs < suc (length vs)
    by true later = omega arith
    by false later = omega arith

pub fewer_of_pair : (l : List ℕ) → Pair l → distinct l < length l
fewer_of_pair l p = fewer_of_places l p.i p.j p.before p.within p.equal

-- "The count of elements with fewer than F distinct nodes": of an element with four and one with three
one_repeats : repeated_count (record { family = 4; nodes = []; elements = 0 ∷ 1 ∷ 2 ∷ 3 ∷ 0 ∷ 1 ∷ 2 ∷ 2 ∷ [] }) ≡ 1
unfolding querying
one_repeats = refl
