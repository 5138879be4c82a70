-- A number stands in a list where the library's test finds it there, and a row has a number twice where a later place has the number of an earlier one. Assumes nothing.
use mathlib.Core.Path.{◌≡◌, refl, ap₂}
use mathlib.Core.Bool.{Bool, true, false, cond, ◌||◌}
use mathlib.Core.List.{List, [], ◌∷◌}
use Prim.Native.Nat.{ℕ, suc, ◌+◌, ◌-◌, ◌<◌}
use native.Mathlib.Numerals.{add-one, one-add}
use native.Mathlib.Omega.{arith}
use borrow.Author.Rules.{rules}
use borrow.Author.Tests.{lt-ltb}
use lib.Dec.{ltb, eqb, leb-suc-suc}
use lib.ListN.{length, get_or, take, drop}
use lib.Seq.{drop-cons}
use Rattle.std.proofs.lemmas.List.{take_rest}
use Rattle.std.specs.List.{list_any}
use Rattle.definition.specs.Mesh.{is_in, distinct}
use Rattle.definition.proofs.Distinct.{distinct_most}

-- two numbers of the list are equal: it has fewer distinct numbers than places
abbrev pub repeats : List ℕ → Bool
repeats l = ltb (distinct l) (length l)

pub repeats_cons : (v : ℕ) (vs : List ℕ) → repeats (v ∷ vs) ≡ is_in v vs || repeats vs
unfolding distinct
repeats_cons v vs = by vs (is_in v vs)
  where
    by : (vs : List ℕ) (b : Bool) → ltb (cond b 0 1 + distinct vs) (suc (length vs)) ≡ b || repeats vs
    by vs true = lt-ltb (0 + distinct vs) (suc (length vs)) (omega (arith, distinct_most vs))
    by vs false = rw (one-add, leb-suc-suc)

pub list_any-is_in : (v : ℕ) (l : List ℕ) → list_any (λ w. eqb w v) l ≡ is_in v l
unfolding is_in
list_any-is_in v [] = refl
list_any-is_in v (w ∷ ws) = ap₂ ◌||◌ (search rules) (list_any-is_in v ws)

-- what is left of l from place i on: b is whether the number at i stands again later
pub repeats_next : (l : List ℕ) {i : ℕ} {b : Bool} → i < length l → b ≡ list_any (λ w. eqb w (get_or l i 0)) (take (length l - (i + 1)) (drop (i + 1) l)) → repeats (drop i l) ≡ b || repeats (drop (i + 1) l)
repeats_next l {i} h e = rw (e, take_rest l (i + 1), list_any-is_in (get_or l i 0) (drop (i + 1) l), add-one i, drop-cons l i 0 h) (repeats_cons (get_or l i 0) (drop (suc i) l))
