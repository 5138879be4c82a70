-- The best place after each seed. Assumes nothing.
use mathlib.Core.Path.{◌≡◌, refl}
use mathlib.Core.Bool.{Bool, true, false, cond}
use mathlib.Core.List.{List}
use Prim.Native.Nat.{ℕ, zero, suc, ◌+◌, ◌<◌}
use native.Mathlib.Numerals.{add-one}
use lib.ListN.{length, get_or}
use lib.Ieee.{lt}
use Rattle.std.proofs.lemmas.List.{get_or_default}
use Rattle.definition.specs.Search.{walked, placed, nearer, best_of}
use Rattle.definition.specs.declared.Best.{Best}
use Rattle.definition.specs.declared.Point.{Point}
use Rattle.definition.specs.declared.Step.{Step}
use Rattle.definition.proofs.Choice.{lt_self}

module _ {A : Type 0} (point_of : A → Point) (t : Point) where
  -- a place at the best's own reference is not nearer
  pub met : (best : Best A) (a : A) → best ≡ placed point_of t best.at → a ≡ best.at → best ≡ nearer best (placed point_of t a)
  unfolding nearer
  met best a p q = rw (q, ← p, lt_self best.square)

  of_either : (b : Bool) (new best : Best A) → new ≡ placed point_of t new.at → best ≡ placed point_of t best.at → cond b new best ≡ placed point_of t (cond b new best).at
  of_either true new best p q = p
  of_either false new best p q = q

module _ {A : Type 0} (point_of : A → Point) (step : A → Step A) (t : Point) (limit : ℕ) (start : A) (seeds : List A) where
  -- each best is the place at its own reference
  pub own_place : (i : ℕ) → best_of point_of step t limit start seeds i ≡ placed point_of t (best_of point_of step t limit start seeds i).at
  unfolding best_of nearer placed
  own_place zero = refl
  own_place (suc i) = of_either point_of t (lt (placed point_of t (walked step limit (get_or seeds i start))).square (best_of point_of step t limit start seeds i).square) (placed point_of t (walked step limit (get_or seeds i start))) (best_of point_of step t limit start seeds i) refl (own_place i)

  pub begun : placed point_of t start ≡ best_of point_of step t limit start seeds 0
  unfolding best_of
  begun = refl

  pub next : (i : ℕ) {best : Best A} {a seed : A} → best ≡ best_of point_of step t limit start seeds i → i < length seeds → seed ≡ get_or seeds i seed → a ≡ walked step limit seed → nearer best (placed point_of t a) ≡ best_of point_of step t limit start seeds (i + 1)
  unfolding best_of
  next i {seed = seed} p l q r = rw (p, r, add-one i, ← get_or_default seeds i seed start l, ← q)
