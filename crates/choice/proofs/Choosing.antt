-- The first minimum, found by a walk that goes on to the next one only where it is smaller. Assumes nothing.
use mathlib.Core.Path.{◌≡◌, refl, ap, sym, ◌∙◌}
use mathlib.Core.Bool.{Bool, true, false, cond}
use Prim.Native.Nat.{ℕ, ◌+◌}
use native.Mathlib.Numerals.{add-one}
use lib.Dec.{T}
use lib.Ieee.{Float, binary64, fits, lt}
use Rattle.std.proofs.Common.{Option, Some, None, is_some, IfSome, MatchOption}
use Rattle.std.specs.Bool.{then_some}
use Rattle.definition.specs.Root.{root_of}
use Rattle.definition.specs.Choice.{pick}
use Rattle.definition.specs.declared.Best.{Best}
use Rattle.definition.proofs.Choice.{pick_more}
use Rattle.definition.proofs.Root.{root_not_smaller}
use Rattle.choice.specs.Nearest.{distance_to, IsNearest}
use Rattle.choice.specs.declared.near.Near.{Near}

-- one more, also where it is the first
pick_next : (d : ℕ → Float) (n : ℕ) → pick d (n + 1) ≡ cond (lt (d n) (d (pick d n))) n (pick d n)
pick_next d n = ap (pick d) (add-one n) ∙ pick_more d n

-- nodes compare their squares: the number of the nearest so far, with its square beside it
pub goes_on : (d : ℕ → Float) (n : ℕ) {best : ℕ} {least new : Float} → best ≡ pick d n → least ≡ d best → new ≡ d n → lt new least ≡ true → (n ≡ pick d (n + 1)) × (new ≡ d n)
goes_on d n p q r h =
    let t : lt (d n) (d (pick d n)) ≡ true = cc (h, p, q, r) in
    (rw (pick_next d n, t) refl, r)

pub stays : (d : ℕ → Float) (n : ℕ) {best : ℕ} {least new : Float} → best ≡ pick d n → least ≡ d best → new ≡ d n → lt new least ≡ false → (best ≡ pick d (n + 1)) × (least ≡ d best)
stays d n p q r h =
    let t : lt (d n) (d (pick d n)) ≡ false = cc (h, p, q, r) in
    (rw (p, pick_next d n, t) refl, q)

-- elements and faces compare their distances
module _ {A : Type 0} (found_at : ℕ → Best A) (n : ℕ) (near : Near A) {found : Best A} (nearest : IsNearest found_at n near) (here : found ≡ found_at n) where
  pub taken : lt (root_of found.square) near.distance ≡ true → (n ≡ pick (distance_to found_at) (n + 1)) × (found ≡ found_at n)
  taken h =
      let d = distance_to found_at in
      let t : lt (d n) (d (pick d n)) ≡ true = cc (nearest.0, nearest.1, here, near.rooted, h) in
      (rw (pick_next d n, t) refl, here)

  pub kept : lt (root_of found.square) near.distance ≡ false → IsNearest found_at (n + 1) near
  kept h =
      let d = distance_to found_at in
      let t : lt (d n) (d (pick d n)) ≡ false = cc (nearest.0, nearest.1, here, near.rooted, h) in
      (rw (pick_next d n, t) nearest.0, nearest.1)

module _ {A : Type 0} (found_at : ℕ → Best A) (near : Near A) where
  pub first_is : near.number ≡ 0 → near.best ≡ found_at 0 → IsNearest found_at 0 near
  unfolding pick
  first_is i b = (i, rw i b)

-- a root that was taken where the square is smaller, and kept where the root is too
pub smaller_kept : (x y : Float) (taken : Option Float) {d : Float} {kept : Option Float} (Taken : Float → Type 0) (Tested : Float → Bool → Type 0) → T (fits binary64 x) → T (fits binary64 y) → d ≡ root_of y →
    is_some taken ≡ lt x y → IfSome taken Taken → ((v : Float) → Taken v → v ≡ root_of x) →
    MatchOption taken (kept ≡ None) (λ v. (b : Bool) × Tested v b × (kept ≡ then_some b v)) → ((v : Float) (b : Bool) → Tested v b → b ≡ lt v d) →
    kept ≡ then_some (lt (root_of x) d) (root_of x)
smaller_kept x y None Taken Tested f g p s i root m test = rw (p, root_not_smaller x y f g (sym s)) m
smaller_kept x y (Some v) Taken Tested f g p s i root m test = rw (← root v i, ← test v m.0 m.1) m.2

-- what an answer says of its test
pub is_smaller : (b : Bool) (x : Float) {y : Float} {r : Option Float} → r ≡ then_some b x → r ≡ Some y → b ≡ true
is_smaller true x p q = refl
is_smaller false x p q = cc

pub is_no_smaller : (b : Bool) (x : Float) {r : Option Float} → r ≡ then_some b x → r ≡ None → b ≡ false
is_no_smaller true x p q = cc
is_no_smaller false x p q = refl
