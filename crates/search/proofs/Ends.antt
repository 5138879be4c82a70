-- The steps that are left from a place, and a step that ended the steps of a seed: it ends them wherever it is made again. Assumes nothing.
use mathlib.Core.Path.{◌≡◌, sym, ◌∙◌}
use Prim.Native.Nat.{ℕ, zero, suc, ◌+◌, ◌-◌, ◌<◌, ◌≤◌}
use native.Mathlib.Nat.{zero-lt-suc}
use native.Mathlib.Omega.{arith}
use Rattle.std.proofs.Common.{Option, Some}
use Rattle.definition.specs.Search.{walked}
use Rattle.definition.specs.declared.Step.{Step}
use Rattle.definition.specs.declared.Step.TheVariants.{Stay, Last, More}
use Rattle.definition.proofs.Search.{walked_none, walked_stay, walked_last, walked_more}
use Rattle.search.specs.Steps.{Ends, Remembered}
use Rattle.search.specs.declared.searching.LastStep.{LastStep}

module _ {A : Type 0} (step : A → Step A) where
  pub stays : (a : A) → step a ≡ Stay → Ends step a a
  stays a h k = walked_stay step (suc k) a h

  pub lasts : (a b : A) → step a ≡ Last b → Ends step a b
  lasts a b h k = walked_last step (suc k) a b (zero-lt-suc k) h

  pub known_ends : (a : A) {b : A} {known : Option (LastStep A)} → known ≡ Some (record { from = a; to = b }) → Remembered step known → Ends step a b
  known_ends a p h = rw p at h

  -- where steps end before all that are left are made
  pub left_at : (limit made : ℕ) (a : A) {b z : A} → made < limit → Ends step a b → walked step (limit - made) a ≡ z → b ≡ z
  left_at limit made a {b = b} {z = z} p e h = by (limit - made) (omega arith) h
    where
      by : (k : ℕ) → 0 < k → walked step k a ≡ z → b ≡ z
      by zero p h = absurd (omega arith)
      by (suc k) p h = sym (e k) ∙ h

  -- one step more is made of those that are left
  pub on : (limit made : ℕ) (a b : A) → made < limit → step a ≡ More b → walked step (limit - (made + 1)) b ≡ walked step (limit - made) a
  on limit made a b p h =
      let left : limit - made - 1 ≡ limit - (made + 1) = omega arith in
      let some : 0 < limit - made = omega arith in
      rw (walked_more step (limit - made) a b some h, left)

  -- no step is left
  pub all_made : (limit made : ℕ) (a : A) {z : A} → limit ≤ made → walked step (limit - made) a ≡ z → a ≡ z
  all_made limit made a p h =
      let left : limit - made ≡ 0 = omega arith in
      sym (walked_none step a) ∙ (rw left at h)
