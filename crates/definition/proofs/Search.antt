-- What a seed's steps come to, by the first of them: for any places and any step, so for elements and for faces. Assumes nothing.
use mathlib.Core.Path.{◌≡◌, refl}
use Prim.Native.Nat.{ℕ, zero, suc, ◌-◌, ◌<◌}
use native.Mathlib.Numerals.{sub-one}
use native.Mathlib.Omega.{arith}
use Rattle.definition.specs.Search.{stepped, walked}
use Rattle.definition.specs.declared.Step.{Step}
use Rattle.definition.specs.declared.Step.TheVariants.{Stay, Last, More}

module _ {A : Type 0} (step : A → Step A) where
  pub walked_none : (a : A) → walked step 0 a ≡ a
  unfolding walked stepped
  walked_none a = refl

  pub walked_stay : (k : ℕ) (a : A) → step a ≡ Stay → walked step k a ≡ a
  unfolding walked stepped
  walked_stay zero a h = refl
  walked_stay (suc k) a h = rw h

  pub walked_last : (k : ℕ) (a b : A) → 0 < k → step a ≡ Last b → walked step k a ≡ b
  unfolding walked stepped
  walked_last zero a b p h = absurd (omega arith)
  walked_last (suc k) a b p h = rw h

  pub walked_more : (k : ℕ) (a b : A) → 0 < k → step a ≡ More b → walked step k a ≡ walked step (k - 1) b
  unfolding walked stepped
  walked_more zero a b p h = absurd (omega arith)
  walked_more (suc k) a b p h = rw (h, sub-one)
