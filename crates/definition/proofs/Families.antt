-- An element has 9 nodes or 4: by the two families. Assumes nothing.
use mathlib.Core.Path.{◌≡◌, refl}
use mathlib.Core.Logic.{◌⊎◌, inl, inr}
use mathlib.Core.Bool.{true, false, cond}
use Prim.Native.Nat.{ℕ}
use lib.Dec.{eqb}
use Rattle.definition.specs.Elements.{nodes_of}

pub nodes_are : (family : ℕ) → (nodes_of family ≡ 9) ⊎ (nodes_of family ≡ 4)
unfolding nodes_of
nodes_are family = elim (eqb family 9) as (λ b. (◌≡◌ {A = ℕ} (cond b 9 4) 9) ⊎ (◌≡◌ {A = ℕ} (cond b 9 4) 4)) [ true ↦ inl refl | false ↦ inr refl ]
