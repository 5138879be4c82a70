-- The number of a family's nodes is a family with that number: by the two families. Assumes nothing.
use mathlib.Core.Path.{◌≡◌, refl}
use mathlib.Core.Logic.{inl, inr}
use Prim.Native.Nat.{ℕ}
use Rattle.definition.specs.Elements.{nodes_of}
use Rattle.definition.proofs.Families.{nodes_are}

pub nodes_again : (family : ℕ) → nodes_of (nodes_of family) ≡ nodes_of family
nodes_again family = elim (nodes_are family) [ inl e ↦ unfold nodes_of in rw e refl | inr e ↦ unfold nodes_of in rw e refl ]
