-- The nearest of the elements or of the faces met so far.
use Rattle.std.specs.Prelude.{◌≡◌, ℕ, Float}
use Rattle.definition.specs.Root.{root_of}
use Rattle.definition.specs.Choice.{pick}
use Rattle.definition.specs.declared.Best.{Best}
use Rattle.choice.specs.declared.near.Near.{Near}

-- the distance to number i, the root of its search's best
abbrev pub distance_to : {A : Type 0} → (ℕ → Best A) → ℕ → Float
distance_to found_at i = root_of (found_at i).square

-- of the first n, the one that the definition names
abbrev pub IsNearest : {A : Type 0} → (ℕ → Best A) → ℕ → Near A → Type 0
IsNearest found_at n near = (near.number ≡ pick (distance_to found_at) n) × (near.best ≡ found_at near.number)
