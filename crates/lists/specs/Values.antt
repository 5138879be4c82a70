-- The values of a point in the order of its triplets.
use Rattle.std.specs.Prelude.{List, [], ◌∷◌, ℕ, Float}
use Rattle.definition.specs.Lists.{each}

-- "by point, component, local node, displacement component": the values of a point, with k rows a point and c columns a node, of an element of F nodes
abbrev pub values_of : ℕ → ℕ → ℕ → (ℕ → ℕ → ℕ → Float) → List Float
values_of k c F value = each (λ i. each (λ j. each (λ d. value i j d ∷ []) c) F) k
