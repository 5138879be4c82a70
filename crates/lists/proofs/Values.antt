-- The values of a point at their places: component after component, in each the nodes, and in each node the displacement components. Assumes nothing.
use mathlib.Core.Path.{◌≡◌, ◌∙◌}
use mathlib.Core.List.{List}
use Prim.Native.Nat.{ℕ, ◌+◌, ◌*◌, ◌<◌}
use native.Mathlib.Omega.{arith}
use lib.ListN.{length, get_or}
use lib.Ieee.{Float, nan}
use Rattle.definition.specs.Lists.{each, over}
use Rattle.definition.specs.Query.{values}
use Rattle.definition.proofs.Lists.{each_same, each_length, each_at, values_length, values_at, over_at}
use Rattle.lists.specs.Values.{values_of}
use Rattle.lists.proofs.Parts.{part_fits}

-- the values of a component
abbrev pub row_of : ℕ → ℕ → (ℕ → ℕ → ℕ → Float) → ℕ → List Float
row_of c F value i = each (λ j. values (value i j) c) F

pub row_length : (c F : ℕ) (value : ℕ → ℕ → ℕ → Float) (i : ℕ) → length (row_of c F value i) ≡ c * F
row_length c F value i = each_length (λ j. values (value i j) c) (λ j l. values_length (value i j) c)

pub values_of_same : (c : ℕ) {v w : ℕ → ℕ → ℕ → Float} {k F : ℕ} → ((i j d : ℕ) → i < k → j < F → v i j d ≡ w i j d) → values_of k c F v ≡ values_of k c F w
values_of_same c e = each_same (λ i a. each_same (λ j b. each_same (λ d l. rw (e i j d a b))))

pub values_of_length : (k c F : ℕ) (value : ℕ → ℕ → ℕ → Float) → length (values_of k c F value) ≡ c * F * k
values_of_length k c F value = each_length (row_of c F value) (λ i l. row_length c F value i)

-- the value of component i, node j and displacement component d
module _ (value : ℕ → ℕ → ℕ → Float) {k c F i j d : ℕ} (a : i < k) (b : j < F) (l : d < c) where
  pub values_of_at : get_or (values_of k c F value) (c * F * i + (c * j + d)) nan ≡ value i j d
  values_of_at =
      each_at (row_of c F value) nan (λ i h. row_length c F value i) a (omega (arith, part_fits c b))
      ∙ each_at (λ j. values (value i j) c) nan (λ j h. values_length (value i j) c) b l
      ∙ values_at (value i j) nan l

  pub written_at : (old : List Float) → get_or (over (values_of k c F value) old) (c * F * i + (c * j + d)) nan ≡ value i j d
  written_at old = over_at (values_of k c F value) old nan (rw (values_of_length k c F value) (omega (arith, part_fits (c * F) a, part_fits c b))) ∙ values_of_at
