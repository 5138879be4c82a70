-- Material times strain values are the stress values: each is four terms, over the four components of the same node and displacement component. Assumes nothing.
use mathlib.Core.Path.{◌≡◌, refl, ap, ◌∙◌}
use mathlib.Core.List.{List, [], ◌∷◌, append_assoc}
use Prim.Native.Nat.{ℕ, zero, suc, ◌+◌, ◌*◌, ◌<◌}
use native.Mathlib.Nat.{add-zero}
use native.Mathlib.Omega.{arith}
use lib.ListN.{get_or}
use lib.Ieee.{Float, nan}
use Rattle.definition.specs.Lists.{each, over}
use Rattle.definition.specs.Query.{values}
use Rattle.definition.specs.Rows.{Basis, strain_entry, stress_entry}
use Rattle.definition.specs.declared.Structural2dFormulation.{Structural2dFormulation}
use Rattle.definition.proofs.Lists.{each_same, each_more}
use Rattle.materials.specs.Products.{entry_of, times_of}
use Rattle.materials.specs.Sixteen.{sixteen}
use Rattle.materials.proofs.Sixteen.{times_of_sixteen}
use Rattle.lists.specs.Values.{values_of}
use Rattle.lists.proofs.Values.{written_at}

-- two entries a node
values_by_node : {A : Type 0} (v : ℕ → A) (F : ℕ) → values v (2 * F) ≡ each (λ j. values (λ d. v (2 * j + d)) 2) F
unfolding each
values_by_node v zero = refl
values_by_node v (suc F) =
    let e : 2 * suc F ≡ 2 * F + 1 + 1 = omega arith in
    rw (e, each_more, each_more, append_assoc, values_by_node v F, add-zero)

-- the four strains that a stress entry is made of stand at column t of the four rows
entry_is : (material : List Float) (f : Structural2dFormulation) (b : Basis) (F i : ℕ) {j d : ℕ} (old : List Float) → j < F → d < 2 →
    entry_of material (over (values_of 4 2 F (strain_entry f b)) old) (2 * F) i (2 * j + d) ≡ stress_entry material f b i j d
unfolding entry_of stress_entry
entry_is material f b F i {j} {d} old h c =
    let strain : (k n : ℕ) → k < 4 → n ≡ 2 * F * k + (2 * j + d) → get_or (over (values_of 4 2 F (strain_entry f b)) old) n nan ≡ strain_entry f b k j d = λ k n a e. rw e (written_at (strain_entry f b) a h c old) in
    rw (
      strain 0 (2 * j + d) (omega arith) (omega arith),
      strain 1 (2 * F + (2 * j + d)) (omega arith) (omega arith),
      strain 2 (2 * (2 * F) + (2 * j + d)) (omega arith) (omega arith),
      strain 3 (3 * (2 * F) + (2 * j + d)) (omega arith) (omega arith),
    )

pub stress_of_strain : (material : List Float) (f : Structural2dFormulation) (b : Basis) (F : ℕ) (old : List Float) →
    times_of (sixteen material) (over (values_of 4 2 F (strain_entry f b)) old) (2 * F) ≡ values_of 4 2 F (stress_entry material f b)
unfolding times_of
stress_of_strain material f b F old =
    let strain = over (values_of 4 2 F (strain_entry f b)) old in
    times_of_sixteen material strain (2 * F)
    ∙ each_same (λ i a. values_by_node (entry_of material strain (2 * F) i) F ∙ each_same (λ j h. each_same (λ d c. ap (λ v. v ∷ []) (entry_is material f b F i old h c))))
