-- The choice: of equals the first stays, a NaN in first place stays, elements compare rooted distances, and only a distance of 0 is inside.
-- Assumes nothing.
use mathlib.Core.Path.{◌≡◌, refl}
use mathlib.Core.Bool.{Bool, true, false, cond}
use mathlib.Core.List.{[], ◌∷◌}
use Prim.Native.Nat.{ℕ, zero, suc}
use lib.Dec.{eqb, not_T}
use lib.Ieee.{Float, nan, lt}
use lib.Ieee.Bits.{is_false}
use Rattle.std.proofs.lemmas.Float.{lt_irrefl}
use Rattle.definition.specs.Binary64.{plus0, one}
use Rattle.definition.specs.Mesh.{Mesh}
use Rattle.definition.specs.Choice.{pick, point_answer}
use Rattle.definition.specs.Query.{QueryCall, inside_count}
use Rattle.definition.specs.declared.Point.{Point}
use Rattle.definition.proofs.Root.Order.{lt_nan}
use Rattle.definition.proofs.Computing.{searching, querying}
use Rattle.definition.proofs.Written.{two_to_minus, at}

-- nothing is below itself
pub lt_self : (x : Float) → lt x x ≡ false
lt_self x = is_false (lt x x) (not_T (lt x x) (lt_irrefl x))

-- one more, also where it is the first
pub pick_more : (d : ℕ → Float) (n : ℕ) → pick d (suc n) ≡ cond (lt (d n) (d (pick d n))) n (pick d n)
unfolding pick
pick_more d zero = by (lt (d 0) (d 0))
  where
    by : (b : Bool) → ◌≡◌ {A = ℕ} 0 (cond b 0 0)
    by true = refl
    by false = refl
pick_more d (suc n) = refl

-- "equals keep the first"
pub equals_keep_the_first : (x : Float) (n : ℕ) → pick (λ i. x) n ≡ 0
unfolding pick
equals_keep_the_first x zero = refl
equals_keep_the_first x (suc n) = rw (pick_more (λ i. x) n, lt_self x) (equals_keep_the_first x n)

-- "a NaN in first place stays"
pub nan_first_stays : (d : ℕ → Float) (n : ℕ) → d 0 ≡ nan → pick d n ≡ 0
unfolding pick
nan_first_stays d zero h = refl
nan_first_stays d (suc n) h = rw (pick_more d n, nan_first_stays d n h, h, lt_nan (d n))

nan_before_one : pick (λ i. cond (eqb i 0) nan one) 2 ≡ 0
unfolding searching
nan_before_one = refl

-- ---- two squared distances with one root

-- Node 0 lies at (1, 2^-26) and node 1 at (1, 0), each with an element shrunk to it, and the point at (0, 0): the squared distances are 1 + 2^-52 and 1, and both roots are 1.
abbrev pub two_places : Mesh
two_places =
    record {
      family = 4;
      nodes = one ∷ two_to_minus 26 ∷ one ∷ plus0 ∷ [];
      elements = 0 ∷ 0 ∷ 0 ∷ 0 ∷ 1 ∷ 1 ∷ 1 ∷ 1 ∷ [];
    }

abbrev pub origin : Point
origin = at plus0 plus0

-- the elements tie by their roots, and the first is named
elements_tie_by_roots : (point_answer two_places 0 origin).element.element_index ≡ 0
unfolding searching
elements_tie_by_roots = refl

-- ---- "A point counts as inside when its element distance is 0": not where it is 2^-60

abbrev beside_node : QueryCall
beside_node =
    record {
      mesh = record { family = 4; nodes = one ∷ plus0 ∷ []; elements = 0 ∷ 0 ∷ 0 ∷ 0 ∷ [] };
      iterations = 0;
      points = one ∷ two_to_minus 60 ∷ [];
    }

only_zero_is_inside : inside_count beside_node ≡ 0
unfolding querying
only_zero_is_inside = refl
