-- Records that move: place j of record i becomes place j of record `to i`, and every number is such a place, by its quotient and remainder. Assumes nothing.
use mathlib.Core.Path.{◌≡◌, refl, sym, ap, ap₂, ◌∙◌}
use mathlib.Core.Bool.{Bool, true, false}
use mathlib.Core.List.{List}
use Prim.Native.Nat.{ℕ, ◌+◌, ◌*◌, ◌/◌, ◌%◌, ◌<◌}
use native.Mathlib.Nat.{mul_comm, add-zero, one-mul, mul-le-mul_left, mod-lt, div-add-mod, div-lt_iff_lt-mul}
use native.Mathlib.Decide.{ℕ_discrete}
use native.Mathlib.Omega.{arith}
use lib.Arith.{digits_div, digits_mod}
use lib.ListN.{length, get_or}
use lib.Seq.{get_or-take, get_or-drop}
use lib.Ieee.{Float, nan}
use Rattle.definition.specs.Lists.{every}
use Rattle.definition.specs.Elements.{nodes_of}
use Rattle.definition.specs.Mapping.{first, second}
use Rattle.definition.specs.Mesh.{Mesh, pair_at, element_nodes, node_of}
use Rattle.definition.specs.Renumbering.{Permutation, within, Moved, same, Attached, move_list}
use Rattle.definition.proofs.Lists.{values_length, values_at, every_at, every_of}

-- ---- permutations

-- place j of part i, of k places each: it is in part i, and among n parts where its part is
pub part_of : (k i : ℕ) {j : ℕ} → j < k → (k * i + j) / k ≡ i
part_of k i h = rw mul_comm (digits_div i h)

place_inside : {k n i j : ℕ} → i < n → j < k → k * i + j < k * n
place_inside {k} l m = omega (arith, mul-le-mul_left k l)

part_inside : {k n s : ℕ} → 0 < k → s < k * n → s / k < n
part_inside {k} {n} h l = (div-lt_iff_lt-mul h).1 (rw (mul_comm n k) l)

pub within_at : (k : ℕ) (to : ℕ → ℕ) (i j : ℕ) → j < k → within k to (k * i + j) ≡ k * to i + j
within_at k to i j h = ap₂ (λ a b. k * to a + b) (part_of k i h) (rw (mul_comm k i) (digits_mod i h))

within_back : {k : ℕ} (to from : ℕ → ℕ) (s : ℕ) → 0 < k → to (from (s / k)) ≡ s / k → within k to (within k from s) ≡ s
within_back {k} to from s h e = within_at k to (from (s / k)) (s % k) (mod-lt s h) ∙ rw e (div-add-mod s k)

pub within_permutes : {k n : ℕ} {to from : ℕ → ℕ} → 0 < k → Permutation n to from → Permutation (k * n) (within k to) (within k from)
within_permutes {k} {to = to} {from} h π = record {
  to_in = λ s l. place_inside (π.to_in (s / k) (part_inside h l)) (mod-lt s h);
  from_in = λ s l. place_inside (π.from_in (s / k) (part_inside h l)) (mod-lt s h);
  from_to = λ s l. within_back from to s h (π.from_to (s / k) (part_inside h l));
  to_from = λ s l. within_back to from s h (π.to_from (s / k) (part_inside h l));
}

-- a test of every number, in another order
same_truth : (a b : Bool) → (a ≡ true → b ≡ true) → (b ≡ true → a ≡ true) → a ≡ b
same_truth true b f g = sym (f refl)
same_truth false true f g = g refl
same_truth false false f g = refl

pub every_moved : {n : ℕ} {to from : ℕ → ℕ} {p : ℕ → Bool} (p' : ℕ → Bool) → Permutation n to from → ((i : ℕ) → i < n → p' (to i) ≡ p i) → every p' n ≡ every p n
every_moved {n} {from = from} {p} p' π e = same_truth (every p' n) (every p n)
    (λ h. every_of (λ i l. sym (e i l) ∙ every_at p' h (π.to_in i l)))
    (λ h. every_of (λ i l. ap p' (sym (π.to_from i l)) ∙ e (from i) (π.from_in i l) ∙ every_at p h (π.from_in i l)))

-- ---- lists whose records move

moved_first : {A : Type 0} {k n i : ℕ} {to : ℕ → ℕ} {d : A} {l l' : List A} → Moved k n to same d l l' → 0 < k → i < n → get_or l' (k * to i) d ≡ get_or l (k * i) d
moved_first {i = i} m h l = simp add-zero at (m.entries i 0 l h)

pub moved_one : {A : Type 0} {n i : ℕ} {to : ℕ → ℕ} {d : A} {l l' : List A} → Moved 1 n to same d l l' → i < n → get_or l' (to i) d ≡ get_or l i d
moved_one m l = simp one-mul at (moved_first m (omega arith) l)

pub moved_pair : {n i : ℕ} {to : ℕ → ℕ} {l l' : List Float} → Moved 2 n to same nan l l' → i < n → (first l' (to i) ≡ first l i) × (second l' (to i) ≡ second l i)
moved_pair {i = i} m l = (moved_first m (omega arith) l, m.entries i 1 l (omega arith))

pub moved_point : {n i : ℕ} {to : ℕ → ℕ} {l l' : List Float} → Moved 2 n to same nan l l' → i < n → pair_at l' (to i) ≡ pair_at l i
moved_point m l = λ s. record { x = (moved_pair m l).0 s; y = (moved_pair m l).1 s }

pub attached_length : {A : Type 0} {k n : ℕ} {to : ℕ → ℕ} {d : A} {l l' : List A} → Attached k n to d l l' → length l' ≡ length l
attached_length {k = k} {n} {l = l} h = elim (ℕ_discrete (length l) (k * n)) [ yes e ↦ (h.moves e).same_length | no f ↦ ap length (h.stays f) ]

-- the moved list, computed, has its records moved
module _ {A : Type 0} {k n : ℕ} {to from : ℕ → ℕ} {g : A → A} {d : A} {l : List A} (some : 0 < k) (π : Permutation n to from) (whole : length l ≡ k * n) where
  pub moved_computed : Moved k n to g d l (move_list k from g d l)
  unfolding move_list
  moved_computed = record {
    same_length = values_length _ (length l);
    entries = λ i j li lj.
        values_at _ d (rw whole (place_inside (π.to_in i li) lj))
        ∙ ap (λ s. g (get_or l s d)) (within_at k from (to i) j lj ∙ ap (λ x. k * x + j) (π.from_to i li));
  }

-- the records of the connectivity
pub node_at : (m : Mesh) (e j : ℕ) → j < nodes_of m.family → node_of m e j ≡ get_or m.elements (nodes_of m.family * e + j) 0
unfolding element_nodes
node_at m e j h = rw (get_or-take, get_or-drop)
