-- Question 8 by what a walk over the elements finds: every number below the node count, or the first element with one that is not. Assumes nothing.
use mathlib.Core.Path.{◌≡◌, sym}
use mathlib.Core.Bool.{true}
use mathlib.Core.List.{List, [], ◌∷◌}
use Prim.Native.Nat.{ℕ, ◌+◌, ◌≤◌, ◌<◌}
use native.Mathlib.Omega.{arith}
use borrow.Author.Count.{below_more}
use borrow.Author.Tests.{lt-ltb, le-ltb}
use lib.Dec.{ltb}
use lib.ListN.{length}
use Rattle.definition.specs.Lists.{every}
use Rattle.definition.specs.Elements.{nodes_of}
use Rattle.definition.specs.Mesh.{Mesh, node_count, element_count, element_nodes, node_of}
use Rattle.definition.specs.Questions.{Question, accepted, refused, ask, asked, node_numbers}
use Rattle.definition.proofs.Lists.{every_of, every_fails}
use Rattle.definition.proofs.Passing.{passes, all_asked, first_refused}
use Rattle.mesh.proofs.Rows.{row_length}

-- the numbers of the first n elements are below the node count
pub record AllKnown (m : Mesh) (n : ℕ) : Type 0 where
  pub known : (e : ℕ) → e < n → (j : ℕ) → j < nodes_of m.family → node_of m e j < node_count m

-- question 8 of element e
abbrev numbered : Mesh → ℕ → List Question
numbered m e = ask 8 e (every (λ j. ltb (node_of m e j) (node_count m)) (nodes_of m.family)) ∷ []

passed : (m : Mesh) {n : ℕ} → AllKnown m n → every (λ e. passes (numbered m e)) n ≡ true
unfolding passes
passed m h = every_of (λ e l. rw (every_of (λ j k. lt-ltb _ _ (h.known e l j k))))

pub one_more : (m : Mesh) {e n : ℕ} → AllKnown m e → e < element_count m → length (element_nodes m e) ≤ n → ((j : ℕ) → j < n → node_of m e j < node_count m) → AllKnown m (e + 1)
one_more m {e} h l k b = record { known = below_more (λ i. (j : ℕ) → j < nodes_of m.family → node_of m i j < node_count m) e h.known (λ j p. b j (omega (arith, row_length m e l))) }

pub all_known : (m : Mesh) {n : ℕ} → n ≡ element_count m → AllKnown m n → accepted tt ≡ asked (node_numbers m) (tt {0})
unfolding node_numbers
all_known m e h = sym (all_asked (numbered m) (element_count m) tt (passed m (rw e at h)))

pub first_unknown : (m : Mesh) {e j : ℕ} → AllKnown m e → e < element_count m → j < length (element_nodes m e) → node_count m ≤ node_of m e j → refused 8 e ≡ asked (node_numbers m) (tt {0})
unfolding asked node_numbers
first_unknown m {e} h l k b =
    sym (first_refused (numbered m) (element_count m) e tt (passed m h) l (rw (every_fails (λ j. ltb (node_of m e j) (node_count m)) (nodes_of m.family) (rw (row_length m e l) at k) (le-ltb _ _ b))))
