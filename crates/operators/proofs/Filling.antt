-- The triplets of one point more, and how many there are at most: by what the calls before the writing ensure. Assumes nothing.
use mathlib.Core.Path.{◌≡◌, ap, ◌∙◌}
use mathlib.Core.Bool.{true, false, cond}
use mathlib.Core.List.{List, [], ◌∷◌}
use Prim.Native.Nat.{ℕ, ◌+◌, ◌-◌, ◌*◌, ◌≤◌}
use native.Mathlib.Nat.{add_assoc, one-mul, mul-zero, add-zero, zero-add}
use native.Mathlib.Omega.{arith}
use lib.ListN.{length, get_or, take, drop}
use Rattle.std.proofs.lemmas.List.{get_or-take, get_or-drop, length-take-le, length-drop, take_rest}
use lib.Ieee.{Float, nan, eq}
use Rattle.definition.specs.Binary64.{plus0}
use Rattle.definition.specs.Elements.{nodes_of}
use Rattle.definition.specs.Lists.{each, over}
use Rattle.definition.specs.Mesh.{element_nodes}
use Rattle.definition.specs.Operators.{InterpolationCall, element_at}
use Rattle.definition.specs.Rows.{Triplet, kept, point_triplets}
use Rattle.definition.proofs.Lists.{each_same, each_most}
use Rattle.lists.specs.Values.{values_of}
use Rattle.lists.proofs.Values.{written_at}
use Rattle.triplets.specs.declared.lent.Strip.{Strip}
use Rattle.triplets.specs.Lent.{Puts}
use Rattle.triplets.proofs.Putting.{puts_each}
use Rattle.operators.specs.Values.{triplets_till}

-- ---- the triplets of one point

-- triplets whose values are read from an array
entries_are : (k c F p : ℕ) (node : ℕ → ℕ) (value : ℕ → ℕ → ℕ → Float) (old : List Float) →
    point_triplets k c F node (λ i j d. get_or (over (values_of k c F value) old) (c * F * i + c * j + d) nan) p ≡ point_triplets k c F node value p
unfolding point_triplets
entries_are k c F p node value old =
    each_same (λ i a. each_same (λ j b. each_same (λ d l. ap (kept (k * p + i) (c * node j + d)) (rw (add_assoc (c * F * i) (c * j) d) (written_at value a b l old)))))

-- one row of one column a node, whose values stand at the nodes' places
row_values : (F p : ℕ) (node : ℕ → ℕ) (shape : List Float) → point_triplets 1 1 F node (λ i j d. get_or shape (1 * F * i + 1 * j + d) nan) p ≡ point_triplets 1 1 F node (λ i j d. get_or shape j nan) p
unfolding point_triplets each
row_values F p node shape = simp (one-mul, mul-zero, add-zero, zero-add)

pub shape_row : (family p : ℕ) (node : ℕ → ℕ) (shape : List Float) {F : ℕ} {u v : Strip} → F ≡ nodes_of family →
    Puts u v (point_triplets 1 1 F node (λ i j d. get_or shape (1 * F * i + 1 * j + d) nan) p) → Puts u v (point_triplets 1 1 (nodes_of family) node (λ i j d. get_or shape j nan) p)
shape_row family p node shape count put = rw (count, row_values (nodes_of family) p node shape) at put

-- ---- triplets whose values were read from a part that begins at place s of a list, by their places in the list

-- those of a node
pub node_part : (c s : ℕ) (entries : List Float) → s + c ≤ length entries → (row node : ℕ) {u v : Strip} →
    (let part = take c (take (length entries - s) (drop s entries)) in Puts u v (each (λ d. kept row (length part * node + d) (get_or part d nan)) (length part))) →
    Puts u v (each (λ d. kept row (c * node + d) (get_or entries (s + d) nan)) c)
node_part c s entries fits row node put =
    let whole : length (take c (drop s entries)) ≡ c = length-take-le c (drop s entries) (rw length-drop (omega (arith, fits))) in
    let same : each (λ d. kept row (c * node + d) (get_or (take c (drop s entries)) d nan)) c ≡ each (λ d. kept row (c * node + d) (get_or entries (s + d) nan)) c =
    each_same (λ d l. ap (kept row (c * node + d)) (get_or-take c (drop s entries) d nan l ∙ get_or-drop s entries d nan)) in
    rw (take_rest entries s, whole, same) at put

-- those of a row
pub row_part : (c F : ℕ) (node : ℕ → ℕ) (s : ℕ) (entries : List Float) (row : ℕ) {u v : Strip} →
    Puts u v (each (λ j. each (λ d. kept row (c * node j + d) (get_or (take (length entries - s) (drop s entries)) (c * j + d) nan)) c) F) →
    Puts u v (each (λ j. each (λ d. kept row (c * node j + d) (get_or entries (s + c * j + d) nan)) c) F)
row_part c F node s entries row put =
    let same : each (λ j. each (λ d. kept row (c * node j + d) (get_or (drop s entries) (c * j + d) nan)) c) F ≡ each (λ j. each (λ d. kept row (c * node j + d) (get_or entries (s + c * j + d) nan)) c) F =
    each_same (λ j a. each_same (λ d b. ap (kept row (c * node j + d)) (rw (add_assoc s (c * j) d) (get_or-drop s entries (c * j + d) nan)))) in
    rw (take_rest entries s, same) at put

-- the triplets of one point more
pub point_next : (q : InterpolationCall) (k c : ℕ) (value : ℕ → ℕ → ℕ → ℕ → Float) (p : ℕ) {F : ℕ} {nodes : List ℕ} {entries : List Float} (old : List Float) {u v w : Strip} →
    F ≡ nodes_of q.mesh.family → nodes ≡ element_nodes q.mesh (element_at q p) → entries ≡ over (values_of k c (nodes_of q.mesh.family) (value p)) old →
    Puts u v (triplets_till q k c value p) →
    Puts v w (point_triplets k c F (λ j. get_or nodes j 0) (λ i j d. get_or entries (c * F * i + c * j + d) nan) p) →
    Puts u w (triplets_till q k c value (p + 1))
point_next q k c value p old count row entries_is before put =
    puts_each _ p before
    (rw (count, row, entries_is, entries_are k c (nodes_of q.mesh.family) p (λ j. get_or (element_nodes q.mesh (element_at q p)) j 0) (value p) old) at put)

-- ---- how many there are

kept_most : (r c : ℕ) (v : Float) → length (kept r c v) ≤ 1
unfolding kept
kept_most r c v = elim (eq v plus0) as (λ b. length {A = Triplet} (cond b [] (record { row = r; column = c; value = v } ∷ [])) ≤ 1) [ true ↦ omega arith | false ↦ omega arith ]

-- at most k rows a point, of c columns a node
pub triplets_most : (q : InterpolationCall) (k c : ℕ) (value : ℕ → ℕ → ℕ → ℕ → Float) (n : ℕ) → length (triplets_till q k c value n) ≤ k * c * nodes_of q.mesh.family * n
unfolding point_triplets
triplets_most q k c value n =
    let most : length (triplets_till q k c value n) ≤ 1 * c * nodes_of q.mesh.family * k * n = each_most _ (λ p _. each_most _ (λ i _. each_most _ (λ j _. each_most _ (λ d _. kept_most _ _ _)))) in
    omega (arith, most)
