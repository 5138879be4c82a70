-- A renumbered query has the same counts, its elements gather the same coordinates, its points are the same, and its questions pass again: every entry is found at its new place.
-- Assumes nothing.
use mathlib.Core.Path.{◌≡◌, sym, ap, ◌∙◌}
use mathlib.Core.Bool.{Bool, true, ◌&&◌}
use mathlib.Core.List.{[], ◌∷◌, ◌++◌}
use Prim.Native.Nat.{ℕ, ◌+◌, ◌*◌, ◌/◌, ◌<◌}
use borrow.Author.Tests.{ltb-true, lt-ltb}
use lib.Dec.{ltb, leb}
use lib.ListN.{length, get_or, replicate}
use Rattle.std.proofs.lemmas.Bool.{and_parts}
use Rattle.definition.specs.Lists.{each, over, every}
use Rattle.definition.specs.Binary64.{plus0}
use Rattle.definition.specs.Elements.{nodes_of}
use Rattle.definition.specs.Mapping.{first, second}
use Rattle.definition.specs.Mesh.{Mesh, node_count, element_count, pair_count, pair_at, node_of, gathered}
use Rattle.definition.specs.Questions.{ask, is_family, whole, family_known, nodes_whole, elements_whole, iterations_few, points_whole, room, node_numbers, some_node, some_element}
use Rattle.definition.specs.Query.{QueryCall, QueryLists, query_room, query_questions}
use Rattle.definition.specs.Renumbering.{Renumbering, Renumbered, SameLengths}
use Rattle.definition.proofs.Lists.{each_same, every_at, every_of}
use Rattle.definition.proofs.Passing.{passes, passes_append, passes_each}
use Rattle.definition.proofs.Renumbering.Moves.{moved_pair, moved_point, node_at}

-- ---- what question 8 tells

-- whether every node number of element e is below the node count
abbrev row_known : Mesh → ℕ → Bool
row_known m e = every (λ j. ltb (node_of m e j) (node_count m)) (nodes_of m.family)

pub node_known : (m : Mesh) → passes (node_numbers m) ≡ true → (e j : ℕ) → e < element_count m → j < nodes_of m.family → node_of m e j < node_count m
unfolding node_numbers passes
node_known m h e j le lj =
    ltb-true (node_of m e j) (node_count m)
    (every_at (λ j. ltb (node_of m e j) (node_count m))
    (and_parts (row_known m e) true (every_at (λ e. row_known m e && true) (sym (passes_each (λ e. ask 8 e (row_known m e) ∷ []) (element_count m)) ∙ h) le)).0
    lj)

nodes_known : (m : Mesh) → ((e j : ℕ) → e < element_count m → j < nodes_of m.family → node_of m e j < node_count m) → passes (node_numbers m) ≡ true
unfolding node_numbers passes
nodes_known m g =
    passes_each (λ e. ask 8 e (row_known m e) ∷ []) (element_count m)
    ∙ every_of (λ e le. ap (λ (b : Bool). b && true) (every_of (λ j lj. lt-ltb (node_of m e j) (node_count m) (g e j le lj))))

-- ---- what the query's questions tell

-- the query's questions by the numbers that they look at
sizes : (family nodes elements iterations points : ℕ) (enough known : Bool) → Bool
sizes family nodes elements iterations points enough known =
    is_family family && (whole 2 nodes && (whole (nodes_of family) elements && (leb iterations 1000 && (whole 2 points && true))))
    && (enough && true)
    && known
    && (ltb 0 (nodes / 2) && (ltb 0 (elements / nodes_of family) && true))

by_sizes : (q : QueryCall) (l : QueryLists)
    → passes (query_questions q l)
    ≡ sizes q.mesh.family (length q.mesh.nodes) (length q.mesh.elements) q.iterations (length q.points) (query_room l (pair_count q.points)) (passes (node_numbers q.mesh))
unfolding query_questions passes sizes
by_sizes q l =
    let m = q.mesh in
    let head = family_known m ∷ nodes_whole m ∷ elements_whole m ∷ iterations_few q.iterations ∷ points_whole q.points ∷ [] in
    let space = room (query_room l (pair_count q.points)) ∷ [] in
    let last = some_node m ∷ some_element m ∷ [] in
    passes_append (head ++ space ++ node_numbers m) last
    ∙ ap (λ (b : Bool). b && passes last) (passes_append (head ++ space) (node_numbers m) ∙ ap (λ (b : Bool). b && passes (node_numbers m)) (passes_append head space))

pub record Passed (q : QueryCall) : Type 0 where
  pub nodes_whole_lem : whole 2 (length q.mesh.nodes) ≡ true
  pub elements_whole_lem : whole (nodes_of q.mesh.family) (length q.mesh.elements) ≡ true
  pub points_whole_lem : whole 2 (length q.points) ≡ true
  pub numbers : passes (node_numbers q.mesh) ≡ true
  pub some_node_lem : 0 < node_count q.mesh
  pub some_element_lem : 0 < element_count q.mesh

pub passed_says : (q : QueryCall) (l : QueryLists) → passes (query_questions q l) ≡ true → Passed q
unfolding sizes
passed_says q l h =
    let m = q.mesh in
    let a = and_parts _ _ (sym (by_sizes q l) ∙ h) in
    let b = and_parts _ (passes (node_numbers m)) a.0 in
    let c = and_parts (is_family m.family && _) _ b.0 in
    let d = and_parts (is_family m.family) _ c.0 in
    let e = and_parts (whole 2 (length m.nodes)) _ d.1 in
    let f = and_parts (whole (nodes_of m.family) (length m.elements)) _ e.1 in
    let g = and_parts (leb q.iterations 1000) _ f.1 in
    let n = and_parts (ltb 0 (node_count m)) _ a.1 in
    record {
      nodes_whole_lem = e.0;
      elements_whole_lem = f.0;
      points_whole_lem = (and_parts (whole 2 (length q.points)) true g.1).0;
      numbers = b.1;
      some_node_lem = ltb-true 0 (node_count m) n.0;
      some_element_lem = ltb-true 0 (element_count m) (and_parts (ltb 0 (element_count m)) true n.1).0;
    }

-- ---- a renumbered query
module _ (q : QueryCall) (r : Renumbering q) (q' : QueryCall) (R : Renumbered q r q') (P : Passed q) where
  pub nodes_count : node_count q'.mesh ≡ node_count q.mesh
  nodes_count = ap (λ (n : ℕ). n / 2) R.nodes.same_length

  pub elements_count : element_count q'.mesh ≡ element_count q.mesh
  elements_count = λ i. R.elements.same_length i / nodes_of (R.family i)

  pub points_count : pair_count q'.points ≡ pair_count q.points
  points_count = ap (λ (n : ℕ). n / 2) R.points.same_length

  pub node_moved : (e j : ℕ) → e < element_count q.mesh → j < nodes_of q.mesh.family → node_of q'.mesh (r.to_e e) j ≡ r.to_n (node_of q.mesh e j)
  node_moved e j le lj =
      node_at q'.mesh (r.to_e e) j (rw R.family lj)
      ∙ ap (λ (f : ℕ). get_or q'.mesh.elements (nodes_of f * r.to_e e + j) 0) R.family
      ∙ R.elements.entries e j le lj
      ∙ ap r.to_n (sym (node_at q.mesh e j lj))

  known : (e j : ℕ) → e < element_count q.mesh → j < nodes_of q.mesh.family → node_of q.mesh e j < node_count q.mesh
  known = node_known q.mesh P.numbers

  coordinates_same : (e j : ℕ) → e < element_count q.mesh → j < nodes_of q.mesh.family
      → (first q'.mesh.nodes (node_of q'.mesh (r.to_e e) j) ∷ second q'.mesh.nodes (node_of q'.mesh (r.to_e e) j) ∷ []) ≡ (first q.mesh.nodes (node_of q.mesh e j) ∷ second q.mesh.nodes (node_of q.mesh e j) ∷ [])
  coordinates_same e j le lj =
      let v = moved_pair R.nodes (known e j le lj) in
      ap (λ (n : ℕ). first q'.mesh.nodes n ∷ second q'.mesh.nodes n ∷ []) (node_moved e j le lj) ∙ (λ i. v.0 i ∷ v.1 i ∷ [])

  -- an element gathers the same coordinates
  pub gathered_same : (e : ℕ) → e < element_count q.mesh → gathered q'.mesh (r.to_e e) ≡ gathered q.mesh e
  unfolding gathered
  gathered_same e le =
      let xys =
      ap (each (λ j. first q'.mesh.nodes (node_of q'.mesh (r.to_e e) j) ∷ second q'.mesh.nodes (node_of q'.mesh (r.to_e e) j) ∷ [])) (ap nodes_of R.family)
      ∙ each_same (λ j lj. coordinates_same e j le lj) in
      λ i. record { count = nodes_of (R.family i); xy = over (xys i) (replicate 18 plus0) }

  -- a point is the same
  pub point_same : (p : ℕ) → p < pair_count q.points → pair_at q'.points (r.to_p p) ≡ pair_at q.points p
  point_same p l = moved_point R.points l

  -- ---- the questions pass again

  known' : (e j : ℕ) → e < element_count q'.mesh → j < nodes_of q'.mesh.family → node_of q'.mesh e j < node_count q'.mesh
  known' e j le lj =
      let l : e < element_count q.mesh = rw elements_count at le in
      let o = r.from_e e in
      let lo = r.elements.from_in e l in
      let lj' : j < nodes_of q.mesh.family = rw R.family at lj in
      rw (nodes_count, ← r.elements.to_from e l, node_moved o j lo lj') (r.nodes.to_in (node_of q.mesh o j) (known o j lo lj'))

  pub numbers_again : passes (node_numbers q'.mesh) ≡ true
  numbers_again = nodes_known q'.mesh known'

  room_same : (l l' : QueryLists) → SameLengths l l' → query_room l' (pair_count q'.points) ≡ query_room l (pair_count q.points)
  unfolding query_room
  room_same l l' s =
      rw (s.node_indices, s.node_points, s.node_distances, s.element_indices, s.element_references, s.element_points, s.element_distances, s.face_element_indices, s.face_local_faces, s.face_coordinates, s.face_points, s.face_distances, points_count)

  pub query_passes : (l l' : QueryLists) → SameLengths l l' → passes (query_questions q' l') ≡ passes (query_questions q l)
  query_passes l l' s =
      by_sizes q' l'
      ∙ (λ i. sizes (R.family i) (R.nodes.same_length i) (R.elements.same_length i) (R.iterations i) (R.points.same_length i) (room_same l l' s i) ((numbers_again ∙ sym P.numbers) i))
      ∙ sym (by_sizes q l)
