-- No listing is longer than `longest_listing`: a refusal is one short line, and an accepted job has a first line of at most 18 bytes and at most 256 points, each with a line of at most 120. Assumes nothing.
use mathlib.Core.Path.{◌≡◌, refl}
use mathlib.Core.Bool.{Bool, true, false, cond, ◌&&◌}
use mathlib.Core.List.{List, [], ◌∷◌, map, map-append}
use Prim.Native.Nat.{ℕ, zero, suc, ◌+◌, ◌≤◌, ◌<◌}
use native.Mathlib.Nat.{le_refl, div-le_of_le-mul}
use native.Mathlib.Omega.{arith}
use borrow.Author.Tests.{leb-true, ltb-true, lt-ltb}
use lib.Dec.{ltb}
use lib.ListN.{length, length-append, length-map}
use lib.Ieee.{Float, binary64, lt, of_bits}
use Rattle.std.proofs.lemmas.Bool.{and_parts}
use Rattle.definition.specs.Lists.{count_of}
use Rattle.definition.specs.Elements.{nodes_of}
use Rattle.definition.specs.Search.{closest_reference_point, closest_face_point}
use Rattle.definition.specs.Mesh.{Mesh, pair_count, node_count, element_count, repeated_count}
use Rattle.definition.specs.Choice.{pick, point_answer}
use Rattle.definition.specs.Questions.{Question, Outcome, ask, accepted, refused, asked, node_numbers}
use Rattle.definition.specs.declared.QueryCounts.{QueryCounts}
use Rattle.definition.specs.Query.{QueryCall, QueryLists, query_questions, answer_at, inside_count, queried}
use Rattle.definition.specs.Job.{Job, within_limits, read_job, query_of, own_lists, refusal_line, point_line, query_listing, job_listing, listing, longest_listing}
use Rattle.definition.proofs.Lists.{map_each, each_most, every_of}
use Rattle.definition.proofs.Passing.{passes, passes_append, passes_each}
use Rattle.definition.proofs.Choice.{pick_more}
use Rattle.records.proofs.Prefix.{accepted_within, refused_small}
use Rattle.listing.proofs.Lengths.{refusal_length, counts_length, point_length}

-- ---- a count is at most the numbers that it counts, and so is the number that is picked

count_most : (p : ℕ → Bool) (n : ℕ) → count_of p n ≤ n
unfolding count_of
count_most p zero = le_refl 0
count_most p (suc n) = by (p n) (count_most p n)
  where
    by : (b : Bool) → count_of p n ≤ n → count_of p n + cond b 1 0 ≤ suc n
    by true h = omega arith
    by false h = omega arith

repeated_most : (m : Mesh) → repeated_count m ≤ element_count m
unfolding repeated_count
repeated_most m = count_most _ (element_count m)

inside_most : (q : QueryCall) → inside_count q ≤ pair_count q.points
unfolding inside_count
inside_most q = count_most _ (pair_count q.points)

pick_most : (d : ℕ → Float) (n : ℕ) → pick d n ≤ n
unfolding pick
pick_most d zero = le_refl 0
pick_most d (suc n) = rw (pick_more d n) (by (lt (d n) (d (pick d n))) (pick_most d n))
  where
    by : (b : Bool) → pick d n ≤ n → cond b n (pick d n) ≤ suc n
    by true h = omega arith
    by false h = omega arith

-- ---- the questions

-- whether a question's refusal is short: itself a question, so that the laws of `passes` serve
abbrev sized : Question → Question
sized x = ask x.number x.place (ltb x.number 100 && ltb x.place 100000)

-- where all such questions hold the acceptance is listed, and else one short refusal
asked_length : (q : QueryCall) (xs : List Question) (c : QueryCounts) → passes (map sized xs) ≡ true → length (query_listing q (accepted c)) ≤ longest_listing → length (query_listing q (asked xs c)) ≤ longest_listing
unfolding asked passes
asked_length q [] c h l = l
asked_length q (x ∷ xs) c h l =
    let (fits, rest) = and_parts (sized x).holds _ h in
    let (number, place) = and_parts (ltb x.number 100) (ltb x.place 100000) fits in
    elim x.holds as (λ b. length (query_listing q (cond b (asked xs c) (refused x.number x.place))) ≤ longest_listing) [
      | true ↦ asked_length q xs c rest l
      | false ↦ omega (arith, refusal_length (ltb-true x.number 100 number) (ltb-true x.place 100000 place))
    ]

-- ---- a query of at most 512 nodes, 256 elements and 256 points

module _ (q : QueryCall) (nodes : node_count q.mesh ≤ 512) (elements : element_count q.mesh ≤ 256) (points : pair_count q.points ≤ 256) where
  -- only question 8 has a place that is not 0, and it is an element
  questions_sized : (lent : QueryLists) → passes (map sized (query_questions q lent)) ≡ true
  unfolding query_questions node_numbers passes
  questions_sized lent =
      let element : (e : ℕ) → e < element_count q.mesh → ltb e 100000 && true ≡ true = λ e l. rw (lt-ltb e 100000 (omega arith)) in
      rw (map-append sized (node_numbers q.mesh), passes_append, map_each, passes_each, every_of element)

  answer_length : {p : ℕ} → p < 256 → length (point_line p (answer_at q p)) ≤ 120
  unfolding point_answer closest_reference_point closest_face_point
  answer_length {p} l =
      let a = answer_at q p in
      let node : a.node.node_index ≤ node_count q.mesh = pick_most _ _ in
      let element : a.element.element_index ≤ element_count q.mesh = pick_most _ _ in
      let face : a.face.element_index ≤ element_count q.mesh = div-le_of_le-mul 4 (pick_most _ _) in
      point_length a (omega arith) (omega arith) (omega arith) (omega arith) (omega arith)

  query_length : (lent : QueryLists) → length (query_listing q (queried q lent)) ≤ longest_listing
  unfolding queried
  query_length lent =
      let c : QueryCounts = record { points = pair_count q.points; repeated = repeated_count q.mesh; inside = inside_count q } in
      let first = counts_length c (omega arith) (omega (arith, repeated_most q.mesh)) (omega (arith, inside_most q)) in
      let others = each_most (λ p. point_line p (answer_at q p)) {n = c.points} (λ p l. answer_length (omega arith)) in
      asked_length q (query_questions q lent) c (questions_sized lent) (rw length-append (omega arith))

-- ---- the job

job_length : (j : Job) → within_limits j ≡ true → length (job_listing (accepted j)) ≤ longest_listing
job_length j h =
    let (most, points) = and_parts _ _ h in
    let (nodes, elements) = and_parts _ _ most in
    query_length (query_of j)
    (rw (length-map j.nodes (of_bits binary64)) (div-le_of_le-mul 2 (leb-true _ _ nodes)))
    (div-le_of_le-mul (nodes_of j.family) (leb-true _ _ elements))
    (rw (length-map j.points (of_bits binary64)) (div-le_of_le-mul 2 (leb-true _ _ points)))
    own_lists

-- an output of `longest_listing` bytes holds any listing
pub listing_length : (bytes : List ℕ) → length (listing bytes) ≤ longest_listing
unfolding listing
listing_length bytes = by (read_job bytes) refl
  where
    by : (o : Outcome Job) → read_job bytes ≡ o → length (job_listing o) ≤ longest_listing
    by (accepted j) e = job_length j (accepted_within bytes e)
    by (refused number place) e =
        let (few, early) = refused_small bytes e in
        let short : length (refusal_line number place) ≤ 17 = refusal_length (omega arith) (omega arith) in
        omega arith
