-- A refused operator and an accepted one keep the operator's promise: by what its questions come to. Assumes nothing.
use mathlib.Core.Path.{◌≡◌, refl, sym, ◌∙◌}
use mathlib.Core.Bool.{Bool, true, ◌&&◌}
use mathlib.Core.List.{List, [], ◌∷◌, ◌++◌}
use Prim.Native.Nat.{ℕ, ◌≤◌}
use native.Mathlib.Omega.{arith}
use borrow.Author.Tests.{leb-true}
use lib.Dec.{leb}
use lib.ListN.{length}
use lib.Ieee.{Float}
use Rattle.std.specs.Prelude.{Ok, Err}
use Rattle.std.proofs.lemmas.Bool.{and_parts}
use Rattle.definition.specs.Questions.{Question, Outcome, accepted, refused, asked, onward, number_of, whole, family_known, nodes_whole, elements_whole, references_whole, room}
use Rattle.definition.specs.Operators.{Operator, InterpolationCall, TripletLists, triplet_room, mesh_questions, operated, OperatorPromise}
use Rattle.definition.specs.declared.Refusal.{Refusal}
use Rattle.definition.proofs.Passing.{passes, asked_accepted, asked_with}
use Rattle.triplets.specs.Strip.{Strip, written}
use Rattle.triplets.proofs.Strips.{Room, written_over}

module _ (o : Operator) (lent : TripletLists) where
  operated_is : {v : Outcome (Unit {0})} → v ≡ asked o.questions (tt {0}) → operated o ≡ onward v (accepted (record { rows = o.rows; columns = o.columns; triplets = length o.triplets }))
  unfolding operated
  operated_is e = asked_with o.questions (record { rows = o.rows; columns = o.columns; triplets = length o.triplets }) e

  pub refused_kept : (r : Refusal) → refused (number_of r.question) r.place ≡ asked o.questions (tt {0}) → OperatorPromise o lent (Err r) lent
  refused_kept r e =
      let is = operated_is e in
      record { answers = sym is; leaves = rw is refl }

  pub accepted_kept : {rows columns : ℕ} {after : Strip} → accepted (tt {0}) ≡ asked o.questions (tt {0}) → rows ≡ o.rows → columns ≡ o.columns → Room lent (length o.triplets) → after ≡ written (record { lists = lent; at = 0 }) o.triplets →
      OperatorPromise o lent (Ok (record { rows = rows; columns = columns; triplets = after.at })) after.lists
  accepted_kept e r c room w =
      let is = operated_is e in
      let whole = w ∙ written_over lent o.triplets room in
      record { answers = rw (is, whole, r, c); leaves = rw (is, whole) }

-- question 7 gives each triplet its place
pub room_for : (lent : TripletLists) {n m : ℕ} → triplet_room lent n ≡ true → m ≤ n → Room lent m
unfolding triplet_room
room_for lent {n} {m} h l =
    let (rows-columns, values) = and_parts (leb n (length lent.rows) && leb n (length lent.columns)) (leb n (length lent.values)) h in
    let (rows, columns) = and_parts (leb n (length lent.rows)) (leb n (length lent.columns)) rows-columns in (
      omega (arith, leb-true n (length lent.rows) rows),
      omega (arith, leb-true n (length lent.columns) columns),
      omega (arith, leb-true n (length lent.values) values),
    )

-- ---- what holds where all questions are answered yes

-- question 5 bounds the points
few_points : (references : List Float) (indices : List ℕ) → (references_whole references indices).holds ≡ true → length indices ≤ 1000000
few_points references indices h = leb-true (length indices) 1000000 (and_parts (whole 2 (length references)) (leb (length indices) 1000000) h).1

-- each of the questions holds
holds_at : (before : List Question) (q : Question) (after : List Question) → passes (before ++ q ∷ after) ≡ true → q.holds ≡ true
unfolding passes
holds_at [] q after h = (and_parts q.holds (passes after) h).0
holds_at (p ∷ before) q after h = holds_at before q after (and_parts p.holds (passes (before ++ q ∷ after)) h).1

-- question 5 is the last of the mesh's, and between it and question 7 may stand others
pub few_and_enough : (call : InterpolationCall) (enough : Bool) (between after : List Question) →
    accepted (tt {0}) ≡ asked (mesh_questions call ++ between ++ room enough ∷ after) (tt {0}) → (length call.element_indices ≤ 1000000) × (enough ≡ true)
few_and_enough call enough between after e =
    let (all, _) = asked_accepted (mesh_questions call ++ between ++ room enough ∷ after) (sym e) in (
      few_points call.reference_points call.element_indices (holds_at (family_known call.mesh ∷ nodes_whole call.mesh ∷ elements_whole call.mesh ∷ []) _ _ all),
      holds_at (mesh_questions call ++ between) _ _ all,
    )
