-- What a query comes to keeps its promise, by what its questions come to. Assumes nothing.
use mathlib.Core.Path.{◌≡◌, refl, sym}
use mathlib.Core.Bool.{true}
use Prim.Native.Nat.{ℕ}
use Rattle.std.proofs.Common.{Ok, Err, arith}
use Rattle.definition.specs.Lists.{count_of}
use Rattle.definition.specs.Mesh.{pair_count, repeated_count}
use Rattle.definition.specs.Questions.{Outcome, accepted, refused, asked, onward, number_of}
use Rattle.definition.specs.Query.{QueryCall, QueryLists, query_room, query_questions, inside_count, queried, QueryPromise}
use Rattle.definition.specs.declared.Refusal.{Refusal}
use Rattle.definition.proofs.Passing.{passes, passes_append, asked_accepted, asked_with}
use Rattle.query.specs.Filled.{is_inside, filled}
use Rattle.query.proofs.Filling.{filled_answers}

-- what a query comes to is what its questions come to, with its numbers
queried_is : (q : QueryCall) (lent : QueryLists) {v : Outcome (Unit {0})} → v ≡ asked (query_questions q lent) tt → queried q lent ≡ onward v (accepted (record { points = pair_count q.points; repeated = repeated_count q.mesh; inside = inside_count q }))
unfolding queried
queried_is q lent e = asked_with (query_questions q lent) _ e

-- where all questions hold, each list has room
room_asked : (q : QueryCall) (lent : QueryLists) → asked (query_questions q lent) (tt {0}) ≡ accepted tt → query_room lent (pair_count q.points) ≡ true
unfolding passes query_questions
room_asked q lent e =
    let all : passes (query_questions q lent) ≡ true = (asked_accepted (query_questions q lent) e).0 in
    let parts = simp passes_append at all in
    grind arith

-- a refusal, and the numbers of an accepted query
pub refusal_kept : (q : QueryCall) (lent : QueryLists) {r : Refusal} → refused (number_of r.question) r.place ≡ asked (query_questions q lent) (tt {0}) → QueryPromise q lent (Err r) lent
refusal_kept q lent e =
    let is = queried_is q lent e in
    record { answers = sym is; leaves = rw is }

pub counts_kept : (q : QueryCall) (lent : QueryLists) {u : Unit {0}} {points repeated inside : ℕ} {after : QueryLists} → accepted u ≡ asked (query_questions q lent) (tt {0}) → points ≡ pair_count q.points → repeated ≡ repeated_count q.mesh → inside ≡ count_of (is_inside q) points → after ≡ filled q points lent → QueryPromise q lent (Ok (record { points = points; repeated = repeated; inside = inside })) after
unfolding inside_count
counts_kept q lent e p r i a =
    let is = queried_is q lent e in
    record { answers = rw is (rw (← p, r, i) refl); leaves = rw (is, a, p) (filled_answers q (pair_count q.points) lent (room_asked q lent (sym e))) }
