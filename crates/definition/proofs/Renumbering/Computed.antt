-- The renumbered lists, computed, are renumbered lists: so demand 3 holds of the lists that any three permutations give. Assumes nothing.
use mathlib.Core.Path.{◌≡◌, refl, sym, ap, ◌∙◌}
use mathlib.Core.Bool.{true}
use mathlib.Core.List.{List}
use Prim.Native.Nat.{ℕ, ◌+◌, ◌*◌, ◌/◌, ◌%◌, ◌<◌}
use native.Mathlib.Nat.{div-add-mod, add-zero}
use native.Mathlib.Omega.{arith}
use borrow.Author.Tests.{eqb-true, eq-eqb, ne_eqb}
use lib.Dec.{leb, eqb}
use lib.ListN.{length}
use lib.Ieee.{nan}
use Rattle.std.proofs.lemmas.Bool.{and_parts}
use Rattle.definition.specs.Elements.{nodes_of}
use Rattle.definition.specs.Mesh.{element_count}
use Rattle.definition.specs.Questions.{whole}
use Rattle.definition.specs.Query.{QueryCall, query_questions, queried}
use Rattle.definition.specs.Renumbering.{Permutation, Renumbering, Renumbered, TwoQueries, Attached, renumbered_query, attached_list, ComputedQueries, Demand3Computed}
use Rattle.definition.proofs.Passing.{asked_accepted}
use Rattle.definition.proofs.Renumbering.Moves.{moved_computed}
use Rattle.definition.proofs.Renumbering.Mesh.{Passed, passed_says}
use Rattle.definition.proofs.Renumbering.Query.{query_kept}
use Rattle.definition.proofs.Families.{nodes_are}
use Rattle.definition.proofs.Renumbering.Calls.{interpolation_kept, strain_kept, stress_kept}

-- whole records: the length is the size times the count
whole_length : (k len : ℕ) → whole k len ≡ true → len ≡ k * (len / k)
whole_length k len h = sym (div-add-mod len k) ∙ ap (λ (x : ℕ). k * (len / k) + x) (eqb-true (len % k) 0 (and_parts (eqb (len % k) 0) (leb (len / k) 1000000) h).0) ∙ add-zero (k * (len / k))

computed : (q : QueryCall) (r : Renumbering q) → Passed q → Renumbered q r (renumbered_query q r)
computed q r P =
    record {
      family = refl;
      iterations = refl;
      nodes = moved_computed (omega arith) r.nodes (whole_length 2 (length q.mesh.nodes) P.nodes_whole_lem);
      elements = moved_computed (grind (arith, nodes_are q.mesh.family)) r.elements (whole_length (nodes_of q.mesh.family) (length q.mesh.elements) P.elements_whole_lem);
      points = moved_computed (omega arith) r.points (whole_length 2 (length q.points) P.points_whole_lem);
    }

attached : {A : Type 0} (k n : ℕ) (to from : ℕ → ℕ) (d : A) (l l' : List A) → 0 < k → Permutation n to from → l' ≡ attached_list k n from d l → Attached k n to d l l'
attached k n to from d l l' some π e =
    record {
      moves = λ h. rw (e, eq-eqb (length l) (k * n) h) (moved_computed some π h);
      stays = λ h. e ∙ rw (ne_eqb (length l) (k * n) h);
    }

passing : (t : ComputedQueries) → Passed t.query
unfolding queried
passing t = passed_says t.query t.before (asked_accepted (query_questions t.query t.before) (sym t.promise.answers ∙ t.passed)).0

-- the two runs, with the relation between their lists
runs : ComputedQueries → TwoQueries
runs t =
    record {
      query = t.query;
      query' = renumbered_query t.query t.order;
      before = t.before;
      before' = t.before';
      after = t.after;
      after' = t.after';
      answer = t.answer;
      answer' = t.answer';
      promise = t.promise;
      promise' = t.promise';
      order = t.order;
      renumbered = computed t.query t.order (passing t);
      lengths = t.lengths;
      counts = t.counts;
      passed = t.passed;
      no_nan = t.no_nan;
    }

pub demand3_computed : Demand3Computed
unfolding runs
demand3_computed =
    record {
      query_kept = λ t. query_kept (runs t);
      interpolation_kept = λ t S c c' r. interpolation_kept (runs t) S c c' r;
      strain_kept = λ t S c c' f r. strain_kept (runs t) S c c' f r;
      stress_kept = λ t S c c' f m T g p r.
          stress_kept (runs t) S c c' f (attached 1 (element_count t.query.mesh) t.order.to_e t.order.from_e 0 c.material_ids c'.material_ids (omega arith) t.order.elements m) T g
          (attached 2 (element_count t.query.mesh) t.order.to_e t.order.from_e nan c.pairs c'.pairs (omega arith) t.order.elements p) r;
    }
