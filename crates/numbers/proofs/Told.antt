-- Question 0 tells an acceptance: every question of a call has a number from 1 on, and so has every refusal. Assumes nothing.
use mathlib.Core.Path.{◌≡◌, refl, sym, ◌∙◌}
use mathlib.Core.Bool.{Bool, true, false, cond, ◌&&◌}
use mathlib.Core.List.{List, [], ◌∷◌}
use Prim.Native.Nat.{ℕ, zero, suc}
use lib.Dec.{ltb}
use Rattle.std.specs.List.{list_all}
use Rattle.std.proofs.lemmas.List.Folds.{list_all-append}
use Rattle.definition.specs.Lists.{each}
use Rattle.definition.specs.Questions.{Question, Outcome, accepted, refused, asked, node_numbers, off_axis}
use Rattle.definition.specs.Mesh.{Mesh}
use Rattle.definition.specs.Query.{QueryCall, QueryLists, query_questions, queried}
use Rattle.definition.specs.Operators.{InterpolationCall, StrainCall, StressCall, TripletLists, Operator, operator_of, operated, interpolation_questions, interpolation, strain_questions, strain, stress_questions, stress}
use Rattle.definition.specs.Job.{job_answered}
use Rattle.definition.specs.declared.QueryCounts.{QueryCounts}
use Rattle.definition.specs.declared.OperatorCounts.{OperatorCounts}
use Rattle.definition.specs.declared.Reference.{Reference}
use Rattle.definition.specs.declared.GatheredElement.{GatheredElement}
use Rattle.definition.specs.declared.Structural2dFormulation.{Structural2dFormulation}
use Rattle.definition.specs.declared.Structural2dFormulation.TheVariants.{Axisymmetric, PlaneStrain}
use Rattle.numbers.specs.Numbers.{query_numbers, operator_numbers, job_numbers}

-- ---- lists of questions with numbers from 1 on

abbrev numbered : List Question → Bool
numbered qs = list_all (λ q. ltb 0 q.number) qs

numbered_each : (g : ℕ → List Question) (n : ℕ) → ((i : ℕ) → numbered (g i) ≡ true) → numbered (each g n) ≡ true
unfolding each
numbered_each g zero h = refl
numbered_each g (suc n) h = simp (list_all-append, numbered_each g n h, h n)

numbered_nodes : (m : Mesh) → numbered (node_numbers m) ≡ true
unfolding node_numbers
numbered_nodes m = numbered_each _ _ (λ e. refl)

numbered_axis : (f : Structural2dFormulation) (e : GatheredElement) (p : ℕ) (r : Reference) → numbered (off_axis f e p r) ≡ true
numbered_axis Axisymmetric e p r = refl
numbered_axis (PlaneStrain thickness) e p r = refl

-- f is the number of a refusal. Where it is 0 there is no refusal
asked_told : {A : Type 0} (f : Outcome A → ℕ) → ((number place : ℕ) → f (refused number place) ≡ number) → (qs : List Question) (v : A) → numbered qs ≡ true → f (asked qs v) ≡ 0 → asked qs v ≡ accepted v
unfolding asked
asked_told f is [] v h e = refl
asked_told f is (q ∷ qs) v h e = by (asked_told f is qs v) q.holds (ltb 0 q.number) refl h e
  where
    by : (numbered qs ≡ true → f (asked qs v) ≡ 0 → asked qs v ≡ accepted v) → (b t : Bool) → ltb 0 q.number ≡ t → t && numbered qs ≡ true → f (cond b (asked qs v) (refused q.number q.place)) ≡ 0 → cond b (asked qs v) (refused q.number q.place) ≡ accepted v
    by rest true true p h e = rest h e
    by rest false true p h e = let never : false ≡ true = rw (sym (is q.number q.place) ∙ e) at p in cc
    by rest b false p h e = cc

-- ---- the calls

pub query_told : (q : QueryCall) (lent : QueryLists) → (query_numbers (queried q lent)).question ≡ 0 → (c : QueryCounts) × (queried q lent ≡ accepted c)
unfolding query_questions queried
query_told q lent e = (_, asked_told (λ o. (query_numbers o).question) (λ n p. refl) (query_questions q lent) _ (simp (list_all-append, numbered_nodes)) e)

operator_told : (o : Operator) → numbered o.questions ≡ true → (operator_numbers (operated o)).question ≡ 0 → (c : OperatorCounts) × (operated o ≡ accepted c)
unfolding operated
operator_told o h e = (_, asked_told (λ p. (operator_numbers p).question) (λ n p. refl) o.questions _ h e)

pub interpolation_told : (c : InterpolationCall) (lent : TripletLists) → (operator_numbers (operated (interpolation c lent))).question ≡ 0 → (n : OperatorCounts) × (operated (interpolation c lent) ≡ accepted n)
unfolding interpolation_questions interpolation operator_of
interpolation_told c lent = operator_told (interpolation c lent) (simp (list_all-append, numbered_nodes) (numbered_each _ _ (λ p. refl)))

pub strain_told : (c : StrainCall) (lent : TripletLists) → (operator_numbers (operated (strain c lent))).question ≡ 0 → (n : OperatorCounts) × (operated (strain c lent) ≡ accepted n)
unfolding strain_questions strain operator_of
strain_told c lent = operator_told (strain c lent) (simp (list_all-append, numbered_nodes) (numbered_each _ _ (λ p. numbered_axis c.formulation _ p _)))

pub stress_told : (c : StressCall) (lent : TripletLists) → (operator_numbers (operated (stress c lent))).question ≡ 0 → (n : OperatorCounts) × (operated (stress c lent) ≡ accepted n)
unfolding stress_questions stress operator_of
stress_told c lent = operator_told (stress c lent) (simp (list_all-append, numbered_nodes) (numbered_each _ _ (λ p. numbered_axis c.formulation _ p _)))

pub job_told : (bytes lent : List ℕ) → (job_numbers (job_answered bytes lent)).question ≡ 0 → (n : ℕ) × (job_answered bytes lent ≡ accepted n)
unfolding job_answered
job_told bytes lent e = (_, asked_told (λ o. (job_numbers o).question) (λ n p. refl) _ _ refl e)
