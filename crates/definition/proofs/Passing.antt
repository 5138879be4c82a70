-- A call is accepted, with its own value, exactly where all its questions hold: `asked` goes on past each question that holds and stops at the first that does not. Assumes nothing.
use mathlib.Core.Path.{◌≡◌, refl, sym, ap, ◌∙◌}
use mathlib.Core.Logic.{inl, inr}
use mathlib.Core.Bool.{Bool, true, false, cond, ◌&&◌, and_assoc}
use mathlib.Core.List.{List, [], ◌∷◌, ◌++◌, append-nil}
use Prim.Native.Nat.{ℕ, zero, suc, ◌<◌}
use native.Mathlib.Nat.{le_of_suc-le-suc, not-suc-le-zero, eq-or-lt_of_le}
use Rattle.std.proofs.lemmas.Bool.{and_parts}
use Rattle.definition.specs.Lists.{each, every}
use Rattle.definition.specs.Questions.{Question, Outcome, ask, accepted, refused, asked, onward}

-- whether all questions of a list hold
unfoldable pub passes : List Question → Bool
passes [] = true
passes (q ∷ qs) = q.holds && passes qs

pub passes_append : (qs rs : List Question) → passes (qs ++ rs) ≡ passes qs && passes rs
unfolding passes
passes_append [] rs = refl
passes_append (q ∷ qs) rs = ap (λ b. q.holds && b) (passes_append qs rs) ∙ sym (and_assoc q.holds (passes qs) (passes rs))

pub passes_each : (g : ℕ → List Question) (n : ℕ) → passes (each g n) ≡ every (λ i. passes (g i)) n
unfolding each every passes
passes_each g zero = refl
passes_each g (suc n) = passes_append (each g n) (g n) ∙ ap (λ b. b && passes (g n)) (passes_each g n)

-- the value, or the number and the place of the first no
asked_is : {A : Type 0} (qs : List Question) (v : A) → (number : ℕ) × (place : ℕ) × (asked qs v ≡ cond (passes qs) (accepted v) (refused number place))
unfolding asked passes
asked_is [] v = (0, 0, refl)
asked_is (q ∷ qs) v =
    elim q.holds as (λ b. (number : ℕ) × (place : ℕ) × (cond b (asked qs v) (refused q.number q.place) ≡ cond (b && passes qs) (accepted v) (refused number place))) [
      | true ↦ asked_is qs v
      | false ↦ (q.number, q.place, refl)
    ]

pub asked_passed : {A : Type 0} (qs : List Question) (v : A) → passes qs ≡ true → asked qs v ≡ accepted v
asked_passed qs v h = rw h at (asked_is qs v).2

pub asked_refused : {A : Type 0} (qs : List Question) (v : A) → passes qs ≡ false → (number : ℕ) × (place : ℕ) × (asked qs v ≡ refused number place)
asked_refused qs v h = ((asked_is qs v).0, (asked_is qs v).1, rw h at (asked_is qs v).2)

pub asked_accepted : {A : Type 0} (qs : List Question) {v w : A} → asked qs v ≡ accepted w → (passes qs ≡ true) × (v ≡ w)
asked_accepted qs {v} {w} h = by (passes qs) (asked_is qs v).2
  where
    by : (b : Bool) → asked qs v ≡ cond b (accepted v) (refused (asked_is qs v).0 (asked_is qs v).1) → (b ≡ true) × (v ≡ w)
    by true e = (refl, cc)
    by false e = (cc, cc)

-- one question that passes holds
pub held : (number place : ℕ) {b : Bool} → accepted tt ≡ asked (ask number place b ∷ []) (tt {0}) → b ≡ true
unfolding passes
held number place {b} h = (and_parts b true (asked_accepted (ask number place b ∷ []) (sym h)).0).0

-- ---- questions one part after the other

pub asked_append : {A : Type 0} (qs rs : List Question) (v : A) → asked (qs ++ rs) v ≡ onward (asked qs (tt {0})) (asked rs v)
unfolding asked
asked_append [] rs v = refl
asked_append (q ∷ qs) rs v =
    elim q.holds as (λ b. cond b (asked (qs ++ rs) v) (refused q.number q.place) ≡ onward (cond b (asked qs tt) (refused q.number q.place)) (asked rs v)) [
      | true ↦ asked_append qs rs v
      | false ↦ refl
    ]

-- the value is handed out only where all hold
pub asked_value : {A : Type 0} (qs : List Question) (v : A) → asked qs v ≡ onward (asked qs (tt {0})) (accepted v)
unfolding asked
asked_value qs v = rw (append-nil qs) at (asked_append qs [] v)

-- what questions come to for no value is what they come to for any
pub asked_with : {A : Type 0} (qs : List Question) (v : A) {o : Outcome (Unit {0})} → o ≡ asked qs (tt {0}) → asked qs v ≡ onward o (accepted v)
asked_with qs v h = asked_value qs v ∙ rw (← h)

-- questions of one place after the other: all hold, or the first place whose questions do not all hold gives the answer
pub all_asked : {A : Type 0} (g : ℕ → List Question) (n : ℕ) (v : A) → every (λ i. passes (g i)) n ≡ true → asked (each g n) v ≡ accepted v
all_asked g n v h = asked_passed (each g n) v (passes_each g n ∙ h)

pub first_refused : {A : Type 0} (g : ℕ → List Question) (n i : ℕ) {number place : ℕ} (v : A) → every (λ i. passes (g i)) i ≡ true → i < n → asked (g i) (tt {0}) ≡ refused number place → asked (each g n) v ≡ refused number place
unfolding each asked
first_refused g zero i v h l e = absurd (not-suc-le-zero l)
first_refused g (suc n) i v h l e =
    asked_append (each g n) (g n) v
    ∙ elim (eq-or-lt_of_le (le_of_suc-le-suc l)) [
      | inl q ↦ ap (λ o. onward o (asked (g n) v)) (all_asked g n tt (rw q at h)) ∙ asked_value (g n) v ∙ ap (λ o. onward o (accepted v)) (rw q at e)
      | inr l ↦ ap (λ o. onward o (asked (g n) v)) (first_refused g n i tt h l e)
    ]
