-- What joined lists, lists written over, lists taken up entry by entry and a test of every number come to at one place: by induction on the count, and by the library's laws of appended lists. Assumes nothing.
use mathlib.Core.Path.{◌≡◌, refl, sym, ap, ap₂, ◌∙◌}
use mathlib.Core.Logic.{inl, inr}
use mathlib.Core.Bool.{Bool, true, false, ◌&&◌}
use mathlib.Core.List.{List, [], ◌∷◌, ◌++◌, map, map-append, append_assoc, append-nil}
use Prim.Native.Nat.{ℕ, zero, suc, ◌+◌, ◌*◌, ◌≤◌, ◌<◌}
use native.Mathlib.Nat.{le_refl, le_step, le_of_suc-le-suc, not-suc-le-zero, eq-or-lt_of_le, mul-le-mul_left, one-mul, add-zero}
use native.Mathlib.Numerals.{add-one}
use native.Mathlib.Omega.{arith}
use lib.ListN.{length, get_or, set, take, drop, length-append, length-drop, get_or-append}
use lib.Seq.{take-append_seam, set-append_seam, drop-cons, get_or-append-add, ext_get_or, append_snoc}
use Rattle.std.proofs.Common.{fold}
use Rattle.std.proofs.lemmas.Bool.{and_parts}
use Rattle.definition.specs.Lists.{each, over, every}
use Rattle.definition.specs.Query.{values}

-- ---- joined lists

pub each_more : {A : Type 0} (g : ℕ → List A) (n : ℕ) → each g (n + 1) ≡ each g n ++ g n
unfolding each
each_more g n = ap (each g) (add-one n)

pub each_same : {A : Type 0} {g h : ℕ → List A} {n : ℕ} → ((i : ℕ) → i < n → g i ≡ h i) → each g n ≡ each h n
unfolding each
each_same {n = zero} e = refl
each_same {n = suc n} e = ap₂ ◌++◌ (each_same (λ i l. e i (le_step l))) (e n (le_refl (suc n)))

pub map_each : {A B : Type 0} (f : A → B) (g : ℕ → List A) (n : ℕ) → map f (each g n) ≡ each (λ i. map f (g i)) n
unfolding each
map_each f g zero = refl
map_each f g (suc n) = map-append f (each g n) (g n) ∙ ap (λ l. l ++ map f (g n)) (map_each f g n)

-- parts of k entries each, and of at most k
pub each_length : {A : Type 0} (g : ℕ → List A) {k n : ℕ} → ((i : ℕ) → i < n → length (g i) ≡ k) → length (each g n) ≡ k * n
unfolding each
each_length g {n = zero} e = omega arith
each_length g {n = suc n} e = rw (length-append, each_length g (λ i l. e i (le_step l)), e n (le_refl (suc n))) (omega arith)

pub each_most : {A : Type 0} (g : ℕ → List A) {k n : ℕ} → ((i : ℕ) → i < n → length (g i) ≤ k) → length (each g n) ≤ k * n
unfolding each
each_most g {n = zero} h = omega arith
each_most g {k} {n = suc n} h = rw length-append (omega (arith, each_most g (λ i l. h i (le_step l)), h n (le_refl (suc n))))

pub each_at : {A : Type 0} (g : ℕ → List A) {k n i j : ℕ} (d : A) → ((i : ℕ) → i < n → length (g i) ≡ k) → i < n → j < k → get_or (each g n) (k * i + j) d ≡ get_or (g i) j d
unfolding each
each_at g {n = zero} d e l m = absurd (not-suc-le-zero l)
each_at g {k} {n = suc n} {i} {j} d e l m =
    let size : length (each g n) ≡ k * n = each_length g (λ i l. e i (le_step l)) in
    elim (eq-or-lt_of_le (le_of_suc-le-suc l)) [
      | inl q ↦ rw (q, ← size) (get_or-append-add (each g n) (g n) j d)
      | inr l ↦ get_or-append (each g n) (g n) d (k * i + j) (rw size (omega (arith, mul-le-mul_left k l))) ∙ each_at g d (λ i l. e i (le_step l)) l m
    ]

-- one entry a number, as in `values`, and two, as in `coordinates` and in the pairs of references
pub values_length : {A : Type 0} (v : ℕ → A) (n : ℕ) → length (values v n) ≡ n
values_length v n = each_length (λ i. v i ∷ []) (λ i l. refl) ∙ one-mul n

pub values_at : {A : Type 0} (v : ℕ → A) {n i : ℕ} (d : A) → i < n → get_or (values v n) i d ≡ v i
values_at v d l = simp (one-mul, add-zero) at (each_at (λ i. v i ∷ []) {j = 0} d (λ i l. refl) l (omega arith))

-- a list of n entries, read one by one
pub values_is : {A : Type 0} (d : A) {l : List A} {v : ℕ → A} {n : ℕ} → length l ≡ n → ((i : ℕ) → i < n → get_or l i d ≡ v i) → l ≡ values v n
values_is d {l} {v} {n} size e = ext_get_or d l (values v n) (size ∙ sym (values_length v n)) (λ i h. let below : i < n = rw size at h in e i below ∙ sym (values_at v d below))

pub pairs_length : {A : Type 0} (x y : ℕ → A) (n : ℕ) → length (each (λ i. x i ∷ y i ∷ []) n) ≡ 2 * n
pairs_length x y n = each_length (λ i. x i ∷ y i ∷ []) (λ i l. refl)

pub pairs_first : {A : Type 0} (x y : ℕ → A) {n i : ℕ} (d : A) → i < n → get_or (each (λ i. x i ∷ y i ∷ []) n) (2 * i) d ≡ x i
pairs_first x y d l = simp add-zero at (each_at (λ i. x i ∷ y i ∷ []) {j = 0} d (λ i l. refl) l (omega arith))

pub pairs_second : {A : Type 0} (x y : ℕ → A) {n i : ℕ} (d : A) → i < n → get_or (each (λ i. x i ∷ y i ∷ []) n) (2 * i + 1) d ≡ y i
pairs_second x y d l = each_at (λ i. x i ∷ y i ∷ []) d (λ i l. refl) l (omega arith)

-- ---- a list taken up entry by entry

-- where one entry more is one step more, all that come after are a fold
pub fold_on : {A B : Type 0} (f : B → A → B) (g : List A → B) {n : ℕ} → ((before : List A) (x : A) → length before < n → f (g before) x ≡ g (before ++ x ∷ [])) → (before l : List A) → length before + length l ≤ n → fold f (g before) l ≡ g (before ++ l)
fold_on f g step before [] h = rw append-nil
fold_on f g step before (x ∷ l) h = rw (step before x (omega arith), ← append_snoc before x l) (fold_on f g step (before ++ x ∷ []) l (rw length-append (omega arith)))

-- ---- a list written over

pub over_take : {A : Type 0} (new old : List A) → take (length new) (over new old) ≡ new
unfolding over
over_take new old = take-append_seam new (drop (length new) old)

pub over_at : {A : Type 0} (new old : List A) {i : ℕ} (d : A) → i < length new → get_or (over new old) i d ≡ get_or new i d
unfolding over
over_at new old {i} d l = get_or-append new (drop (length new) old) d i l

-- a place of the new entries: one a number, and two
pub value_read : {A : Type 0} (v : ℕ → A) (old : List A) (d : A) {n i : ℕ} → i < n → get_or (over (values v n) old) i d ≡ v i
value_read v old d {n} l = over_at (values v n) old d (rw (values_length v n) l) ∙ values_at v d l

pub first_read : {A : Type 0} (x y : ℕ → A) (old : List A) (d : A) {n i : ℕ} → i < n → get_or (over (each (λ i. x i ∷ y i ∷ []) n) old) (2 * i) d ≡ x i
first_read x y old d {n} l = over_at (each (λ i. x i ∷ y i ∷ []) n) old d (rw (pairs_length x y n) (omega arith)) ∙ pairs_first x y d l

pub second_read : {A : Type 0} (x y : ℕ → A) (old : List A) (d : A) {n i : ℕ} → i < n → get_or (over (each (λ i. x i ∷ y i ∷ []) n) old) (2 * i + 1) d ≡ y i
second_read x y old d {n} l = over_at (each (λ i. x i ∷ y i ∷ []) n) old d (rw (pairs_length x y n) (omega arith)) ∙ pairs_second x y d l

pub over_length : {A : Type 0} (new old : List A) → length new ≤ length old → length (over new old) ≡ length old
unfolding over
over_length new old h = simp (length-append, length-drop) (omega arith)

-- one entry more is a store at the first place that is not yet new, and two are two stores
pub over_next : {A : Type 0} (new old : List A) (x : A) → length new < length old → over (new ++ x ∷ []) old ≡ set (over new old) (length new) x
unfolding over
over_next new old x l = rw (length-append, add-one, append_assoc, drop-cons old (length new) x l, set-append_seam)

pub over_two : {A : Type 0} (new old : List A) (x y : A) → length new + 1 < length old → over (new ++ x ∷ y ∷ []) old ≡ set (set (over new old) (length new) x) (length new + 1) y
over_two new old x y l =
    let more : length (new ++ x ∷ []) ≡ length new + 1 = length-append new (x ∷ []) in
    rw (← append_assoc new (x ∷ []) (y ∷ []), over_next (new ++ x ∷ []) old y (rw more l), more, over_next new old x (omega arith))

pub over_value : {A : Type 0} (v : ℕ → A) (n : ℕ) (old : List A) → n < length old → over (values v (n + 1)) old ≡ set (over (values v n) old) n (v n)
over_value v n old l =
    let size : length (values v n) ≡ n = values_length v n in
    rw (each_more (λ i. v i ∷ []) n, over_next (values v n) old (v n) (rw size l), size)

pub over_pair : {A : Type 0} (x y : ℕ → A) (k : ℕ) (old : List A) → 2 * k + 1 < length old →
    over (each (λ i. x i ∷ y i ∷ []) (k + 1)) old ≡ set (set (over (each (λ i. x i ∷ y i ∷ []) k) old) (2 * k) (x k)) (2 * k + 1) (y k)
over_pair x y k old l =
    let new = each (λ i. x i ∷ y i ∷ []) k in
    let size : length new ≡ 2 * k = pairs_length x y k in
    rw (each_more, over_two new old (x k) (y k) (rw size l), size)

-- ---- a test of every number below n

pub every_at : (p : ℕ → Bool) {n i : ℕ} → every p n ≡ true → i < n → p i ≡ true
unfolding every
every_at p {n = zero} e l = absurd (not-suc-le-zero l)
every_at p {n = suc n} e l =
    let (before, last) = and_parts (every p n) (p n) e in
    elim (eq-or-lt_of_le (le_of_suc-le-suc l)) [ inl q ↦ rw q last | inr l ↦ every_at p before l ]

pub every_of : {p : ℕ → Bool} {n : ℕ} → ((i : ℕ) → i < n → p i ≡ true) → every p n ≡ true
unfolding every
every_of {n = zero} e = refl
every_of {n = suc n} e = ap₂ ◌&&◌ (every_of (λ i l. e i (le_step l))) (e n (le_refl (suc n)))

-- one number more that passes, and one that does not
pub every_next : (p : ℕ → Bool) (n : ℕ) → every p n ≡ true → p n ≡ true → every p (n + 1) ≡ true
unfolding every
every_next p n h e = ap (every p) (add-one n) ∙ ap₂ ◌&&◌ h e

pub every_fails : (p : ℕ → Bool) (n : ℕ) {i : ℕ} → i < n → p i ≡ false → every p n ≡ false
every_fails p n {i} l e = by (every p n) refl
  where
    by : (b : Bool) → every p n ≡ b → b ≡ false
    by true h = sym (every_at p h l) ∙ e
    by false h = refl
