-- Triplets: three lists give back those written to them; a point's are those that it made; those of renamed rows and columns are the triplets renamed.
-- A row's quotient by k is its point, and each law holds of one triplet and so of all. Assumes nothing.
use mathlib.Core.Path.{◌≡◌, refl, sym, ap, ap₂, ◌∙◌}
use mathlib.Core.Logic.{inl, inr}
use mathlib.Core.Bool.{true, false, cond}
use mathlib.Core.List.{List, [], ◌∷◌, ◌++◌, map, append-nil}
use Prim.Native.Nat.{ℕ, zero, suc, ◌+◌, ◌*◌, ◌/◌, ◌≤◌, ◌<◌}
use native.Mathlib.Nat.{le_refl, le_step, le_of_suc-le-suc, not-suc-le-zero, eq-or-lt_of_le}
use native.Mathlib.Omega.{arith}
use borrow.Author.Tests.{eq-eqb, ne_eqb}
use lib.Dec.{eqb}
use lib.ListN.{length, get_or, length-map, get_or-map}
use lib.Ieee.{Float, nan, eq}
use Rattle.definition.specs.Lists.{each, over}
use Rattle.definition.specs.Binary64.{plus0}
use Rattle.definition.specs.Rows.{Triplet, kept, point_triplets}
use Rattle.definition.specs.Operators.{TripletLists, triplets_over}
use Rattle.definition.specs.Renumbering.{within, triplets_of, of_point, renamed}
use Rattle.definition.proofs.Lists.{each_same, map_each, values_is, over_at}
use Rattle.definition.proofs.Renumbering.Moves.{part_of, within_at}

-- ---- written to three lists

pub triplets_read : (ts : List Triplet) (lent : TripletLists) → triplets_of (triplets_over ts lent) (length ts) ≡ ts
unfolding triplets_over
triplets_read ts lent = sym (values_is past refl (λ i l. λ s. record { row = field_at (λ t. t.row) lent.rows l s; column = field_at (λ t. t.column) lent.columns l s; value = field_at (λ t. t.value) lent.values l s }))
  where
    past : Triplet
    past = record { row = 0; column = 0; value = nan }

    field_at : {A : Type 0} (f : Triplet → A) (old : List A) {i : ℕ} → i < length ts → f (get_or ts i past) ≡ get_or (over (map f ts) old) i (f past)
    field_at f old {i} l = sym (over_at (map f ts) old (f past) (rw length-map l) ∙ get_or-map f ts i past)

-- ---- by point

-- every triplet of a list is in the k rows of point p
pub data InRows (k p : ℕ) : List Triplet → Type 0 where
  none : InRows k p []
  more : {t : Triplet} {ts : List Triplet} → t.row / k ≡ p → InRows k p ts → InRows k p (t ∷ ts)

in_rows_append : {k p : ℕ} {ts us : List Triplet} → InRows k p ts → InRows k p us → InRows k p (ts ++ us)
in_rows_append none b = b
in_rows_append (more e a) b = more e (in_rows_append a b)

in_rows_each : {k p : ℕ} (g : ℕ → List Triplet) {n : ℕ} → ((i : ℕ) → i < n → InRows k p (g i)) → InRows k p (each g n)
unfolding each
in_rows_each g {n = zero} a = none
in_rows_each g {n = suc n} a = in_rows_append (in_rows_each g (λ i l. a i (le_step l))) (a n (le_refl (suc n)))

in_rows_kept : {k p : ℕ} (r c : ℕ) (v : Float) → r / k ≡ p → InRows k p (kept r c v)
unfolding kept
in_rows_kept {k} {p} r c v e = elim (eq v plus0) as (λ b. InRows k p (cond b [] (record { row = r; column = c; value = v } ∷ []))) [ true ↦ none | false ↦ more e none ]

pub own_rows : (k c F : ℕ) (node : ℕ → ℕ) (value : ℕ → ℕ → ℕ → Float) (p : ℕ) → InRows k p (point_triplets k c F node value p)
unfolding point_triplets
own_rows k c F node value p = in_rows_each _ (λ i l. in_rows_each _ (λ j _. in_rows_each _ (λ d _. in_rows_kept (k * p + i) (c * node j + d) (value i j d) (part_of k p l))))

of_point_own : {k p : ℕ} {ts : List Triplet} → InRows k p ts → of_point k p ts ≡ ts
unfolding of_point
of_point_own none = refl
of_point_own (more {t} e a) = rw (eq-eqb _ _ e) (ap (λ l. t ∷ l) (of_point_own a))

of_point_other : {k p q : ℕ} {ts : List Triplet} → (q ≡ p → ⊥) → InRows k q ts → of_point k p ts ≡ []
unfolding of_point
of_point_other f none = refl
of_point_other f (more e a) = rw (e, ne_eqb _ _ f) (of_point_other f a)

of_point_append : (k p : ℕ) (ts us : List Triplet) → of_point k p (ts ++ us) ≡ of_point k p ts ++ of_point k p us
unfolding of_point
of_point_append k p [] us = refl
of_point_append k p (t ∷ ts) us =
    elim (eqb (t.row / k) p) as (λ b. cond b (t ∷ of_point k p (ts ++ us)) (of_point k p (ts ++ us)) ≡ cond b (t ∷ of_point k p ts) (of_point k p ts) ++ of_point k p us) [
      | true ↦ ap (λ l. t ∷ l) (of_point_append k p ts us)
      | false ↦ of_point_append k p ts us
    ]

of_point_none : (k : ℕ) (g : ℕ → List Triplet) (n p : ℕ) → n ≤ p → ((q : ℕ) → q < n → InRows k q (g q)) → of_point k p (each g n) ≡ []
unfolding each of_point
of_point_none k g zero p h a = refl
of_point_none k g (suc n) p h a = of_point_append k p (each g n) (g n) ∙ ap₂ ◌++◌ (of_point_none k g n p (omega arith) (λ q m. a q (le_step m))) (of_point_other (λ e. omega arith) (a n (le_refl (suc n))))

pub of_point_each : (k : ℕ) (g : ℕ → List Triplet) (n p : ℕ) → p < n → ((q : ℕ) → q < n → InRows k q (g q)) → of_point k p (each g n) ≡ g p
unfolding each
of_point_each k g zero p l a = absurd (not-suc-le-zero l)
of_point_each k g (suc n) p l a =
    of_point_append k p (each g n) (g n)
    ∙ elim (eq-or-lt_of_le (le_of_suc-le-suc l)) [
      | inl e ↦ rw (of_point_none k g n p (omega arith) (λ q m. a q (le_step m)), e) (of_point_own (a n (le_refl (suc n))))
      | inr m ↦ rw (of_point_each k g n p m (λ q m. a q (le_step m)), of_point_other {p = p} (λ e. omega arith) (a n (le_refl (suc n)))) (append-nil (g p))
    ]

-- ---- renamed

kept_renamed : (k c : ℕ) (to_p to_n : ℕ → ℕ) (row column : ℕ) (v : Float) → kept (within k to_p row) (within c to_n column) v ≡ map (renamed k c to_p to_n) (kept row column v)
unfolding kept
kept_renamed k c to_p to_n row column v =
    elim (eq v plus0) as (λ b. cond b [] (record { row = within k to_p row; column = within c to_n column; value = v } ∷ [])
    ≡ map (renamed k c to_p to_n) (cond b [] (record { row = row; column = column; value = v } ∷ []))) [ true ↦ refl | false ↦ refl ]

pub point_triplets_renamed : {k c F : ℕ} (to_p to_n node : ℕ → ℕ) {node' : ℕ → ℕ} {value value' : ℕ → ℕ → ℕ → Float} (p : ℕ) {p' : ℕ}
    → p' ≡ to_p p → ((j : ℕ) → j < F → node' j ≡ to_n (node j)) → ((i j d : ℕ) → i < k → j < F → d < c → value' i j d ≡ value i j d)
    → point_triplets k c F node' value' p' ≡ map (renamed k c to_p to_n) (point_triplets k c F node value p)
unfolding point_triplets
point_triplets_renamed {k} {c} to_p to_n node {value = value} p point nodes values =
    simp map_each (each_same (λ i li. each_same (λ j lj. each_same (λ d ld.
    rw (point, nodes j lj, values i j d li lj ld, ← within_at k to_p p i li, ← within_at c to_n (node j) d ld)
    (kept_renamed k c to_p to_n (k * p + i) (c * node j + d) (value i j d))))))
