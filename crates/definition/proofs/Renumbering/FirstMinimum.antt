-- The one law of the choice, for nodes, elements and faces: among numbers `pick` names the first of the nearest, since each step compares with the least so far, and numbers are ordered as whole numbers are.
-- So of the same numbers in another order it names one at the same distance, bit for bit, and where just one is nearest, that one by its new number. Assumes nothing.
use mathlib.Core.Path.{◌≡◌, refl, sym, ap, ◌∙◌}
use mathlib.Core.Bool.{Bool, true, false, cond}
use mathlib.Core.Logic.{inl, inr}
use Prim.Native.Nat.{ℕ, zero, suc, ◌<◌}
use native.Mathlib.Nat.{eq-or-lt_of_le, le_of_lt, le_of_suc-le-suc, not-suc-le-zero}
use native.Mathlib.Omega.{arith}
use lib.Ieee.{Float, lt}
use Rattle.definition.specs.Choice.{pick}
use Rattle.definition.specs.Renumbering.{Permutation, Named, Nearest}
use Rattle.definition.proofs.Choice.{lt_self}
use Rattle.definition.proofs.Renumbering.Distance.{IsNumber}
use Rattle.definition.proofs.Renumbering.Weight.{weight, less, not_less, weight_only}

-- the choice among n distances d, and among the same in another order, d', where number i is number `to i`
pub record Choice (d d' : ℕ → Float) (n n' : ℕ) (to : ℕ → ℕ) : Type 0 where
  pub numbers' : (i : ℕ) → i < n' → IsNumber (d' i)
  pub distance : d' (pick d' n') ≡ d (pick d n)
  pub named : Named d n (pick d n)
  pub named' : Named d' n' (pick d' n')
  -- where just one is nearest
  pub moved : ((a b : ℕ) → a < n → b < n → Nearest d n a → Nearest d n b → a ≡ b) → pick d' n' ≡ to (pick d n)

-- ---- what `pick` names
below_suc : (P : ℕ → Type 0) (n : ℕ) → ((i : ℕ) → i < n → P i) → P n → (i : ℕ) → i < suc n → P i
below_suc P n before last i l = elim (eq-or-lt_of_le (le_of_suc-le-suc l)) [ inl e ↦ rw e last | inr k ↦ before i k ]

-- one more: where it is less than the least before it, it is less than all before it
named_more : (d : ℕ → Float) (n b : ℕ) → ((i : ℕ) → i < suc n → IsNumber (d i)) → Named d n b → (t : Bool) → lt (d n) (d b) ≡ t → Named d (suc n) (cond t n b)
named_more d n b numbers h true e = record { inside = omega arith; least = below_suc (λ i. lt (d i) (d n) ≡ false) n (λ i l. (less_than_all i l).1) (lt_self (d n)); first = λ i l. (less_than_all i l).0 }
  where
    less_than_all : (i : ℕ) → i < n → (lt (d n) (d i) ≡ true) × (lt (d i) (d n) ≡ false)
    less_than_all i l =
        let p = numbers n (omega arith) in
        let q = numbers b (omega arith) in
        let r = numbers i (omega arith) in
        let w : weight (d n) < weight (d i) = omega (arith, (less p q).0 e, (not_less r q).0 (h.least i l)) in
        ((less p r).1 w, (not_less r p).1 (le_of_lt w))
named_more d n b numbers h false e = record { inside = omega arith; least = below_suc (λ i. lt (d i) (d b) ≡ false) n h.least e; first = h.first }

pick_named : (d : ℕ → Float) (n : ℕ) → 0 < n → ((i : ℕ) → i < n → IsNumber (d i)) → Named d n (pick d n)
unfolding pick
pick_named d zero some numbers = absurd (not-suc-le-zero some)
pick_named d (suc zero) some numbers = record { inside = some; least = λ i l. (let z : i ≡ 0 = omega arith in rw z (lt_self (d 0))); first = λ i l. absurd (not-suc-le-zero l) }
pick_named d (suc (suc n)) some numbers = named_more d (suc n) (pick d (suc n)) numbers (pick_named d (suc n) (omega arith) (λ i l. numbers i (omega arith))) _ refl

-- ---- in another order
pub choice : (n n' : ℕ) → n' ≡ n → 0 < n → (to from : ℕ → ℕ) → Permutation n to from → (d d' : ℕ → Float)
    → ((i : ℕ) → i < n → d' (to i) ≡ d i) → ((i : ℕ) → i < n → IsNumber (d i)) → Choice d d' n n' to
choice n n' e some to from π d d' same numbers =
    let b = pick d n in
    let b' = pick d' n in
    let back : (i : ℕ) → i < n → d' i ≡ d (from i) = λ i l. ap d' (sym (π.to_from i l)) ∙ same (from i) (π.from_in i l) in
    let numbers' : (i : ℕ) → i < n → IsNumber (d' i) = λ i l. rw (back i l) (numbers (from i) (π.from_in i l)) in
    let named = pick_named d n some numbers in
    let named' = pick_named d' n some numbers' in
    let l = named.inside in
    let l' = named'.inside in
    let p = numbers b l in
    let p' = numbers' b' l' in
    let no_less : lt (d b) (d' b') ≡ false = rw (same b l) at (named'.least (to b) (π.to_in b l)) in
    let no-less' : lt (d' b') (d b) ≡ false = rw (back b' l') (named.least (from b') (π.from_in b' l')) in
    let distance : d' b' ≡ d b = weight_only p' p (omega (arith, (not_less p p').0 no_less, (not_less p' p).0 no-less')) in
    let as-near : d (from b') ≡ d b = sym (back b' l') ∙ distance in
    rw e
    (record {
      numbers' = numbers';
      distance = distance;
      named = named;
      named' = named';
      moved = λ just_one. sym (π.to_from b' l') ∙ ap to (just_one (from b') b (π.from_in b' l') l (rw as-near named.least) named.least);
    })
