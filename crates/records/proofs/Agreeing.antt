-- Two files that agree in their first bytes: a record that lies within them is the same in both, with the same questions. Assumes nothing.
use mathlib.Core.Path.{◌≡◌, refl, ap, ap₂}
use mathlib.Core.List.{List, [], ◌∷◌}
use Prim.Native.Nat.{ℕ, zero, suc, ◌+◌, ◌*◌, ◌≤◌, ◌<◌}
use native.Mathlib.Omega.{arith}
use borrow.Author.Tests.{le-leb}
use lib.Dec.{leb}
use lib.ListN.{length, get_or}
use Rattle.definition.specs.Elements.{nodes_of}
use Rattle.definition.specs.declared.Mark.{Mark}
use Rattle.definition.specs.declared.Mark.TheVariants.{Head, Node, Element, Point, Unknown}
use Rattle.definition.specs.Job.{Job, mark_at, record_bytes, little, pair_bits, row_of, taken, family_read, record_questions}
use Rattle.definition.proofs.Lists.{each_same}
use Rattle.records.proofs.Marks.{nodes_few}

pub record_most : (m : Mark) (family : ℕ) → record_bytes m family ≤ 38
unfolding record_bytes
record_most Head family = omega arith
record_most Node family = omega arith
record_most Element family = omega (arith, nodes_few family)
record_most Point family = omega arith
record_most Unknown family = omega arith

module _ (a b : List ℕ) (end : ℕ) (agree : (i : ℕ) → i < end → get_or a i 0 ≡ get_or b i 0) (in_a : end ≤ length a) (in_b : end ≤ length b) where
  little_same : (at n : ℕ) → at + n ≤ end → little a at n ≡ little b at n
  unfolding little
  little_same at zero h = refl
  little_same at (suc n) h = ap₂ (λ x y. x + 256 * y) (agree at (omega arith)) (little_same (suc at) n (omega arith))

  -- the record at a place
  module _ (at : ℕ) (h : at + 38 ≤ end) where
    pub mark_same : mark_at a at ≡ mark_at b at
    unfolding mark_at
    mark_same = rw (le-leb (at + 2) (length a) (omega arith), le-leb (at + 2) (length b) (omega arith), agree at (omega arith), agree (at + 1) (omega arith))

    pair_same : pair_bits a (at + 2) ≡ pair_bits b (at + 2)
    unfolding pair_bits
    pair_same = rw (little_same (at + 2) 8 (omega arith), little_same (at + 2 + 8) 8 (omega arith))

    row_same : (family : ℕ) → row_of a (at + 2) (nodes_of family) ≡ row_of b (at + 2) (nodes_of family)
    unfolding row_of
    row_same family = each_same (λ i l. ap (λ x. x ∷ []) (little_same (at + 2 + 4 * i) 4 (omega (arith, nodes_few family))))

    pub taken_same : (m : Mark) (j : Job) → taken m a at j ≡ taken m b at j
    unfolding taken
    taken_same Head j = rw (agree (at + 2) (omega arith), little_same (at + 3) 2 (omega arith))
    taken_same Node j = rw pair_same
    taken_same Element j = rw (row_same j.family)
    taken_same Point j = rw pair_same
    taken_same Unknown j = refl

    family_same : (m : Mark) → family_read m a at ≡ family_read m b at
    family_same Head = rw (agree (at + 2) (omega arith))
    family_same Node = refl
    family_same Element = refl
    family_same Point = refl
    family_same Unknown = refl

    whole_same : (m : Mark) (family : ℕ) → leb (at + record_bytes m family) (length a) ≡ leb (at + record_bytes m family) (length b)
    whole_same m family = rw (le-leb (at + record_bytes m family) (length a) (omega (arith, record_most m family)), le-leb (at + record_bytes m family) (length b) (omega (arith, record_most m family)))

    pub questions_agree : (index : ℕ) (j : Job) → record_questions a at index j ≡ record_questions b at index j
    unfolding record_questions
    questions_agree index j = rw (mark_same, whole_same (mark_at b at) j.family, family_same (mark_at b at), taken_same (mark_at b at) j)
