-- Texts put one after the other are one text, the output keeps its length, and a text that has room from place 0 on is written over the output: by the laws of a fold, and the length by induction on the text. Assumes nothing.
use mathlib.Core.Path.{◌≡◌, refl, ◌∙◌}
use mathlib.Core.Bool.{true, false, cond}
use mathlib.Core.List.{List, [], ◌∷◌, ◌++◌}
use Prim.Native.Nat.{ℕ, ◌+◌, ◌≤◌, ◌<◌}
use native.Mathlib.Numerals.{add-one}
use native.Mathlib.Omega.{arith}
use lib.Dec.{ltb}
use lib.ListN.{length, set, get_or, take, length-append, length-set}
use lib.Seq.{take-suc}
use borrow.Author.Tests.{lt-ltb}
use Rattle.std.proofs.lemmas.List.Sums.{fold-append}
use Rattle.definition.specs.Lists.{each, over}
use Rattle.definition.proofs.Lists.{each_more, fold_on, over_length, over_next}
use Rattle.listing.specs.Page.{Page, page, stored, typed, held, Puts}
use Rattle.listing.specs.declared.Page.{Page as LentPage}

-- no text, and one text after another
pub puts_none : (p : LentPage) → Puts p p []
unfolding typed
puts_none p = record { same = refl; text = refl }

pub puts_on : {p q r : LentPage} {a b : List ℕ} → Puts p q a → Puts q r b → Puts p r (a ++ b)
unfolding typed
puts_on {p} {q} {r} {a} {b} first second = record { same = second.same ∙ first.same; text = let e = first.text in let h = second.text in cc (fold-append stored (held p) a b) }

-- one byte more of a text
pub puts_next : {p q r : LentPage} (t : List ℕ) (i : ℕ) → i < length t → Puts p q (take i t) → Puts q r (get_or t i 0 ∷ []) → Puts p r (take (i + 1) t)
puts_next t i l first second = rw (add-one, take-suc {A = ℕ} t i 0 l) (puts_on first second)

-- one part more of a text of parts
pub puts_each : {p q r : LentPage} (g : ℕ → List ℕ) (n : ℕ) → Puts p q (each g n) → Puts q r (g n) → Puts p r (each g (n + 1))
puts_each g n first second = rw each_more (puts_on first second)

-- ---- the output keeps its length

stored_length : (p : Page) (b : ℕ) → length (stored p b).bytes ≡ length p.bytes
unfolding stored
stored_length p b = elim (ltb p.at (length p.bytes)) as (λ s. length (cond s (page (set p.bytes p.at b) (p.at + 1)) p).bytes ≡ length p.bytes) [ true ↦ length-set p.bytes p.at b | false ↦ refl ]

typed_length : (p : Page) (t : List ℕ) → length (typed p t).bytes ≡ length p.bytes
unfolding typed
typed_length p [] = refl
typed_length p (b ∷ t) = typed_length (stored p b) t ∙ stored_length p b

pub typed_keeps : (p : Page) (t : List ℕ) {q : Page} → q ≡ typed p t → length q.bytes ≡ length p.bytes
typed_keeps p t e = rw e (typed_length p t)

-- ---- a text that has room

module _ (l : List ℕ) where
  stored_after : (done : List ℕ) (b : ℕ) → length done < length l → stored (page (over done l) (length done)) b ≡ page (over (done ++ b ∷ []) l) (length (done ++ b ∷ []))
  unfolding stored
  stored_after done b h =
      let fits : length done < length (over done l) = rw (over_length done l (omega arith)) h in
      rw (lt-ltb (length done) (length (over done l)) fits, over_next done l b h, length-append)

  pub typed_over : (t : List ℕ) → length t ≤ length l → typed (page l 0) t ≡ page (over t l) (length t)
  unfolding typed over
  typed_over t h = fold_on stored (λ done. page (over done l) (length done)) stored_after [] t (omega arith)
