-- An array made from a function of the place. Assumes nothing.
use mathlib.Core.Path.{◌≡◌, ◌∙◌}
use mathlib.Core.List.{List}
use Prim.Native.Nat.{ℕ, zero, suc, ◌+◌, ◌<◌}
use native.Mathlib.Omega.{arith}
use lib.ListN.{get_or}
use denote.Param.Members.{Mut}
use Rattle.std.specs.Fn.{Called}
use Rattle.std.specs.Array.{IsFromFnResult, IsFromFnResultFrom}
use Rattle.definition.specs.Query.{values}
use Rattle.definition.proofs.Lists.{values_is}

module _ {F A : Type 0} (g : Mut F (ℕ × Unit {0}) A) (I : F → Type 0) (v : ℕ → A) (step : (f : F) (i : ℕ) (y : A) (q : F) → I f → Called g f (i, tt) y q → (y ≡ v i) × I q) where
  each_made : (d : A) (f : F) (ys : List A) (i n k j : ℕ) → I f → IsFromFnResultFrom g f ys i n → k < n → j ≡ i + k → get_or ys j d ≡ v j
  each_made d f ys i zero k j a h l e = absurd (omega arith)
  each_made d f ys i (suc n) zero j a h l e = let at : j ≡ i = omega arith in rw at (h.2.1 d ∙ (step f i h.1 h.0 a h.3).0)
  each_made d f ys i (suc n) (suc k) j a h l e = each_made d h.0 ys (i + 1) n k j (step f i h.1 h.0 a h.3).1 h.4 (omega arith) (omega arith)

  pub made : (d : A) {f : F} {ys : List A} {n : ℕ} → I f → IsFromFnResult g f ys n → ys ≡ values v n
  made d {f} {ys} {n} a h = values_is d h.long (λ i l. each_made d f ys 0 n i i a h.each l (omega arith))
