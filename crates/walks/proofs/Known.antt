-- What a walk knows of a parameter's type: how its machine values are spelled, that its relation tells them, and that they are of the MIR types. Assumes nothing.
use mathlib.Core.List.{List, [], ◌∷◌}
use seplogic.Ra.Ura.{Ura}
use mir.Syntax.{Lifetime, w64}
use mir.Val.{Val}
use base.Fml.{Lft}
use types.Logic.{Logic}
use denote.RattleType.{RattleType}
use denote.Laws.{Is, Ises, Tells, Spells, Tellss, Lawful, Lawfuls}
use denote.Builtin.{usize, bool}
use denote.Plain.{uint_vals, uint_Tells, uint_Lawful, bool_vals, bool_Tells, bool_Lawful}
use denote.Slice.{ShrSlice, MutSlice, shr_slice_vals, mut_slice_vals, shr_slice_Tells, mut_slice_Tells, shr_slice_Lawful, mut_slice_Lawful}

pub record Known (R : RattleType) : Type 2 where
  pub vals : R.Denot → List Val
  pub tells : Tells R (Is R) vals
  pub lawful : {M : Type 1} {𝓤 : Ura M} (𝓛 : Logic 𝓤) → Lawful 𝓛 R

-- ---- a list of types
abbrev pub Knowns : List RattleType → Type 2
Knowns [] = Unit {2}
Knowns (R ∷ Rs) = Known R × Knowns Rs

abbrev pub spells : (Rs : List RattleType) → Knowns Rs → Spells Rs
spells [] ks = tt
spells (R ∷ Rs) ks = (ks.0.vals, spells Rs ks.1)

pub tellss : (Rs : List RattleType) (ks : Knowns Rs) → Tellss Rs (Ises Rs) (spells Rs ks)
tellss [] ks = tt
tellss (R ∷ Rs) ks = (ks.0.tells, tellss Rs ks.1)

module _ {M : Type 1} {𝓤 : Ura M} (𝓛 : Logic 𝓤) where
  pub lawfuls : (Rs : List RattleType) → Knowns Rs → Lawfuls 𝓛 Rs
  lawfuls [] ks = tt
  lawfuls (R ∷ Rs) ks = (ks.0.lawful 𝓛, lawfuls Rs ks.1)

-- ---- the built-in types
abbrev pub number : Known usize
number = record { vals = uint_vals w64; tells = uint_Tells w64; lawful = λ 𝓛. uint_Lawful 𝓛 w64 }

abbrev pub yes_or_no : Known bool
yes_or_no = record { vals = bool_vals; tells = bool_Tells; lawful = bool_Lawful }

abbrev pub shared : (ℓ : Lifetime) (κ : Lft) (R : RattleType) → Known (ShrSlice ℓ κ R)
shared ℓ κ R = record { vals = shr_slice_vals; tells = shr_slice_Tells ℓ κ R; lawful = λ 𝓛. shr_slice_Lawful 𝓛 ℓ κ R }

abbrev pub lent : (ℓ : Lifetime) (κ : Lft) (R : RattleType) → Known (MutSlice ℓ κ R)
lent ℓ κ R = record { vals = mut_slice_vals; tells = mut_slice_Tells ℓ κ R; lawful = λ 𝓛. mut_slice_Lawful 𝓛 ℓ κ R }
