-- The view among a function's parameters: what is known of its type, and what it owns taken apart into what its two slices own. Assumes `Logic`.
use mathlib.Core.Path.{◌≡◌}
use mathlib.Core.List.{[], ◌∷◌}
use seplogic.Ra.Ura.{Ura}
use base.Logic.{ent, via, snd∗}
use base.Fml.{Fml, fsep}
use types.Logic.{Logic, sem}
use types.Kit.{‵, given, ◌$◌, ◌∵◌, !, qed, move, drop, use1, learn, fsplit, fjoin, done}
use denote.Builtin.{u32, f64}
use denote.Ref.{NamedLft}
use denote.Slice.{ShrSlice, shr_slice_vals}
use denote.Struct.Laws as LL
use denote.Struct.Rest.{all_own, own_open}
use Rattle.view.specs.declared.QuadMeshView2d.{QuadMeshView2d}
use Rattle.view.specs.contracts.QuadMeshView2d as T
use Rattle.view.proofs.QuadMeshView2d.TheLaws as T'
use Rattle.walks.proofs.Known.{Known}

abbrev pub view : (α : NamedLft) → Known (T.the_row α)
view α = record { vals = LL.vals (T.the_type α) (T'.the_laws α); tells = LL.tells (T.the_type α) (T'.the_laws α); lawful = LL.lawful (T.the_type α) (T'.the_laws α) }

module _ {M : Type 1} {𝓤 : Ura M} (𝓛 : Logic 𝓤) (α : NamedLft) (d : QuadMeshView2d) where
  abbrev Whole : Fml
  Whole = (T.the_row α).own_val d ((view α).vals d)

  abbrev Nodes : Fml
  Nodes = (ShrSlice α.mir α.lft f64).own_val d.nodes_rz (shr_slice_vals d.nodes_rz)

  abbrev Elements : Fml
  Elements = (ShrSlice α.mir α.lft u32).own_val d.elements (shr_slice_vals d.elements)

  pub opens : (R : Fml) → ent 𝓤 (sem 𝓛 (fsep Whole R)) (sem 𝓛 (fsep Nodes (fsep Elements R)))
  opens R =
      qed 𝓛 (‵ (fsep Whole R) ∷ []) ∵ fsplit ! $
      use1 𝓛 (given (T'.lowered d ∷ [] ≡ T'.lowered d ∷ []) (‵ (all_own (T.the_type α).parts (T'.the_laws α) (d.nodes_rz, (d.elements, tt))))) (own_open 𝓛 (T.the_type α) (T'.the_laws α) (d.nodes_rz, (d.elements, tt)) (T'.lowered d)) $ learn ! (λ _.
      fsplit ! $ move ! (1 ∷ []) $ fsplit ! $ move ! (1 ∷ []) $ drop ! $
      -- [what the elements own; what the nodes own; R]
      move ! (0 ∷ 2 ∷ []) $ fjoin ! $ move ! (1 ∷ 0 ∷ []) $ fjoin ! $ done !)

  -- what the nodes own is let go
  pub opens_elements : (R : Fml) → ent 𝓤 (sem 𝓛 (fsep Whole R)) (sem 𝓛 (fsep Elements R))
  opens_elements R = via 𝓤 (sem 𝓛 (fsep Nodes (fsep Elements R))) (opens R) (snd∗ 𝓤 (sem 𝓛 Nodes) (sem 𝓛 (fsep Elements R)))
