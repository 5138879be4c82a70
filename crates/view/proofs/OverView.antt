-- A thin call over the view: the function has the view among its parameters where its callee has the view's two slices, and all else alike. So it owns what the callee asks once the view is taken apart, and the callee's last values are its own.
--     args, vals       what the callee is passed
--     entry, last      what is owned at entry, and what is said of the last values
--     view_meets       the function meets its contract
-- Assumes `Logic`, and that the table of calls is monotone under a frame.
use mathlib.Core.List.{List, [], ◌∷◌, ◌++◌}
use Prim.Native.Nat.{ℕ, zero}
use seplogic.Ra.Ura.{Ura}
use mir.Syntax.{Callee as Named, Fn}
use mir.Val.{Val}
use base.Logic.{ent, emp, snd∗, mono∗, mono_r}
use base.Fml.{fsep, ftrue}
use prog.Wp.{Calls, Loops, WpFn}
use types.Logic.{Logic, sem}
use sound.WpLaws.{FmC}
use contract.Lifetimes.{Lfts, Within}
use denote.RattleType.{Denots, Valss, mirs, flat, owns}
use denote.Laws.{Is, Typed, valss}
use denote.Builtin.{u32, f64}
use denote.Exit.{yes, left}
use denote.Ref.{NamedLft}
use denote.Signature.{Slot, plain, shr_slice_of, named_lft, types_at}
use denote.Slice.{shr_slice_vals}
use denote.Triple.Statement.{Triple}
use denote.Triple.Entry.{Args, Vals, Res, alive}
use denote.Triple.End.{all, Fins, lasts_of}
use denote.Triple.Clauses.{Ended, Clauses, Lasts, at_exit, closing}
use denote.Triple.Spec.{Meets, triple_of}
use Rattle.view.specs.contracts.QuadMeshView2d as T
use Rattle.walks.proofs.Known.{Knowns, spells}
use Rattle.view.proofs.Opened.{view, opens}
use Rattle.walks.proofs.Straight.{Of, Passed, Straight, begun, called, returned, ty_at}
use Rattle.walks.proofs.Thin.{answered, ensured_through, thin_meets}

module _ (n : ℕ) (ok : Within n 0) (ss : List (Slot n)) where
  abbrev α : Lfts n → NamedLft
  α κs = named_lft n 0 ok κs

  -- the parameters from the view on, and the callee's in their place
  abbrev whole : List (Slot n)
  whole = plain (λ κs. T.the_row (α κs)) ∷ ss

  abbrev parts : List (Slot n)
  parts = shr_slice_of (0 ∷ []) ok (plain (λ _. f64)) ∷ shr_slice_of (0 ∷ []) ok (plain (λ _. u32)) ∷ ss

  module _ (κs : Lfts n) where
    abbrev args : (ps : List (Slot n)) → Denots (types_at (ps ++ whole) κs) → Denots (types_at (ps ++ parts) κs)
    args [] a = (a.0.nodes_rz, (a.0.elements, a.1))
    args (p ∷ ps) a = (a.0, args ps a.1)

    abbrev vals : (ps : List (Slot n)) → Denots (types_at (ps ++ whole) κs) → Valss (types_at (ps ++ whole) κs) → Valss (types_at (ps ++ parts) κs)
    vals [] a vss = (shr_slice_vals a.0.nodes_rz, (shr_slice_vals a.0.elements, vss.1))
    vals (p ∷ ps) a vss = (vss.0, vals ps a.1 vss.1)

    -- what is known of the parameters' types
    abbrev joined : (ps : List (Slot n)) → Knowns (types_at ps κs) → Knowns (types_at ss κs) → Knowns (types_at (ps ++ whole) κs)
    joined [] ks ls = (view (α κs), ls)
    joined (p ∷ ps) ks ls = (ks.0, joined ps ks.1 ls)

    abbrev spelled : (ps : List (Slot n)) → Knowns (types_at ps κs) → Knowns (types_at ss κs) → Denots (types_at (ps ++ whole) κs) → Valss (types_at (ps ++ whole) κs)
    spelled ps ks ls a = valss (types_at (ps ++ whole) κs) (spells (types_at (ps ++ whole) κs) (joined ps ks ls)) a

    abbrev back : (ps : List (Slot n)) (a : Denots (types_at (ps ++ whole) κs)) → Fins κs (ps ++ parts) (all yes (ps ++ parts)) (args ps a) → Fins κs (ps ++ whole) (all yes (ps ++ whole)) a
    back [] a ws = (tt, ws.1.1)
    back (p ∷ ps) a ws = (ws.0, back ps a.1 ws.1)

    module _ {M : Type 1} {𝓤 : Ura M} (𝓛 : Logic 𝓤) where
      entry : (ps : List (Slot n)) (ks : Knowns (types_at ps κs)) (ls : Knowns (types_at ss κs)) (a : Denots (types_at (ps ++ whole) κs))
          → ent 𝓤 (sem 𝓛 (owns (types_at (ps ++ whole) κs) a (spelled ps ks ls a))) (sem 𝓛 (owns (types_at (ps ++ parts) κs) (args ps a) (vals ps a (spelled ps ks ls a))))
      entry [] ks ls a = opens 𝓛 (α κs) a.0 (owns (types_at ss κs) a.1 (spelled [] ks ls a).1)
      entry (p ∷ ps) ks ls a = mono_r 𝓤 (sem 𝓛 ((p.row κs).own_val a.0 (ks.0.vals a.0))) (entry ps ks.1 ls a.1)

      last : (ps : List (Slot n)) (a : Denots (types_at (ps ++ whole) κs)) (ws : Fins κs (ps ++ parts) (all yes (ps ++ parts)) (args ps a))
          → ent 𝓤 (sem 𝓛 (lasts_of κs (ps ++ parts) (all yes (ps ++ parts)) (args ps a) ws)) (sem 𝓛 (lasts_of κs (ps ++ whole) (all yes (ps ++ whole)) a (back ps a ws)))
      last [] a ws = snd∗ 𝓤 (emp 𝓤) (sem 𝓛 (fsep ftrue (lasts_of κs ss (all yes ss) a.1 ws.1.1)))
      last (p ∷ ps) a ws = mono_r 𝓤 (sem 𝓛 (left ((p.row κs).exit yes) a.0 ws.0)) (last ps a.1 ws.1)

  module _ (ps : List (Slot n)) (res : Slot n) where
    abbrev Own : Ended
    Own = record { signature = record { lifetimes = n; outlives = []; params = ps ++ whole; result = res }; kept = all yes (ps ++ whole) }

    abbrev Callee : Ended
    Callee = record { signature = record { lifetimes = n; outlives = []; params = ps ++ parts; result = res }; kept = all yes (ps ++ parts) }

    module _ {M : Type 1} {𝓤 : Ura M} (𝓛 : Logic 𝓤) (c : Clauses 𝓤 Own) (c' : Clauses 𝓤 Callee) (C : Calls 𝓤 𝓛.H) (Λ : Loops 𝓤 𝓛.H) (key : Named) (f : Fn)
        (ks : (κs : Lfts n) → Knowns (types_at ps κs)) (ls : (κs : Lfts n) → Knowns (types_at ss κs)) where
      open 𝓛 use {H}

      abbrev us : (κs : Lfts n) → Args Own.signature κs → Vals Own.signature κs
      us κs = spelled κs ps (ks κs) (ls κs)

      pub view_meets : FmC 𝓤 H 𝓛.laws C → Triple 𝓤 (C key) (triple_of 𝓛 Callee.signature (closing 𝓛 Callee c'))
          → ((κs : Lfts n) (r : Res Own.signature κs) (u : Val) → Is (res.row κs) r (u ∷ []) → Of (ty_at f.locals zero) u)
          → (asks : (κs : Lfts n) (a : Args Own.signature κs) (g : (c κs a).ghost) → (g' : (c' κs (args κs ps a)).ghost) × ent 𝓤 ((c κs a).requires g) ((c' κs (args κs ps a)).requires g'))
          → ((κs : Lfts n) (a : Args Own.signature κs) (g : (c κs a).ghost) (r : Res Own.signature κs) (ws : Lasts Callee κs (args κs ps a)) → ent 𝓤 ((c' κs (args κs ps a)).ensures (asks κs a g).0 r (at_exit Callee κs (args κs ps a) ws)) ((c κs a).ensures g r (at_exit Own κs a (back κs ps a ws))))
          → ((κs : Lfts n) (a : Args Own.signature κs) → Typed (mirs (types_at (ps ++ whole) κs)) (flat (types_at (ps ++ whole) κs) (us κs a))
          → Passed f.locals (flat (types_at (ps ++ whole) κs) (us κs a)) × Straight f.locals (begun f.locals (flat (types_at (ps ++ whole) κs) (us κs a))) f.body (called key (flat (types_at (ps ++ parts) κs) (vals κs ps a (us κs a))) (ty_at f.locals zero) returned))
          → Meets 𝓛 Own.signature (WpFn 𝓤 H C Λ f) (closing 𝓛 Own c)
      view_meets fm known of asks same code =
          thin_meets 𝓛 Own.signature (closing 𝓛 Own c) C Λ f (λ κs. joined κs ps (ks κs) (ls κs)) Callee.signature (closing 𝓛 Callee c') key fm known (λ κs qs bounds a g typed. record {
            to = ((κs, qs, tt, args κs ps a, vals κs ps a (us κs a)), (asks κs a g).0);
            entry = mono∗ 𝓤 (mono_r 𝓤 (alive 𝓛 Own.signature κs qs) (entry κs 𝓛 ps (ks κs) (ls κs) a)) (asks κs a g).1;
            passes = (code κs a typed).0;
            code = (code κs a typed).1;
            exit = answered 𝓛 (res.row κs) (ty_at f.locals zero) (of κs) (alive 𝓛 Own.signature κs qs) _ _ (λ r.
                ensured_through 𝓛 Own Callee c c' κs a g r κs (args κs ps a) (asks κs a g).0 r (back κs ps a) (last κs 𝓛 ps a) (same κs a g r));
          })
