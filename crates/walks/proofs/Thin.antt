-- A function whose code is straight meets its contract where what it owns at entry is what the code asks. A thin call is such a function that calls one other and returns its result.
--     answered         what a callee hands back, with its value of the result's MIR type
--     ensured_through  what one contract ensures is what another does
--     Asked, straight_meets        what is to be shown at one choice of lifetimes and arguments, and that the function then meets its contract
--     Thin, thin_meets             the same of a thin call
-- Assumes `Logic`, and that the table of calls is monotone under a frame.
use mathlib.Core.List.{List, [], ◌∷◌}
use Prim.Native.Nat.{zero}
use seplogic.Ra.Ura.{Ura}
use mir.Syntax.{Ty, Callee, Fn}
use mir.Val.{Val}
use base.Logic.{SProp, ent, sep, wand, ex, guard, via, comm∗, mono∗, mono_l, wand_i, apply∗, ex_e, ex_i}
use prog.Wp.{Calls, Loops, WpFn}
use types.Logic.{Logic, sem}
use sound.WpLaws.{FmC, fm→mono_c}
use contract.Lifetimes.{Lfts, Shares, AllOutlive}
use types.Kit.{‵, raw, ◌⊛◌, some, later, ◌$◌, ◌∵◌, !, qed, move, use1, split, join, pick, frame, await, updating, now, check, show, done}
use denote.RattleType.{RattleType, mirs, flat}
use denote.Laws.{Is, Typed, valss, shows, all_Typed}
use denote.Signature.{Signature, types_at}
use denote.Steps.{said, peeks}
use denote.Triple.Statement.{Triple}
use denote.Triple.Entry.{Args, Vals, Res, on_entry}
use denote.Triple.Clauses.{Ended, Clauses, Lasts, at_exit, lasts, ensured}
use denote.Triple.Spec.{Spec, Meets, triple_of}
use Rattle.walks.proofs.Known.{Knowns, spells, tellss, lawfuls}
use Rattle.walks.proofs.Straight.{Of, Passed, Asks, called, returned, Straight, begun, ty_at, meaning, runs_straight}

module _ {M : Type 1} {𝓤 : Ura M} (𝓛 : Logic 𝓤) where
  open 𝓛 use {H}

  -- the result of a contract, and whatever is ensured of it
  pub answered : (R : RattleType) (τ : Ty) → ((r : R.Denot) (u : Val) → Is R r (u ∷ []) → Of τ u) → (P : SProp 𝓤) (F G : R.Denot → SProp 𝓤) → ((r : R.Denot) → ent 𝓤 (F r) (G r)) → (u : Val)
      → ent 𝓤 (H.⇛ (ex 𝓤 (λ (r : R.Denot). sep 𝓤 (sep 𝓤 P (sem 𝓛 (R.own_val r (u ∷ [])))) (F r))))
      (H.⇛ (guard 𝓤 (Of τ u) (H.⇛ (ex 𝓤 (λ (r : R.Denot). sep 𝓤 (sep 𝓤 P (sem 𝓛 (R.own_val r (u ∷ [])))) (G r))))))
  answered R τ of P F G h u =
      qed 𝓛 (later (some (λ (r : R.Denot). (raw P ⊛ ‵ (R.own_val r (u ∷ []))) ⊛ raw (F r))) ∷ []) ∵ updating ! $ await ! tt $ pick ! (λ r. split ! $ split ! $ move ! (1 ∷ []) $
      -- [the result; P; what is ensured]
      peeks ! R (Is R) (shows 𝓛 R) r (u ∷ []) (λ is. now ! $ check ! (of r u is) $ updating ! $ now ! $
      show ! (λ (x : R.Denot). sep 𝓤 (sep 𝓤 P (sem 𝓛 (R.own_val x (u ∷ [])))) (G x)) r $ move ! (1 ∷ 0 ∷ []) $ join ! $ frame ! $ use1 𝓛 (raw (G r)) (h r) $ done !))

  -- what one contract ensures is what another does, by the parameters' last values
  pub ensured_through : (T T' : Ended) (c : Clauses 𝓤 T) (c' : Clauses 𝓤 T') (κs : Lfts T.signature.lifetimes) (a : Args T.signature κs) (g : (c κs a).ghost) (r : Res T.signature κs)
      (κs' : Lfts T'.signature.lifetimes) (a' : Args T'.signature κs') (g' : (c' κs' a').ghost) (r' : Res T'.signature κs') (f : Lasts T' κs' a' → Lasts T κs a)
      → ((ws : Lasts T' κs' a') → ent 𝓤 (sem 𝓛 (lasts T' κs' a' ws)) (sem 𝓛 (lasts T κs a (f ws))))
      → ((ws : Lasts T' κs' a') → ent 𝓤 ((c' κs' a').ensures g' r' (at_exit T' κs' a' ws)) ((c κs a).ensures g r (at_exit T κs a (f ws))))
      → ent 𝓤 (ensured 𝓛 T' c' κs' a' g' r') (ensured 𝓛 T c κs a g r)
  ensured_through T T' c c' κs a g r κs' a' g' r' f last same =
      ex_e 𝓤 _ (λ ws. via 𝓤 _ (mono∗ 𝓤 (last ws) (same ws)) (ex_i 𝓤 (λ (zs : Lasts T κs a). sep 𝓤 (sem 𝓛 (lasts T κs a zs)) ((c κs a).ensures g r (at_exit T κs a zs))) (f ws)))

  module _ (S : Signature) (c : Spec 𝓤 S) (C : Calls 𝓤 H) (Λ : Loops 𝓤 H) (f : Fn) (ks : (κs : Lfts S.lifetimes) → Knowns (types_at S.params κs)) where
    -- the parameters' machine values, and all of them in a row
    abbrev pub spelled : (κs : Lfts S.lifetimes) → Args S κs → Vals S κs
    spelled κs a = valss (types_at S.params κs) (spells (types_at S.params κs) (ks κs)) a

    abbrev pub row : (κs : Lfts S.lifetimes) → Args S κs → List Val
    row κs a = flat (types_at S.params κs) (spelled κs a)

    pub record Asked (κs : Lfts S.lifetimes) (qs : Shares S.lifetimes) (bounds : AllOutlive S.lifetimes S.outlives κs) (a : Args S κs) (g : (c κs a).ghost) : Type 2 where
      pub asks : Asks
      pub passes : Passed f.locals (row κs a)
      pub code : Straight f.locals (begun f.locals (row κs a)) f.body asks
      pub owned : ent 𝓤 (sep 𝓤 (on_entry 𝓛 S κs qs a (spelled κs a)) ((c κs a).requires g)) (meaning 𝓛 C ((triple_of 𝓛 S c).post ((κs, qs, bounds, a, spelled κs a), g)) asks)

    pub straight_meets : FmC 𝓤 H 𝓛.laws C
        → ((κs : Lfts S.lifetimes) (qs : Shares S.lifetimes) (bounds : AllOutlive S.lifetimes S.outlives κs) (a : Args S κs) (g : (c κs a).ghost) → Typed (mirs (types_at S.params κs)) (row κs a) → Asked κs qs bounds a g)
        → Meets 𝓛 S (WpFn 𝓤 H C Λ f) c
    straight_meets fm asked y =
        let κs : Lfts S.lifetimes = y.0.0 in
        let R : SProp 𝓤 = (c κs y.0.3).requires y.1 in
        let Q : Vals S κs → SProp 𝓤 = λ us. WpFn 𝓤 H C Λ f (flat (types_at S.params κs) us) ((triple_of 𝓛 S c).post ((κs, y.0.1, y.0.2, y.0.3, us), y.1)) in
        via 𝓤 (sep 𝓤 R (wand 𝓤 R (Q y.0.4)))
        (via 𝓤 (sep 𝓤 (wand 𝓤 R (Q y.0.4)) R)
        (mono_l 𝓤 R (said 𝓛 S κs y.0.1 (spells (types_at S.params κs) (ks κs)) (tellss (types_at S.params κs) (ks κs)) y.0.3 (λ us. wand 𝓤 R (Q us)) y.0.4 (λ are.
        let t : Asked κs y.0.1 y.0.2 y.0.3 y.1 = asked κs y.0.1 y.0.2 y.0.3 y.1 (all_Typed 𝓛 (types_at S.params κs) (lawfuls 𝓛 (types_at S.params κs) (ks κs)) y.0.3 (spelled κs y.0.3) are) in
        wand_i 𝓤 _ R _ (via 𝓤 _ t.owned (runs_straight 𝓛 C Λ fm f (row κs y.0.3) t.asks t.passes t.code _)))))
        (comm∗ 𝓤 (wand 𝓤 R (Q y.0.4)) R))
        (apply∗ 𝓤 R (Q y.0.4))

    module _ (S' : Signature) (c' : Spec 𝓤 S') (key : Callee) where
      pub record Thin (κs : Lfts S.lifetimes) (qs : Shares S.lifetimes) (bounds : AllOutlive S.lifetimes S.outlives κs) (a : Args S κs) (g : (c κs a).ghost) : Type 2 where
        pub to : (triple_of 𝓛 S' c').Ghost
        pub entry : ent 𝓤 (sep 𝓤 (on_entry 𝓛 S κs qs a (spelled κs a)) ((c κs a).requires g)) ((triple_of 𝓛 S' c').pre to)
        pub passes : Passed f.locals (row κs a)
        pub code : Straight f.locals (begun f.locals (row κs a)) f.body (called key ((triple_of 𝓛 S' c').args to) (ty_at f.locals zero) returned)
        pub exit : (u : Val) → ent 𝓤 ((triple_of 𝓛 S' c').post to u) (H.⇛ (guard 𝓤 (Of (ty_at f.locals zero) u) ((triple_of 𝓛 S c).post ((κs, qs, bounds, a, spelled κs a), g) u)))

      pub thin_meets : FmC 𝓤 H 𝓛.laws C → Triple 𝓤 (C key) (triple_of 𝓛 S' c')
          → ((κs : Lfts S.lifetimes) (qs : Shares S.lifetimes) (bounds : AllOutlive S.lifetimes S.outlives κs) (a : Args S κs) (g : (c κs a).ghost) → Typed (mirs (types_at S.params κs)) (row κs a) → Thin κs qs bounds a g)
          → Meets 𝓛 S (WpFn 𝓤 H C Λ f) c
      thin_meets fm known thin = straight_meets fm (λ κs qs bounds a g typed.
          let t : Thin κs qs bounds a g = thin κs qs bounds a g typed in record {
            asks = called key ((triple_of 𝓛 S' c').args t.to) (ty_at f.locals zero) returned;
            passes = t.passes;
            code = t.code;
            owned = via 𝓤 ((triple_of 𝓛 S' c').pre t.to) t.entry
                (via 𝓤 (C key ((triple_of 𝓛 S' c').args t.to) ((triple_of 𝓛 S' c').post t.to)) (known t.to)
                (fm→mono_c 𝓤 H 𝓛.laws C fm key ((triple_of 𝓛 S' c').args t.to) _ _ t.exit));
          })
