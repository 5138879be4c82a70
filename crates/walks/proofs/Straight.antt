-- Straight code: assignments that read locals and fields of locals, and calls, one after the other to a `return`. What such a function computes before, between and after its calls needs no ownership, so it is walked once, here, for every such function.
--     State ls         what each local holds, if it holds something yet
--     Asks             what the code asks of the functions that it calls: a value is returned; or a function is called with these values, and it goes on with what comes back, a value of the type named
--     Straight ls st b a       the code b, begun where the locals ls hold st, asks a
--     runs_straight    what a means is enough for a run of the function
-- Assumes `Logic`, and that the table of calls is monotone under a frame.
use mathlib.Core.Path.{◌≡◌, refl, sym, ◌∙◌, ap, subst}
use mathlib.Core.List.{List, [], ◌∷◌}
use mathlib.Core.Option.{Option, none, some, some-injective, none-ne-some}
use Prim.Native.Nat.{ℕ, zero, suc, ◌+◌}
use seplogic.Ra.Ura.{Ura}
use base.Fraction.{full_share}
use lib.Dec.{T as Holds}
use mir.Syntax.{Sym, Ty, ty_struct, ty_enum, Tys, tnil, tcons, ttnil, Callee, deref, field, place, Opd as Operand, copy, Rv as RValue, rv_opd, addr_of, aggregate, Body, seq, assign, call, return, Local, local, Fn}
use mir.Val.{Val, Vals, vnil, vcons, vptr, vstruct, of_list, WT, has_ty}
use mir.Fields.{get_v}
use base.Logic.{SProp, ent, sep, emp, guard, via, emp∗, comm∗, assoc∗, mono_r, all_i, wand_i, guard_i}
use base.Fml.{fat, froom, fdies}
use prog.Memory.{field_of, field_at}
use prog.Wp.{Env, Calls, Loops, WpFn, spot_of, alloc, pass, params, Wp, at_return}
use types.Logic.{Logic}
use sound.WpLaws.{FmC}
use types.Kit.{Item, ‵, raw, ◌⊛◌, given, later, mean, ⋆, push, pop, nth, put, runs, frees, prop, at_ret, Go, Seq, ◌$◌, ◌∵◌, !, qed, by, move, use1, split, assume, join, learn, frame, await, done}
use types.Part.{Part, agg, whole, sub, look_in}
use types.Run.{Reads, Writes, Opd, Opds, Rv, look, init, forget, stop, hop, fld, from, load, addr, of_opd, and_then, no_more, assigns, calls, land, returns, free1, free0}

-- ---- the locals and what they hold
abbrev pub State : List Local → Type 0
State [] = Unit {0}
State (l ∷ ls) = Option Val × State ls

-- nothing yet
abbrev empty : (ls : List Local) → State ls
empty [] = tt
empty (l ∷ ls) = (none, empty ls)

-- the first locals hold these values
abbrev filled : (ls : List Local) → List Val → State ls
filled [] us = tt
filled (l ∷ ls) [] = empty (l ∷ ls)
filled (l ∷ ls) (u ∷ us) = (some u, filled ls us)

-- a function begins: the locals after the result hold its arguments
abbrev pub begun : (ls : List Local) → List Val → State ls
begun [] us = tt
begun (l ∷ ls) us = (none, filled ls us)

-- local i, if there is one
abbrev pub slot_at : (ls : List Local) → State ls → ℕ → Option (Option Val)
slot_at [] st i = none
slot_at (l ∷ ls) st zero = some st.0
slot_at (l ∷ ls) st (suc i) = slot_at ls st.1 i

abbrev pub set_at : (ls : List Local) → State ls → ℕ → Val → State ls
set_at [] st i v = tt
set_at (l ∷ ls) st zero v = (some v, st.1)
set_at (l ∷ ls) st (suc i) v = (st.0, set_at ls st.1 i v)

abbrev pub ty_at : List Local → ℕ → Ty
ty_at [] i = ty_enum [] ttnil
ty_at (local τ h ∷ ls) zero = τ
ty_at (l ∷ ls) (suc i) = ty_at ls i

-- a value of the type, as a local of that type takes it
abbrev pub Of : Ty → Val → Type 0
Of τ v = Holds (has_ty τ v) × WT v

-- values of the first locals' types
abbrev AllOf : List Local → List Val → Type 0
AllOf ls [] = Unit {0}
AllOf [] (u ∷ us) = ⊥
AllOf (l ∷ ls) (u ∷ us) = Of (ty_at (l ∷ ls) zero) u × AllOf ls us

-- values of the parameters' types: the locals after the result
abbrev pub Passed : List Local → List Val → Type 0
Passed [] us = ⊥
Passed (l ∷ ls) us = AllOf ls us

-- ---- straight code
-- a local, or a field of one, has the value
pub data Copied (ls : List Local) (st : State ls) : Operand → Val → Type 0 where
  local_is : {i : ℕ} {v : Val} → slot_at ls st i ≡ some (some v) → Copied ls st (copy (place i [])) v
  field_is : {i k d : ℕ} {us : Vals} {ν : Sym} {τs : Tys} {τ : Ty} → slot_at ls st i ≡ some (some (vstruct us)) → ty_at ls i ≡ ty_struct ν τs → field_at zero τs k ≡ some (τ, d) → Copied ls st (copy (place i (field k ∷ []))) (get_v us k)

pub data AllCopied (ls : List Local) (st : State ls) : List Operand → List Val → Type 0 where
  no_operand : AllCopied ls st [] []
  operand : {x : Operand} {xs : List Operand} {v : Val} {vs : List Val} → Copied ls st x v → AllCopied ls st xs vs → AllCopied ls st (x ∷ xs) (v ∷ vs)

-- the right side of an assignment has the value
pub data Gives (ls : List Local) (st : State ls) : RValue → Val → Type 0 where
  copied : {x : Operand} {v : Val} → Copied ls st x v → Gives ls st (rv_opd x) v
  pointed : {i k d b o : ℕ} {us : Vals} {ν : Sym} {τs : Tys} {τ σ : Ty} → slot_at ls st i ≡ some (some (vstruct us)) → ty_at ls i ≡ ty_struct ν τs → field_at zero τs k ≡ some (τ, d) → get_v us k ≡ vptr b o → Gives ls st (addr_of (place i (field k ∷ deref σ ∷ []))) (vptr b o)
  built : {xs : List Operand} {vs : List Val} → AllCopied ls st xs vs → Gives ls st (aggregate xs) (vstruct (of_list vs))

pub data Asks : Type 0 where
  returned : Val → Asks
  called : Callee → List Val → Ty → (Val → Asks) → Asks

pub data Straight (ls : List Local) : State ls → Body → Asks → Type 0 where
  assigned : {st : State ls} {i : ℕ} {rv : RValue} {v : Val} {b : Body} {a : Asks} → Gives ls st rv v → slot_at ls st i ≡ some none → Of (ty_at ls i) v → Straight ls (set_at ls st i v) b a → Straight ls st (seq (assign (place i []) rv) b) a
  calling : {st : State ls} {i : ℕ} {f : Callee} {xs : List Operand} {vs : List Val} {b : Body} {k : Val → Asks} → AllCopied ls st xs vs → slot_at ls st i ≡ some none → ((u : Val) → Straight ls (set_at ls st i u) b (k u)) → Straight ls st (seq (call f xs (place i [])) b) (called f vs (ty_at ls i) k)
  returning : {st : State ls} {v : Val} → slot_at ls st zero ≡ some (some v) → Straight ls st return (returned v)

-- operands that are locals, one after the other
infixr 5 ◌⊹◌
pub ◌⊹◌ : {ls : List Local} {st : State ls} {i : ℕ} {v : Val} {xs : List Operand} {vs : List Val} → slot_at ls st i ≡ some (some v) → AllCopied ls st xs vs → AllCopied ls st (copy (place i []) ∷ xs) (v ∷ vs)
e ⊹ es = operand (local_is e) es

-- what a reader of local p finds there, at a field of it, and in local i: in one equation, which `refl` shows of code that is written out
abbrev Found : Type 0
Found = Option (Option Val) × Ty × Option (Option Val)

-- a field of local p goes into local i
pub takes : {ls : List Local} {st : State ls} {p k d i : ℕ} {us : Vals} {ν : Sym} {τs : Tys} {τ : Ty} {b : Body} {a : Asks}
    → ◌≡◌ {A = Found} (slot_at ls st p, ty_at ls p, slot_at ls st i) (some (some (vstruct us)), ty_struct ν τs, some none) → field_at zero τs k ≡ some (τ, d) → Of (ty_at ls i) (get_v us k)
    → Straight ls (set_at ls st i (get_v us k)) b a → Straight ls st (seq (assign (place i []) (rv_opd (copy (place p (field k ∷ []))))) b) a
takes e at of = assigned (copied (field_is (ap (λ (f : Found). f.0) e) (ap (λ (f : Found). f.1) e) at)) (ap (λ (f : Found). f.2) e) of

-- a slice that local p holds is lent again: its place goes into local i, and with its length into local j
pub lends : {ls : List Local} {st : State ls} {p i j b o : ℕ} {n : Val} {ν : Sym} {τ τ' σ : Ty} {rest : Body} {a : Asks}
    → let slice : Val = vstruct (vcons (vptr b o) (vcons n vnil)) in
    let st' : State ls = set_at ls st i (vptr b o) in
    ◌≡◌ {A = Found} (slot_at ls st p, ty_at ls p, slot_at ls st i) (some (some slice), ty_struct ν (tcons τ (tcons τ' tnil)), some none)
    → ◌≡◌ {A = Found × Option (Option Val)} ((slot_at ls st' p, ty_at ls p, slot_at ls st' j), slot_at ls st' i) ((some (some slice), ty_struct ν (tcons τ (tcons τ' tnil)), some none), some (some (vptr b o)))
    → Of (ty_at ls i) (vptr b o) → Of (ty_at ls j) slice → Straight ls (set_at ls st' j slice) rest a
    → Straight ls st (seq (assign (place i []) (addr_of (place p (field 0 ∷ deref σ ∷ [])))) (seq (assign (place j []) (aggregate (copy (place i []) ∷ copy (place p (field 1 ∷ [])) ∷ []))) rest)) a
lends e e' of of' s =
    assigned (pointed (ap (λ (f : Found). f.0) e) (ap (λ (f : Found). f.1) e) refl refl) (ap (λ (f : Found). f.2) e) of
    (assigned (built (operand (local_is (ap (λ (f : Found × Option (Option Val)). f.1) e')) (operand (field_is (ap (λ (f : Found × Option (Option Val)). f.0.0) e') (ap (λ (f : Found × Option (Option Val)). f.0.1) e') refl) no_operand))) (ap (λ (f : Found × Option (Option Val)). f.0.2) e') of' s)

-- ---- the locals in memory
abbrev Blocks : List Local → Type 0
Blocks [] = Unit {0}
Blocks (l ∷ ls) = ℕ × Blocks ls

abbrev twice : ℕ → ℕ
twice zero = zero
twice (suc i) = suc (suc (twice i))

module _ {M : Type 1} {𝓤 : Ura M} (𝓛 : Logic 𝓤) where
  open 𝓛 use {H}

  abbrev env_of : (ls : List Local) → Blocks ls → Env 𝓤 H
  env_of [] bs = []
  env_of (local τ h ∷ ls) bs = (τ, bs.0) ∷ env_of ls bs.1

  abbrev cell : Ty → ℕ → Option Val → Item 𝓤
  cell τ b none = ‵ (froom τ b zero)
  cell τ b (some v) = ‵ (fat full_share τ b zero v)

  -- for each local its cell, and that its block may be freed
  abbrev cells : (ls : List Local) → Blocks ls → State ls → List (Item 𝓤)
  cells [] bs st = []
  cells (local τ h ∷ ls) bs st = cell τ bs.0 st.0 ∷ ‵ (fdies τ bs.0) ∷ cells ls bs.1 st.1

  -- what a means, where the function's caller goes on with Q
  abbrev pub meaning : Calls 𝓤 H → (Val → SProp 𝓤) → Asks → SProp 𝓤
  meaning C Q (returned v) = Q v
  meaning C Q (called f vs τ k) = C f vs (λ u. H.⇛ (guard 𝓤 (Of τ u) (meaning C Q (k u))))

  ty_at_lem : (ls : List Local) (bs : Blocks ls) (i : ℕ) → (spot_of 𝓤 H (env_of ls bs) i).0 ≡ ty_at ls i
  ty_at_lem [] bs i = refl
  ty_at_lem (local τ h ∷ ls) bs zero = refl
  ty_at_lem (local τ h ∷ ls) bs (suc i) = ty_at_lem ls bs.1 i

  cell_at : (ls : List Local) (bs : Blocks ls) (st : State ls) (i : ℕ) (o : Option Val) → slot_at ls st i ≡ some o → nth 𝓛 (twice i) (cells ls bs st) ≡ cell (spot_of 𝓤 H (env_of ls bs) i).0 (spot_of 𝓤 H (env_of ls bs) i).1 o
  cell_at [] bs st i o e = absurd (none-ne-some o e)
  cell_at (local τ h ∷ ls) bs st zero o e = ap (cell τ bs.0) (some-injective st.0 o e)
  cell_at (local τ h ∷ ls) bs st (suc i) o e = cell_at ls bs.1 st.1 i o e

  cell_set : (ls : List Local) (bs : Blocks ls) (st : State ls) (i : ℕ) (v : Val) → put 𝓛 (twice i) (‵ (fat full_share (spot_of 𝓤 H (env_of ls bs) i).0 (spot_of 𝓤 H (env_of ls bs) i).1 zero v)) (cells ls bs st) ≡ cells ls bs (set_at ls st i v)
  cell_set [] bs st i v = refl
  cell_set (local τ h ∷ ls) bs st zero v = refl
  cell_set (local τ h ∷ ls) bs st (suc i) v = ap (λ (Γ : List (Item 𝓤)). cell τ bs.0 st.0 ∷ ‵ (fdies τ bs.0) ∷ Γ) (cell_set ls bs.1 st.1 i v)

-- ---- a run
module _ {M : Type 1} {𝓤 : Ura M} (𝓛 : Logic 𝓤) (ls : List Local) (bs : Blocks ls) (P : SProp 𝓤) (st : State ls) where
  open 𝓛 use {H}

  abbrev E : Env 𝓤 H
  E = env_of 𝓛 ls bs

  abbrev Γ : List (Item 𝓤)
  Γ = raw P ∷ cells 𝓛 ls bs st

  reads_local : (i : ℕ) (v : Val) → slot_at ls st i ≡ some (some v) → Reads Go 𝓛 Γ (spot_of 𝓤 H E i).0 (spot_of 𝓤 H E i).1 zero v
  reads_local i v e = look ! (suc (twice i)) (cell_at 𝓛 ls bs st i (some v) e)

  module _ (i : ℕ) (us : Vals) (ν : Sym) (τs : Tys) (e : slot_at ls st i ≡ some (some (vstruct us))) (is : ty_at ls i ≡ ty_struct ν τs) (k : ℕ) (τ : Ty) (d : ℕ) (at : field_at zero τs k ≡ some (τ, d)) where
    is_struct : (spot_of 𝓤 H E i).0 ≡ ty_struct ν τs
    is_struct = ty_at_lem 𝓛 ls bs i ∙ is

    finds_field : field_of (spot_of 𝓤 H E i).0 k ≡ some (τ, d)
    finds_field = ap (λ (σ : Ty). field_of σ k) is_struct ∙ at

    reads_field : Reads Go 𝓛 Γ τ (spot_of 𝓤 H E i).1 (zero + d) (get_v us k)
    reads_field = look_in ! (suc (twice i)) (sub ! k at
        (subst (λ (j : Item 𝓤). Part Go 𝓛 j full_share (ty_struct ν τs) (spot_of 𝓤 H E i).1 zero (vstruct us) (λ u. ‵ (fat full_share (ty_struct ν τs) (spot_of 𝓤 H E i).1 zero u)))
        (sym (cell_at 𝓛 ls bs st i (some (vstruct us)) e ∙ ap (λ (σ : Ty). cell 𝓛 σ (spot_of 𝓤 H E i).1 (some (vstruct us))) is_struct)) (whole !)))

  copies : (x : Operand) (v : Val) → Copied ls st x v → Opd Go 𝓛 Γ E x v
  copies _ _ (local_is {i} {v} e) = load ! (from ! (stop !)) (reads_local i v e)
  copies _ _ (field_is {i} {k} {d} {us} {ν} {τs} {τ} e is at) = load ! (from ! (fld ! (finds_field i us ν τs e is k τ d at) (stop !))) (reads_field i us ν τs e is k τ d at)

  operands : (xs : List Operand) (vs : List Val) → AllCopied ls st xs vs → Opds Go 𝓛 Γ E xs vs
  operands _ _ no_operand = no_more !
  operands _ _ (operand c cs) = and_then ! (copies _ _ c) (operands _ _ cs)

  right_side : (rv : RValue) (v : Val) → Gives ls st rv v → Rv Go 𝓛 Γ E rv v
  right_side _ _ (copied c) = of_opd ! (copies _ _ c)
  right_side _ _ (pointed {i} {k} {d} {b} {o} {us} {ν} {τs} {τ} e is at to) = addr ! (from ! (fld ! (finds_field i us ν τs e is k τ d at) (hop ! (subst (Reads Go 𝓛 Γ τ (spot_of 𝓤 H E i).1 (zero + d)) to (reads_field i us ν τs e is k τ d at)) (stop !))))
  right_side _ _ (built cs) = agg ! (operands _ _ cs)

  stores : (i : ℕ) (v : Val) → slot_at ls st i ≡ some none → Of (ty_at ls i) v → Writes Go 𝓛 Γ (spot_of 𝓤 H E i).0 (spot_of 𝓤 H E i).1 zero v (raw P ∷ cells 𝓛 ls bs (set_at ls st i v))
  stores i v e of = subst (λ (Δ : List (Item 𝓤)). Writes Go 𝓛 Γ (spot_of 𝓤 H E i).0 (spot_of 𝓤 H E i).1 zero v (raw P ∷ Δ)) (cell_set 𝓛 ls bs st i v)
      (init ! (suc (twice i)) (cell_at 𝓛 ls bs st i none e) (subst (λ (τ : Ty). Of τ v) (sym (ty_at_lem 𝓛 ls bs i)) of))

module _ {M : Type 1} {𝓤 : Ura M} (𝓛 : Logic 𝓤) where
  open 𝓛 use {H}

  frees_all : (ls : List Local) (bs : Blocks ls) (st : State ls) (P : SProp 𝓤) → Seq Go 𝓛 (raw P ∷ cells 𝓛 ls bs st) (frees (env_of 𝓛 ls bs) (prop P))
  frees_all [] bs st P = free0 ! $ done !
  frees_all (local τ h ∷ ls) bs (none, st) P = move ! (1 ∷ 2 ∷ []) $ free1 ! $ frees_all ls bs.1 st P
  frees_all (local τ h ∷ ls) bs (some v, st) P = move ! (1 ∷ 2 ∷ []) $ forget ! 0 refl $ free1 ! $ frees_all ls bs.1 st P

  module _ (C : Calls 𝓤 H) (Λ : Loops 𝓤 H) (fm : FmC 𝓤 H 𝓛.laws C) (Q : Val → SProp 𝓤) where
    walks : (ls : List Local) (bs : Blocks ls) (st : State ls) (b : Body) (a : Asks) → Straight ls st b a
        → Seq Go 𝓛 (raw (meaning 𝓛 C Q a) ∷ cells 𝓛 ls bs st) (runs C Λ (env_of 𝓛 ls bs) b (at_ret (env_of 𝓛 ls bs) Q))
    walks ls bs st _ _ (assigned {i = i} {v = v} {a = a} g e of s) = assigns ! (right_side 𝓛 ls bs (meaning 𝓛 C Q a) st _ v g) (from ! (stop !)) (stores 𝓛 ls bs (meaning 𝓛 C Q a) st i v e of) $ walks ls bs _ _ a s
    walks ls bs st _ _ (calling {i = i} {k = k} cs e s) = calls ! fm (λ u. later (given (Of (ty_at ls i) u) (raw (meaning 𝓛 C Q (k u))))) (operands 𝓛 ls bs _ st _ _ cs) (λ u. await ! tt $ learn ! (λ of. land ! (from ! (stop !)) (stores 𝓛 ls bs (meaning 𝓛 C Q (k u)) st i u e of) $ walks ls bs _ _ (k u) (s u)))
    walks ls bs st _ _ (returning {v = v} e) = returns ! (reads_local 𝓛 ls bs (Q v) st zero v e) $ frees_all ls bs st (Q v)

  -- two entries are put in front of a context
  both_front : (i j : Item 𝓤) (Γ : List (Item 𝓤)) (P : SProp 𝓤) → ent 𝓤 (sep 𝓤 (sep 𝓤 P (sep 𝓤 (mean 𝓛 i) (mean 𝓛 j))) (⋆ 𝓛 Γ)) (sep 𝓤 P (⋆ 𝓛 (i ∷ j ∷ Γ)))
  both_front i j Γ P =
      via 𝓤 _ (assoc∗ 𝓤 P (sep 𝓤 (mean 𝓛 i) (mean 𝓛 j)) (⋆ 𝓛 Γ))
      (mono_r 𝓤 P (via 𝓤 _ (assoc∗ 𝓤 (mean 𝓛 i) (mean 𝓛 j) (⋆ 𝓛 Γ)) (mono_r 𝓤 (mean 𝓛 i) (push 𝓛 j Γ))))

  allocs_all : (ls : List Local) (P : SProp 𝓤) (K : Env 𝓤 H → SProp 𝓤) → ((bs : Blocks ls) → ent 𝓤 (sep 𝓤 P (⋆ 𝓛 (cells 𝓛 ls bs (empty ls)))) (K (env_of 𝓛 ls bs))) → ent 𝓤 P (alloc 𝓤 H ls K)
  allocs_all [] P K k = via 𝓤 _ (via 𝓤 _ (emp∗ 𝓤 P) (comm∗ 𝓤 (emp 𝓤) P)) (k tt)
  allocs_all (local τ h ∷ ls) P K k =
      all_i 𝓤 _ (λ b. wand_i 𝓤 P (sep 𝓤 (H.room τ b zero) (H.dies τ b)) _
      (allocs_all ls (sep 𝓤 P (sep 𝓤 (H.room τ b zero) (H.dies τ b))) (λ E. K ((τ, b) ∷ E)) (λ bs.
      via 𝓤 _ (both_front (‵ (froom τ b zero)) (‵ (fdies τ b)) (cells 𝓛 ls bs (empty ls)) P) (k (b, bs)))))

  passes_all : (ls : List Local) (bs : Blocks ls) (us : List Val) → AllOf ls us → (P K : SProp 𝓤) → ent 𝓤 (sep 𝓤 P (⋆ 𝓛 (cells 𝓛 ls bs (filled ls us)))) K → ent 𝓤 (sep 𝓤 P (⋆ 𝓛 (cells 𝓛 ls bs (empty ls)))) (pass 𝓤 H (env_of 𝓛 ls bs) us K)
  passes_all [] bs [] of P K k = k
  passes_all [] bs (u ∷ us) of P K k = absurd of
  passes_all (l ∷ ls) bs [] of P K k = k
  passes_all (local τ h ∷ ls) bs (u ∷ us) of P K k =
      let c : Item 𝓤 = ‵ (froom τ bs.0 zero) in
      let c' : Item 𝓤 = ‵ (fat full_share τ bs.0 zero u) in
      let d : Item 𝓤 = ‵ (fdies τ bs.0) in
      let Δ : List (Item 𝓤) = cells 𝓛 ls bs.1 (empty ls) in
      via 𝓤 _
      (qed 𝓛 (raw P ∷ c ∷ raw (⋆ 𝓛 (d ∷ Δ)) ∷ []) ∵ move ! (1 ∷ []) $ frame ! $ assume ! c' $
      move ! (2 ∷ []) $ use1 𝓛 (d ⊛ raw (⋆ 𝓛 Δ)) (pop 𝓛 d Δ) $ split ! $ move ! (2 ∷ 0 ∷ []) $ join ! $ move ! (2 ∷ 0 ∷ []) $ join ! $
      -- [P and the local's cell; the other cells]
      by ! (passes_all ls bs.1 us of.1 (sep 𝓤 P (sep 𝓤 (mean 𝓛 c') (mean 𝓛 d))) K (via 𝓤 _ (both_front c' d (cells 𝓛 ls bs.1 (filled ls us)) P) k)))
      (guard_i 𝓤 (Of τ u) _ of.0)

  enters : (ls : List Local) (bs : Blocks ls) (us : List Val) → Passed ls us → (P K : SProp 𝓤) → ent 𝓤 (sep 𝓤 P (⋆ 𝓛 (cells 𝓛 ls bs (begun ls us)))) K → ent 𝓤 (sep 𝓤 P (⋆ 𝓛 (cells 𝓛 ls bs (empty ls)))) (params 𝓤 H (env_of 𝓛 ls bs) us K)
  enters [] bs us of P K k = absurd of
  enters (local τ h ∷ ls) bs us of P K k =
      let c : Item 𝓤 = ‵ (froom τ bs.0 zero) in
      let d : Item 𝓤 = ‵ (fdies τ bs.0) in
      let Δ : List (Item 𝓤) = cells 𝓛 ls bs.1 (empty ls) in
      qed 𝓛 (raw P ∷ c ∷ raw (⋆ 𝓛 (d ∷ Δ)) ∷ []) ∵ move ! (2 ∷ []) $ use1 𝓛 (d ⊛ raw (⋆ 𝓛 Δ)) (pop 𝓛 d Δ) $ split ! $ move ! (3 ∷ 0 ∷ []) $ join ! $ move ! (2 ∷ 0 ∷ []) $ join ! $
      by ! (passes_all ls bs.1 us of (sep 𝓤 P (sep 𝓤 (mean 𝓛 c) (mean 𝓛 d))) K (via 𝓤 _ (both_front c d (cells 𝓛 ls bs.1 (filled ls us)) P) k))

  -- what straight code asks is enough for a run of it
  pub runs_straight : (C : Calls 𝓤 H) (Λ : Loops 𝓤 H) → FmC 𝓤 H 𝓛.laws C → (f : Fn) (us : List Val) (a : Asks) → Passed f.locals us → Straight f.locals (begun f.locals us) f.body a
      → (Q : Val → SProp 𝓤) → ent 𝓤 (meaning 𝓛 C Q a) (WpFn 𝓤 H C Λ f us Q)
  unfolding WpFn
  runs_straight C Λ fm f us a of s Q =
      allocs_all f.locals (meaning 𝓛 C Q a) (λ E. params 𝓤 H E us (Wp 𝓤 H C Λ E f.body (at_return 𝓤 H E Q))) (λ bs.
      enters f.locals bs us of (meaning 𝓛 C Q a) (Wp 𝓤 H C Λ (env_of 𝓛 f.locals bs) f.body (at_return 𝓤 H (env_of 𝓛 f.locals bs) Q))
      (via 𝓤 _ (push 𝓛 (raw (meaning 𝓛 C Q a)) (cells 𝓛 f.locals bs (begun f.locals us))) (walks C Λ fm Q f.locals bs (begun f.locals us) f.body a s).prf))
