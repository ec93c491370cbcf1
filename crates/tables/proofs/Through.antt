-- The law by which a callee's contract passes through a function that only hands its parameters on: on the way they may stand in a struct, or be
-- lent on. Nothing of the contract is opened.
--     Hands            run on values (`Straight.antt`), the function's MIR calls n, and hands it its own parameters, each in its place (`Handed.antt`)
--     hands_on         such a function runs wherever the call of n with its parameters does
--     through          so it meets every contract at the signature S that n meets
--     Known            what the law asks of a parameter's type: its machine values, and that they are of its MIR types
--     slice, buffer, number, truth     the same of `&[u8]`, `&mut [u8]`, `usize` and `bool`;   with_tables    of the two tables and n, before others
-- A function with other parameters needs no other law: `through` is given an entry for each of its parameters, in their order, and `refl` shows
-- that its code hands them on. A type that is not here gets its `Known` from its laws, as `Denote/Plain.antt` and a declared type's have them.
-- Assumes `Logic`.
use mathlib.Core.Path.{refl, sym, subst}
use mathlib.Core.Option.{none, some}
use mathlib.Core.List.{List, [], ◌∷◌}
use Prim.Native.Nat.{ℕ, zero, suc}
use seplogic.Ra.Ura.{Ura}
use base.Fraction.{full_share}
use lib.Dec.{T as Holds}
use mir.Facts.{and_yes}
use mir.Syntax.{Callee, Ty, Lifetime, named, Local, local, Body, Fn, w64}
use mir.Val.{Val, WT, has_ty}
use base.Logic.{SProp, ent, sep, wand, guard, wand_i, wand_e}
use base.Fml.{Lft, Fml, fsep, fat, froom, fdies}
use prog.Wp.{Env, Calls, Loops, WpFn}
use types.Logic.{Logic, sem}
use contract.Lifetimes.{Lfts}
use types.Kit.{Item, Goal, Seq, Go, ‵, raw, ◌⊛◌, some as any, runs, at_ret, allocs, params', passes}
use types.Kit.{◌$◌, ◌∵◌, !, qed, move, split, join, pick, check, show, updating, now as at_once, frame, fsplit, fjoin, done}
use types.Run.{init, enter, alloc1, alloc0, params1, pass1, pass0}
use sound.WpLaws.{FmC}
use denote.RattleType.{RattleType, flat, mirs}
use denote.Laws.{Is, Ises, Tells, Tellss, Spells, valss, Typed, Lawful, Lawfuls, all_Typed, shows}
use denote.Plain.{uint_vals, uint_Tells, uint_Lawful, bool_vals, bool_Tells, bool_Lawful}
use denote.Builtin.{u8, usize, bool}
use denote.Signature.{Signature, type_at, types_at}
use denote.Slice.{ShrSlice, MutSlice, shr_slice_vals, mut_slice_vals, shr_slice_Tells, shr_slice_Lawful, mut_slice_Tells, mut_slice_Lawful}
use denote.Steps.{said, peeks, nothing}
use denote.Triple.Entry.{Args, Res, alive}
use denote.Triple.Statement.{Contract, Triple}
use denote.Triple.Spec.{Spec, triple_of}
use Rattle.tables.proofs.Straight.{entry, listed, Own, HoldsTyped, AllTyped, env, Called, hands}
use Rattle.tables.proofs.Handed.{tys, typed, calls_with, hands_in}
pub use Rattle.tables.proofs.Handed.{Hands}

-- and within their widths
abbrev Wide : List Val → Type 0
Wide [] = Unit {0}
Wide (v ∷ vs) = WT v × Wide vs

wide : (τs : List Ty) (vs : List Val) → Typed τs vs → Wide vs
wide [] [] t = tt
wide [] (v ∷ vs) t = absurd t
wide (τ ∷ τs) [] t = absurd t
wide (τ ∷ τs) (v ∷ vs) t = (t.0.1, wide τs vs t.1)

entry_good : (vs : List Val) → Wide vs → AllTyped (entry vs)
entry_good vs w zero = tt
entry_good vs w (suc j) = listed_good vs w j
  where
    listed_good : (us : List Val) → Wide us → (i : ℕ) → HoldsTyped (listed us i)
    listed_good [] w i = tt
    listed_good (u ∷ us) w zero = w.0
    listed_good (u ∷ us) w (suc i) = listed_good us w.1 i

abbrev from_on : ℕ → (ℕ → ℕ) → ℕ → ℕ
from_on b bs zero = b
from_on b bs (suc j) = bs j

abbrev returned : List Ty → Val → Type 0
returned [] u = ⊥
returned (τ ∷ τs) u = Holds (has_ty τ u) × WT u

-- u is of the type that the function returns
abbrev pub Returned : Fn → Val → Type 0
Returned f u = returned (tys f.locals) u

module _ {M : Type 1} {𝓤 : Ura M} (𝓛 : Logic 𝓤) where
  -- ---- the locals are allocated, and the parameters stored
  -- what a local owns, set beside the rest i and put before the others F
  open 𝓛 use {H}

  wrap : {G : Goal 𝓤 H} (c d F : Fml) (i : Item 𝓤) → Seq (Go {0}) 𝓛 (‵ (fsep (fsep c d) F) ∷ i ∷ []) G → Seq (Go {0}) 𝓛 (‵ F ∷ (‵ c ⊛ (‵ d ⊛ i)) ∷ []) G
  wrap c d F i s = move ! (1 ∷ []) $ split ! $ move ! (1 ∷ []) $ split ! $ move ! (2 ∷ 0 ∷ []) $ fjoin ! $ move ! (0 ∷ 2 ∷ []) $ fjoin ! $ s

  alloc_all : (ls : List Local) (Kt : Env 𝓤 H → Goal 𝓤 H) (i : Item 𝓤)
      → ((bs : ℕ → ℕ) → Seq (Go {0}) 𝓛 (‵ (Own (tys ls) bs (λ j. none)) ∷ i ∷ []) (Kt (env 𝓤 H (tys ls) bs))) → Seq (Go {0}) 𝓛 (i ∷ []) (allocs ls Kt)
  alloc_all [] Kt i k = alloc0 ! $ nothing ! $ k (λ j. zero)
  alloc_all (local τ h ∷ ls) Kt i k =
      alloc1 ! (λ b. move ! (1 ∷ 2 ∷ []) $ join ! $ move ! (1 ∷ 0 ∷ []) $ join ! $
      alloc_all ls (λ E. Kt ((τ, b) ∷ E)) (‵ (froom τ b zero) ⊛ (‵ (fdies τ b) ⊛ i)) (λ bs.
      wrap (froom τ b zero) (fdies τ b) (Own (tys ls) bs (λ j. none)) i (k (from_on b bs))))

  pass_all : (τs : List Ty) (vs : List Val) → Holds (typed τs vs) → Wide vs → (bs : ℕ → ℕ) (i : Item 𝓤) (G : Goal 𝓤 H)
      → Seq (Go {0}) 𝓛 (‵ (Own τs bs (listed vs)) ∷ i ∷ []) G → Seq (Go {0}) 𝓛 (‵ (Own τs bs (λ j. none)) ∷ i ∷ []) (passes (env 𝓤 H τs bs) vs G)
  pass_all τs [] t w bs i G s = pass0 ! $ s
  pass_all [] (v ∷ vs) t w bs i G s = absurd t
  pass_all (τ ∷ τs) (v ∷ vs) t w bs i G s =
      let ts = and_yes (has_ty τ v) (typed τs vs) t in
      fsplit ! $ fsplit ! $ pass1 ! (init ! 0 refl (ts.0, w.0)) $ move ! (1 ∷ 3 ∷ []) $ join ! $ move ! (1 ∷ 0 ∷ []) $ join ! $ move ! (1 ∷ 0 ∷ []) $
      pass_all τs vs ts.1 w.1 (λ j. bs (suc j)) (‵ (fat full_share τ (bs zero) zero v) ⊛ (‵ (fdies τ (bs zero)) ⊛ i)) G
      (wrap (fat full_share τ (bs zero) zero v) (fdies τ (bs zero)) (Own τs (λ j. bs (suc j)) (listed vs)) i s)

  -- ---- a function
  module _ (n : Callee) (vs : List Val) (C : Calls 𝓤 H) (Λ : Loops 𝓤 H) (fm : FmC 𝓤 H 𝓛.laws C) (P : SProp 𝓤) (Q K : Val → SProp 𝓤)
      (met : ent 𝓤 P (C n vs Q)) (w : Wide vs) where
    module _ (τ₀ : Ty) (τs : List Ty) (ans : (u : Val) → ent 𝓤 (Q u) (H.⇛ (guard 𝓤 (returned (τ₀ ∷ τs) u) (K u)))) (bs : ℕ → ℕ) where
      abbrev E : Env 𝓤 H
      E = env 𝓤 H (τ₀ ∷ τs) bs

      called_with : (b : Body) (o : Called 𝓛 τ₀ τs (entry vs) b) → calls_with 𝓛 τ₀ τs (entry vs) b o n vs
          → Seq (Go {0}) 𝓛 (‵ (Own (τ₀ ∷ τs) bs (entry vs)) ∷ raw P ∷ []) (runs C Λ E b (at_ret E K))
      called_with b none e = absurd e
      called_with b (some h) e =
          h.2 bs C Λ fm P Q K
          (subst (λ (m : Callee). ent 𝓤 P (C m h.1 Q)) (sym e.0) (subst (λ (us : List Val). ent 𝓤 P (C n us Q)) (sym e.1) met)) ans (entry_good vs w)

    enters : (ls : List Local) (b : Body) → hands_in 𝓛 (tys ls) b n vs → ((u : Val) → ent 𝓤 (Q u) (H.⇛ (guard 𝓤 (returned (tys ls) u) (K u))))
        → Seq (Go {0}) 𝓛 (raw P ∷ []) (allocs ls (λ E. params' E vs (runs C Λ E b (at_ret E K))))
    enters [] b h ans = absurd h
    enters (local τ₀ home ∷ ls) b h ans =
        alloc_all (local τ₀ home ∷ ls) (λ E. params' E vs (runs C Λ E b (at_ret E K))) (raw P) (λ bs.
        params1 ! $ fsplit ! $ fsplit ! $ move ! (1 ∷ 3 ∷ []) $ join ! $ move ! (1 ∷ 0 ∷ []) $ join ! $ move ! (1 ∷ 0 ∷ []) $
        pass_all (tys ls) vs h.0 w (λ j. bs (suc j)) (‵ (froom τ₀ (bs zero) zero) ⊛ (‵ (fdies τ₀ (bs zero)) ⊛ raw P)) _
        (wrap (froom τ₀ (bs zero) zero) (fdies τ₀ (bs zero)) (Own (tys ls) (λ j. bs (suc j)) (listed vs)) (raw P)
        (called_with τ₀ (tys ls) ans bs b (hands 𝓛 τ₀ (tys ls) (entry vs) b) h.1)))

    pub hands_on : (f : Fn) → Hands 𝓛 f n vs → ((u : Val) → ent 𝓤 (Q u) (H.⇛ (guard 𝓤 (Returned f u) (K u)))) → ent 𝓤 P (WpFn 𝓤 H C Λ f vs K)
    hands_on f h ans = qed 𝓛 (raw P ∷ []) ∵ enter ! C Λ f vs K $ enters f.locals f.body h ans

  -- ---- at a contract
  pub record Known (R : RattleType) : Type 1 where
    pub vals : R.Denot → List Val
    pub tells : Tells R (Is R) vals
    pub lawful : Lawful 𝓛 R

  abbrev pub AllKnown : List RattleType → Type 1
  AllKnown [] = Unit {1}
  AllKnown (R ∷ Rs) = Known R × AllKnown Rs

  abbrev pub spells : (Rs : List RattleType) → AllKnown Rs → Spells Rs
  spells [] ks = tt
  spells (R ∷ Rs) ks = (ks.0.vals, spells Rs ks.1)

  all_tells : (Rs : List RattleType) (ks : AllKnown Rs) → Tellss Rs (Ises Rs) (spells Rs ks)
  all_tells [] ks = tt
  all_tells (R ∷ Rs) ks = (ks.0.tells, all_tells Rs ks.1)

  all_lawful : (Rs : List RattleType) → AllKnown Rs → Lawfuls 𝓛 Rs
  all_lawful [] ks = tt
  all_lawful (R ∷ Rs) ks = (ks.0.lawful, all_lawful Rs ks.1)

  abbrev pub slice : (ℓ : Lifetime) (κ : Lft) → Known (ShrSlice ℓ κ u8)
  slice ℓ κ = record { vals = shr_slice_vals; tells = shr_slice_Tells ℓ κ u8; lawful = shr_slice_Lawful 𝓛 ℓ κ u8 }

  abbrev pub buffer : (ℓ : Lifetime) (κ : Lft) → Known (MutSlice ℓ κ u8)
  buffer ℓ κ = record { vals = mut_slice_vals; tells = mut_slice_Tells ℓ κ u8; lawful = mut_slice_Lawful 𝓛 ℓ κ u8 }

  abbrev pub number : Known usize
  number = record { vals = uint_vals w64; tells = uint_Tells w64; lawful = uint_Lawful 𝓛 w64 }

  abbrev pub truth : Known bool
  truth = record { vals = bool_vals; tells = bool_Tells; lawful = bool_Lawful 𝓛 }

  -- the two tables, at the first lifetime, and the number of boxes, before the further parameters
  abbrev pub with_tables : {X : Type 1} (κ : Lft) → X → Known (ShrSlice (named 0) κ u8) × (Known (ShrSlice (named 0) κ u8) × (Known usize × X))
  with_tables κ further = (slice (named 0) κ, (slice (named 0) κ, (number, further)))

  module _ (S : Signature) (c : Spec 𝓤 S) (f : Fn) (n : Callee) where
    abbrev Con : Contract 𝓤
    Con = triple_of 𝓛 S c

    -- what is returned is of the function's type
    answers : (y : Con.Ghost) → ((r : Res S y.0.0) (u : Val) → Is (type_at S.result y.0.0) r (u ∷ []) → Returned f u)
        → (u : Val) → ent 𝓤 (Con.post y u) (H.⇛ (guard 𝓤 (Returned f u) (Con.post y u)))
    answers y fits u =
        let R = type_at S.result y.0.0 in
        let Tokens = alive 𝓛 S y.0.0 y.0.1 in
        let Ens = (c y.0.0 y.0.3).ensures y.1 in
        𝓛.laws.⇛_mono _ _
        (qed 𝓛 (any (λ (r : Res S y.0.0). (raw Tokens ⊛ ‵ (R.own_val r (u ∷ []))) ⊛ raw (Ens r)) ∷ []) ∵ pick ! (λ r. split ! $ split ! $ move ! (1 ∷ []) $
        peeks ! R (Is R) (shows 𝓛 R) r (u ∷ []) (λ is. check ! (fits r u is) $ updating ! $ at_once ! $
        show ! (λ (r' : Res S y.0.0). sep 𝓤 (sep 𝓤 Tokens (sem 𝓛 (R.own_val r' (u ∷ [])))) (Ens r')) r $ move ! (1 ∷ 0 ∷ []) $ join ! $ frame ! $ done !)))

    -- the machine values of the parameters
    abbrev given : (κs : Lfts S.lifetimes) → AllKnown (types_at S.params κs) → Args S κs → List Val
    given κs ks a = flat (types_at S.params κs) (valss (types_at S.params κs) (spells (types_at S.params κs) ks) a)

    pub through : (ks : (κs : Lfts S.lifetimes) → AllKnown (types_at S.params κs))
        → ((κs : Lfts S.lifetimes) (r : Res S κs) (u : Val) → Is (type_at S.result κs) r (u ∷ []) → Returned f u)
        → ((κs : Lfts S.lifetimes) (a : Args S κs) → Hands 𝓛 f n (given κs (ks κs) a))
        → (C : Calls 𝓤 H) (Λ : Loops 𝓤 H) → FmC 𝓤 H 𝓛.laws C → Triple 𝓤 (C n) Con → Triple 𝓤 (WpFn 𝓤 H C Λ f) Con
    through ks fits hand C Λ fm known y =
        let κs = y.0.0 in
        let Rs = types_at S.params κs in
        let sp = spells Rs (ks κs) in
        let a = y.0.3 in
        let need = (c κs a).requires y.1 in
        let y' : Con.Ghost = ((κs, y.0.1, y.0.2, a, valss Rs sp a), y.1) in
        wand_e 𝓤 _ need _
        (said 𝓛 S κs y.0.1 sp (all_tells Rs (ks κs)) a
        (λ us. wand 𝓤 need (WpFn 𝓤 H C Λ f (flat Rs us) (Con.post ((κs, y.0.1, y.0.2, a, us), y.1)))) y.0.4
        (λ are. wand_i 𝓤 _ need _
        (hands_on n (flat Rs (valss Rs sp a)) C Λ fm (Con.pre y') (Con.post y') (Con.post y') (known y')
        (wide (mirs Rs) (flat Rs (valss Rs sp a)) (all_Typed 𝓛 Rs (all_lawful Rs (ks κs)) a (valss Rs sp a) are)) f (hand κs a) (answers y' (fits κs)))))
