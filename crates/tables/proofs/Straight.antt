-- Straight code: assignments one after the other, then one call whose result is returned. It is run here on values, and what it hands to the
-- call is read off.
--     Store            what each local holds, if anything;   hold    the same once a local is assigned;   entry    the parameters
--     Own              the locals of these types, at these blocks, with what they hold
--     find             a local of the function, and how it is taken out of what `Own` owns and put back
--     opd, opds, rv    an operand, operands and a right side: their value, and that MIR evaluates them to it
--     hands            a body: the function that it calls and the values that it hands over, and that the body runs where that call does
-- The last five compute on the MIR that they are given, and are `none` where it has another form.
-- What is run: copies of a local or of a field of one, numbers and truths that are written out, structs made of such, and the address behind a
-- reference that is a field, which is how a `&mut` slice is lent on. Another form is a clause of `opd`, `rv` or `hands` in place of its `none`.
-- Assumes `Logic`.
use mathlib.Core.Path.{◌≡◌, refl, sym, subst}
use mathlib.Core.Bool.{Bool, true, false}
use mathlib.Core.Option.{Option, none, some}
use mathlib.Core.List.{List, [], ◌∷◌}
use Prim.Native.Nat.{ℕ, zero, suc, ◌+◌, ◌^◌}
use seplogic.Ra.Ura.{Ura}
use base.Fraction.{full_share}
use lib.Dec.{T as Holds, ltb, ltb→lt}
use lib.ListN.{get_or}
use mir.Syntax.{Callee, Width, Ty, ty_int, ty_bool, ty_float, ty_ptr, ty_ref, ty_array, ty_unit, ty_struct, ty_enum, ty_named, ty_param, ty_const, ty_array_p, Sym, Tys}
use mir.Syntax.{Step as PStep, deref, field, variant, Place, place, Opd as Operand, copy, int, int_neg, int_big, float, opd_true, opd_false, opd_unit, ptr_const, size_of, align_of, num_of, fn_addr, vtable}
use mir.Syntax.{Rv as RValue, rv_opd, op2, op1, addr_of, aggregate, repeat, repeat_p, select, Body, skip, seq, assign, block, loop, cond, switch, exit, return, call, call_v, unreachable, lend_static}
use mir.Val.{Val, vunit, vbool, vint, vfloat, vptr, vstruct, vcode, of_list, WT, WTs, has_ty, bits}
use base.Logic.{SProp, ent, sep, emp, guard, id⊢, via, comm∗, snd∗}
use base.Fml.{Fml, ftrue, fsep, fat, froom, fdies}
use prog.Memory.{field_at}
use prog.Wp.{Heap, Env, no_local, Calls, Loops, release}
use types.Logic.{Logic, sem}
use types.Kit.{Item, ‵, raw, given, later, ⋆, Seq, Go, !, runs, at_ret, ◌$◌, ◌∵◌, qed, by, move, use1, learn, await, join, frame, fsplit, fjoin, done}
use types.Part.{agg}
use types.Run.{Reads, Writes, Walks, Finds, Opd, Opds, Rv, look, init, stop, hop, fld, from, load, lit, true_lit, false_lit, of_opd, addr}
use types.Run.{and_then, no_more, assigns, land, returns}
use sound.WpLaws.{FmC}
use denote.Triple.Call.{calls_from}
pub use Rattle.tables.proofs.Field.{wt_field, FieldAt}
use Rattle.tables.proofs.Field.{in_struct}

-- ---- on values
abbrev pub Store : Type 0
Store = ℕ → Option Val

-- local i is assigned v
abbrev pub hold : (ℕ → Option Val) → ℕ → Val → ℕ → Option Val
hold σ zero v zero = some v
hold σ zero v (suc j) = σ (suc j)
hold σ (suc i) v zero = σ zero
hold σ (suc i) v (suc j) = hold (λ k. σ (suc k)) i v j

abbrev pub listed : List Val → ℕ → Option Val
listed [] j = none
listed (v ∷ vs) zero = some v
listed (v ∷ vs) (suc j) = listed vs j

-- the parameters are the locals after the result
abbrev pub entry : List Val → ℕ → Option Val
entry vs zero = none
entry vs (suc j) = listed vs j

-- what a local holds is within its width
abbrev pub HoldsTyped : Option Val → Type 0
HoldsTyped none = Unit {0}
HoldsTyped (some v) = WT v

abbrev pub AllTyped : Store → Type 0
AllTyped σ = (i : ℕ) → HoldsTyped (σ i)

hold_good : (σ : ℕ → Option Val) → AllTyped σ → (i : ℕ) (v : Val) → WT v → AllTyped (hold σ i v)
hold_good σ g zero v w zero = w
hold_good σ g zero v w (suc j) = g (suc j)
hold_good σ g (suc i) v w zero = g zero
hold_good σ g (suc i) v w (suc j) = hold_good (λ k. σ (suc k)) (λ k. g (suc k)) i v w j

abbrev and {ℓ κ} : {X : Type ℓ} {Y : Type κ} → Option X → (X → Option Y) → Option Y
and none f = none
and (some x) f = f x

abbrev held : (o : Option Val) → Option ((v : Val) × (o ≡ some v))
held none = none
held (some v) = some (v, refl)

abbrev passes : (b : Bool) → Option (Holds b)
passes true = some tt
passes false = none

abbrev pointer : (u : Val) → Option ((b : ℕ) × (o : ℕ) × (u ≡ vptr b o))
pointer vunit = none
pointer (vbool b) = none
pointer (vint w n) = none
pointer (vfloat f x) = none
pointer (vptr b o) = some (b, o, refl)
pointer (vstruct us) = none
pointer (vcode t) = none

-- ---- what the locals own
abbrev cell : Ty → ℕ → Option Val → Fml
cell τ b none = froom τ b zero
cell τ b (some v) = fat full_share τ b zero v

abbrev pub Own : List Ty → (ℕ → ℕ) → (ℕ → Option Val) → Fml
Own [] bs σ = ftrue
Own (τ ∷ τs) bs σ = fsep (fsep (cell τ (bs zero) (σ zero)) (fdies τ (bs zero))) (Own τs (λ j. bs (suc j)) (λ j. σ (suc j)))

-- the same but for what local i holds
abbrev Less : List Ty → (ℕ → ℕ) → (ℕ → Option Val) → ℕ → Fml
Less [] bs σ i = ftrue
Less (τ ∷ τs) bs σ zero = fsep (fdies τ (bs zero)) (Own τs (λ j. bs (suc j)) (λ j. σ (suc j)))
Less (τ ∷ τs) bs σ (suc i) = fsep (fsep (cell τ (bs zero) (σ zero)) (fdies τ (bs zero))) (Less τs (λ j. bs (suc j)) (λ j. σ (suc j)) i)

module _ {M : Type 1} (𝓤 : Ura M) (H : Heap 𝓤) where
  abbrev pub env : List Ty → (ℕ → ℕ) → Env 𝓤 H
  env [] bs = []
  env (τ ∷ τs) bs = (τ, bs zero) ∷ env τs (λ j. bs (suc j))

module _ {M : Type 1} {𝓤 : Ura M} (𝓛 : Logic 𝓤) where
  -- local i is of type τ, and is taken out and put back
  open 𝓛 use {H}

  pub record Lives (τs : List Ty) (i : ℕ) (τ : Ty) : Type 1 where
    spot : (bs : ℕ → ℕ) → get_or (env 𝓤 H τs bs) i (no_local 𝓤 H) ≡ (τ, bs i)
    out : (bs : ℕ → ℕ) (σ : ℕ → Option Val) → ent 𝓤 (sem 𝓛 (Own τs bs σ)) (sem 𝓛 (fsep (cell τ (bs i) (σ i)) (Less τs bs σ i)))
    back : (bs : ℕ → ℕ) (σ : ℕ → Option Val) → ent 𝓤 (sem 𝓛 (fsep (cell τ (bs i) (σ i)) (Less τs bs σ i))) (sem 𝓛 (Own τs bs σ))
    into : (bs : ℕ → ℕ) (σ : ℕ → Option Val) (v : Val)
        → ent 𝓤 (sem 𝓛 (fsep (fat full_share τ (bs i) zero v) (Less τs bs σ i))) (sem 𝓛 (Own τs bs (hold σ i v)))

  shut : (c d F : Fml) → ent 𝓤 (sem 𝓛 (fsep c (fsep d F))) (sem 𝓛 (fsep (fsep c d) F))
  shut c d F = qed 𝓛 (‵ (fsep c (fsep d F)) ∷ []) ∵ fsplit ! $ move ! (1 ∷ []) $ fsplit ! $ move ! (2 ∷ 0 ∷ []) $ fjoin ! $ fjoin ! $ done !

  pub first : (τ : Ty) (τs : List Ty) → Lives (τ ∷ τs) zero τ
  first τ τs = record {
    spot = λ bs. refl;
    out = λ bs σ. qed 𝓛 (‵ (Own (τ ∷ τs) bs σ) ∷ []) ∵ fsplit ! $ fsplit ! $ frame ! $ fjoin ! $ done !;
    back = λ bs σ. shut (cell τ (bs zero) (σ zero)) (fdies τ (bs zero)) (Own τs (λ j. bs (suc j)) (λ j. σ (suc j)));
    into = λ bs σ v. shut (fat full_share τ (bs zero) zero v) (fdies τ (bs zero)) (Own τs (λ j. bs (suc j)) (λ j. σ (suc j)));
  }

  under : (c p F O : Fml) → ent 𝓤 (sem 𝓛 (fsep c F)) (sem 𝓛 O) → ent 𝓤 (sem 𝓛 (fsep c (fsep p F))) (sem 𝓛 (fsep p O))
  under c p F O e =
      qed 𝓛 (‵ (fsep c (fsep p F)) ∷ []) ∵ fsplit ! $ move ! (1 ∷ []) $ fsplit ! $ move ! (2 ∷ 1 ∷ []) $ fjoin ! $ use1 𝓛 (‵ O) e $
      move ! (1 ∷ 0 ∷ []) $ fjoin ! $ done !

  pub next : (τ : Ty) (τs : List Ty) (i : ℕ) (τ' : Ty) → Lives τs i τ' → Lives (τ ∷ τs) (suc i) τ'
  next τ τs i τ' l = record {
    spot = λ bs. l.spot (λ j. bs (suc j));
    out = λ bs σ.
        qed 𝓛 (‵ (Own (τ ∷ τs) bs σ) ∷ []) ∵ fsplit ! $ move ! (1 ∷ []) $
        use1 𝓛 (‵ (fsep (cell τ' (bs (suc i)) (σ (suc i))) (Less τs (λ j. bs (suc j)) (λ j. σ (suc j)) i))) (l.out (λ j. bs (suc j)) (λ j. σ (suc j))) $
        fsplit ! $ frame ! $ move ! (1 ∷ 0 ∷ []) $ fjoin ! $ done !;
    back = λ bs σ. under (cell τ' (bs (suc i)) (σ (suc i))) (fsep (cell τ (bs zero) (σ zero)) (fdies τ (bs zero)))
        (Less τs (λ j. bs (suc j)) (λ j. σ (suc j)) i) (Own τs (λ j. bs (suc j)) (λ j. σ (suc j))) (l.back (λ j. bs (suc j)) (λ j. σ (suc j)));
    into = λ bs σ v. under (fat full_share τ' (bs (suc i)) zero v) (fsep (cell τ (bs zero) (σ zero)) (fdies τ (bs zero)))
        (Less τs (λ j. bs (suc j)) (λ j. σ (suc j)) i) (Own τs (λ j. bs (suc j)) (hold (λ j. σ (suc j)) i v)) (l.into (λ j. bs (suc j)) (λ j. σ (suc j)) v);
  }

  abbrev find : (τs : List Ty) (i : ℕ) → Option ((τ : Ty) × Lives τs i τ)
  find [] i = none
  find (τ ∷ τs) zero = some (τ, first τ τs)
  find (τ ∷ τs) (suc i) = and (find τs i) (λ l. some (l.0, next τ τs i l.0 l.1))

  -- ---- places. The context is the locals, and R
  abbrev pub Cx : List Ty → (ℕ → ℕ) → (ℕ → Option Val) → SProp 𝓤 → List (Item 𝓤)
  Cx τs bs σ R = ‵ (Own τs bs σ) ∷ raw R ∷ []

  module _ {τs : List Ty} {i : ℕ} {τ : Ty} (l : Lives τs i τ) (bs : ℕ → ℕ) (σ : ℕ → Option Val) (R : SProp 𝓤) where
    abbrev E : Env 𝓤 H
    E = env 𝓤 H τs bs

    abbrev Out : Fml → List (Item 𝓤)
    Out c = ‵ c ∷ ‵ (Less τs bs σ i) ∷ raw R ∷ []

    taken : (v : Val) → σ i ≡ some v → ent 𝓤 (⋆ 𝓛 (Cx τs bs σ R)) (⋆ 𝓛 (Out (fat full_share τ (bs i) zero v)))
    taken v e = subst (λ (o : Option Val). ent 𝓤 (⋆ 𝓛 (Cx τs bs σ R)) (⋆ 𝓛 (Out (cell τ (bs i) o)))) e
        (qed 𝓛 (Cx τs bs σ R) ∵ use1 𝓛 (‵ (fsep (cell τ (bs i) (σ i)) (Less τs bs σ i))) (l.out bs σ) $ fsplit ! $ frame ! $ frame ! $ done !)

    again : (v : Val) → σ i ≡ some v → ent 𝓤 (⋆ 𝓛 (Out (fat full_share τ (bs i) zero v))) (⋆ 𝓛 (Cx τs bs σ R))
    again v e = subst (λ (o : Option Val). ent 𝓤 (⋆ 𝓛 (Out (cell τ (bs i) o))) (⋆ 𝓛 (Cx τs bs σ R))) e
        (qed 𝓛 (Out (cell τ (bs i) (σ i))) ∵ fjoin ! $ use1 𝓛 (‵ (Own τs bs σ)) (l.back bs σ) $ frame ! $ done !)

    -- what is read of the local is read of the locals
    reads : {τ' : Ty} {b o : ℕ} {u : Val} (v : Val) → σ i ≡ some v
        → Reads (Go {0}) 𝓛 (Out (fat full_share τ (bs i) zero v)) τ' b o u → Reads (Go {0}) 𝓛 (Cx τs bs σ R) τ' b o u
    reads v e r = record {
      go = λ Kt h. via 𝓤 (⋆ 𝓛 (Out (fat full_share τ (bs i) zero v))) (taken v e) (r.go Kt (via 𝓤 (⋆ 𝓛 (Cx τs bs σ R)) (again v e) h));
    }

    finds : {st : List PStep} {sp : Ty × ℕ × ℕ} → Walks (Go {0}) 𝓛 (Cx τs bs σ R) E (τ, bs i, zero) st sp → Finds (Go {0}) 𝓛 (Cx τs bs σ R) E (place i st) sp
    finds {st} {sp} w = from ! (subst (λ (e : Ty × ℕ). Walks (Go {0}) 𝓛 (Cx τs bs σ R) E (e.0, e.1, zero) st sp) (sym (l.spot bs)) w)

    cell_room : (o : Option Val) → ent 𝓤 (sem 𝓛 (cell τ (bs i) o)) (sem 𝓛 (froom τ (bs i) zero))
    cell_room none = id⊢ 𝓤 _
    cell_room (some v) = 𝓛.laws.at_room τ (bs i) zero v

    written : (v : Val) → Holds (has_ty τ v) × WT v → Writes (Go {0}) 𝓛 (Out (froom τ (bs i) zero)) τ (bs i) zero v (Out (fat full_share τ (bs i) zero v))
    written v wt = init ! 0 refl wt

    stores : (v : Val) → Holds (has_ty τ v) × WT v → Writes (Go {0}) 𝓛 (Cx τs bs σ R) τ (bs i) zero v (Cx τs bs (hold σ i v) R)
    stores v wt = record {
      go = λ P h.
          via 𝓤 (⋆ 𝓛 (Out (froom τ (bs i) zero)))
          (qed 𝓛 (Cx τs bs σ R) ∵ use1 𝓛 (‵ (fsep (cell τ (bs i) (σ i)) (Less τs bs σ i))) (l.out bs σ) $ fsplit ! $
          use1 𝓛 (‵ (froom τ (bs i) zero)) (cell_room (σ i)) $ frame ! $ frame ! $ done !)
          ((written v wt).go P
          (via 𝓤 (⋆ 𝓛 (Cx τs bs (hold σ i v) R))
          (qed 𝓛 (Out (fat full_share τ (bs i) zero v)) ∵ fjoin ! $ use1 𝓛 (‵ (Own τs bs (hold σ i v))) (l.into bs σ v) $ frame ! $ done !) h));
    }

  -- ---- a field of a value (`Field.antt`)
  abbrev of_fields : (ν : Sym) (τs : Tys) (k : ℕ) (v : Val) → Option ((u : Val) × FieldAt 𝓛 (ty_struct ν τs) k v u)
  of_fields ν τs k vunit = none
  of_fields ν τs k (vbool b) = none
  of_fields ν τs k (vint w n) = none
  of_fields ν τs k (vfloat f x) = none
  of_fields ν τs k (vptr b o) = none
  of_fields ν τs k (vcode t) = none
  of_fields ν τs k (vstruct us) = in_struct 𝓛 ν τs k us (field_at zero τs k) refl

  abbrev part : (τ : Ty) (k : ℕ) (v : Val) → Option ((u : Val) × FieldAt 𝓛 τ k v u)
  part (ty_int w) k v = none
  part ty_bool k v = none
  part (ty_float f) k v = none
  part ty_ptr k v = none
  part (ty_ref κ μ τ) k v = none
  part (ty_array τ n) k v = none
  part ty_unit k v = none
  part (ty_struct ν τs) k v = of_fields ν τs k v
  part (ty_enum ν τss) k v = none
  part (ty_named ν τs) k v = none
  part (ty_param i) k v = none
  part (ty_const n) k v = none
  part (ty_array_p τ i) k v = none

  -- ---- operands and right sides
  module _ (τs : List Ty) (σ : ℕ → Option Val) where
    -- what is read of the code, whatever the blocks and R are; and a value within its width
    abbrev OpdIs : Operand → Val → Type 2
    OpdIs x v = ((bs : ℕ → ℕ) (R : SProp 𝓤) → Opd (Go {0}) 𝓛 (Cx τs bs σ R) (env 𝓤 H τs bs) x v) × (AllTyped σ → WT v)

    abbrev OpdsAre : List Operand → List Val → Type 2
    OpdsAre xs vs = ((bs : ℕ → ℕ) (R : SProp 𝓤) → Opds (Go {0}) 𝓛 (Cx τs bs σ R) (env 𝓤 H τs bs) xs vs) × (AllTyped σ → WTs (of_list vs))

    abbrev RvIs : RValue → Val → Type 2
    RvIs r v = ((bs : ℕ → ℕ) (R : SProp 𝓤) → Rv (Go {0}) 𝓛 (Cx τs bs σ R) (env 𝓤 H τs bs) r v) × (AllTyped σ → WT v)

    module _ (i : ℕ) (τ : Ty) (l : Lives τs i τ) (v : Val) (e : σ i ≡ some v) where
      pub whole_is : OpdIs (copy (place i [])) v
      whole_is = (λ bs R. load ! (finds l bs σ R (stop !)) (reads l bs σ R v e (look ! 0 refl)), λ g. subst HoldsTyped e (g i))

      module _ (k : ℕ) (u : Val) (p : FieldAt 𝓛 τ k v u) where
        part_read : (bs : ℕ → ℕ) (R : SProp 𝓤) → Reads (Go {0}) 𝓛 (Cx τs bs σ R) p.ty (bs i) (zero + p.off) u
        part_read bs R = reads l bs σ R v e (p.read full_share (bs i) zero (‵ (Less τs bs σ i) ∷ raw R ∷ []))

        pub part_is : OpdIs (copy (place i (field k ∷ []))) u
        part_is = (λ bs R. load ! (finds l bs σ R (fld ! p.is (stop !))) (part_read bs R), λ g. p.wt (subst HoldsTyped e (g i)))

        -- the address behind the reference that the field is
        pub lent_is : (τ' : Ty) (b o : ℕ) → u ≡ vptr b o → RvIs (addr_of (place i (field k ∷ deref τ' ∷ []))) (vptr b o)
        lent_is τ' b o q = (
          λ bs R. addr ! (finds l bs σ R (fld ! p.is (hop !
              (subst (λ (w : Val). Reads (Go {0}) 𝓛 (Cx τs bs σ R) p.ty (bs i) (zero + p.off) w) q (part_read bs R)) (stop !)))),
          λ g. tt,
        )

    pub lit_is : (w : Width) (n : ℕ) → Holds (ltb n (2 ^ bits w)) → OpdIs (int w n) (vint w n)
    lit_is w n t = (λ bs R. lit ! t, λ g. record { fits = ltb→lt n (2 ^ bits w) t })

    abbrev opd : (x : Operand) → Option ((v : Val) × OpdIs x v)
    opd (copy (place i [])) = and (find τs i) (λ l. and (held (σ i)) (λ h. some (h.0, whole_is i l.0 l.1 h.0 h.1)))
    opd (copy (place i (field k ∷ []))) =
        and (find τs i) (λ l. and (held (σ i)) (λ h. and (part l.0 k h.0) (λ p. some (p.0, part_is i l.0 l.1 h.0 h.1 k p.0 p.1))))
    opd (copy (place i (field k ∷ s ∷ st))) = none
    opd (copy (place i (deref τ ∷ st))) = none
    opd (copy (place i (variant k ∷ st))) = none
    opd (int w n) = and (passes (ltb n (2 ^ bits w))) (λ t. some (vint w n, lit_is w n t))
    opd (int_neg w n) = none
    opd (int_big w n) = none
    opd (float f n) = none
    opd opd_true = some (vbool true, (λ bs R. true_lit !, λ g. tt))
    opd opd_false = some (vbool false, (λ bs R. false_lit !, λ g. tt))
    opd opd_unit = none
    opd (ptr_const n) = none
    opd (size_of τ) = none
    opd (align_of τ) = none
    opd (num_of w τ) = none
    opd (fn_addr n ς) = none
    opd (vtable τ ss) = none

    pub both_are : (x : Operand) (xs : List Operand) (v : Val) (vs : List Val) → OpdIs x v → OpdsAre xs vs → OpdsAre (x ∷ xs) (v ∷ vs)
    both_are x xs v vs o os = (λ bs R. and_then ! (o.0 bs R) (os.0 bs R), λ g. (o.1 g, os.1 g))

    pub none_are : OpdsAre [] []
    none_are = (λ bs R. no_more !, λ g. tt)

    abbrev opds : (xs : List Operand) → Option ((vs : List Val) × OpdsAre xs vs)
    opds [] = some ([], none_are)
    opds (x ∷ xs) = and (opd x) (λ o. and (opds xs) (λ os. some (o.0 ∷ os.0, both_are x xs o.0 os.0 o.1 os.1)))

    pub copy_is : (x : Operand) (v : Val) → OpdIs x v → RvIs (rv_opd x) v
    copy_is x v o = (λ bs R. of_opd ! (o.0 bs R), o.1)

    pub made_is : (xs : List Operand) (vs : List Val) → OpdsAre xs vs → RvIs (aggregate xs) (vstruct (of_list vs))
    made_is xs vs os = (λ bs R. agg ! (os.0 bs R), os.1)

    abbrev rv : (r : RValue) → Option ((v : Val) × RvIs r v)
    rv (rv_opd x) = and (opd x) (λ o. some (o.0, copy_is x o.0 o.1))
    rv (aggregate xs) = and (opds xs) (λ os. some (vstruct (of_list os.0), made_is xs os.0 os.1))
    rv (addr_of (place i (field k ∷ deref τ ∷ []))) =
        and (find τs i) (λ l. and (held (σ i)) (λ h. and (part l.0 k h.0) (λ p. and (pointer p.0) (λ a.
        some (vptr a.0 a.1, lent_is i l.0 l.1 h.0 h.1 k p.0 p.1 τ a.0 a.1 a.2)))))
    rv (addr_of (place i [])) = none
    rv (addr_of (place i (field k ∷ []))) = none
    rv (addr_of (place i (field k ∷ field j ∷ st))) = none
    rv (addr_of (place i (field k ∷ variant j ∷ st))) = none
    rv (addr_of (place i (field k ∷ deref τ ∷ s ∷ st))) = none
    rv (addr_of (place i (deref τ ∷ st))) = none
    rv (addr_of (place i (variant k ∷ st))) = none
    rv (op2 o x y) = none
    rv (op1 o x) = none
    rv (repeat x n) = none
    rv (repeat_p x i) = none
    rv (select m x y) = none

  -- ---- a body
  free_all : (τs : List Ty) (bs : ℕ → ℕ) (σ : ℕ → Option Val) (P : SProp 𝓤) → ent 𝓤 (sep 𝓤 (sem 𝓛 (Own τs bs σ)) P) (release 𝓤 H (env 𝓤 H τs bs) P)
  free_all [] bs σ P = snd∗ 𝓤 (emp 𝓤) P
  free_all (τ ∷ τs) bs σ P =
      qed 𝓛 (‵ (Own (τ ∷ τs) bs σ) ∷ raw P ∷ []) ∵ fsplit ! $ fsplit ! $ use1 𝓛 (‵ (froom τ (bs zero) zero)) (cell_room (first τ τs) bs σ P (σ zero)) $
      join ! $ frame ! $ by ! (free_all τs (λ j. bs (suc j)) (λ j. σ (suc j)) P)

  module _ (τ₀ : Ty) (τs : List Ty) where
    -- u may be returned
    abbrev pub Fit : Val → Type 0
    Fit u = Holds (has_ty τ₀ u) × WT u

    -- where the call of n with us runs, so does the body
    abbrev pub Runs : (ℕ → Option Val) → Body → Callee → List Val → Type 2
    Runs σ b n us = (bs : ℕ → ℕ) (C : Calls 𝓤 H) (Λ : Loops 𝓤 H) → FmC 𝓤 H 𝓛.laws C → (P : SProp 𝓤) (Q K : Val → SProp 𝓤) → ent 𝓤 P (C n us Q)
        → ((u : Val) → ent 𝓤 (Q u) (H.⇛ (guard 𝓤 (Fit u) (K u)))) → AllTyped σ
        → Seq (Go {0}) 𝓛 (Cx (τ₀ ∷ τs) bs σ P) (runs C Λ (env 𝓤 H (τ₀ ∷ τs) bs) b (at_ret (env 𝓤 H (τ₀ ∷ τs) bs) K))

    pub assign_runs : (σ : ℕ → Option Val) (j : ℕ) (r : RValue) (rest : Body) (n : Callee) (us : List Val) (τ : Ty) (v : Val) → Lives (τ₀ ∷ τs) j τ
        → RvIs (τ₀ ∷ τs) σ r v → Holds (has_ty τ v) → Runs (hold σ j v) rest n us → Runs σ (seq (assign (place j []) r) rest) n us
    assign_runs σ j r rest n us τ v l is t k bs C Λ fm P Q K met ans g =
        assigns ! (is.0 bs P) (finds l bs σ P (stop !)) (stores l bs σ P v (t, is.1 g)) $ k bs C Λ fm P Q K met ans (hold_good σ g j v (is.1 g))

    pub call_runs : (σ : ℕ → Option Val) (n : Callee) (xs : List Operand) (us : List Val) → OpdsAre (τ₀ ∷ τs) σ xs us
        → Runs σ (seq (call n xs (place zero [])) return) n us
    call_runs σ n xs us os bs C Λ fm P Q K met ans g =
        move ! (1 ∷ []) $ calls_from ! fm (raw P) us Q met swapped (λ u.
        use1 𝓛 (later (given (Fit u) (raw (K u)))) (ans u) $ await ! tt $ learn ! (λ wt. move ! (1 ∷ 0 ∷ []) $
        land ! (finds (first τ₀ τs) bs σ (K u) (stop !)) (stores (first τ₀ τs) bs σ (K u) u wt) $
        returns ! (reads (first τ₀ τs) bs (hold σ zero u) (K u) u refl (look ! 0 refl)) $ by ! (free_all (τ₀ ∷ τs) bs (hold σ zero u) (K u))))
      where
        swapped : Opds (Go {0}) 𝓛 (raw P ∷ ‵ (Own (τ₀ ∷ τs) bs σ) ∷ []) (env 𝓤 H (τ₀ ∷ τs) bs) xs us
        swapped = record {
          go = λ Kt h.
              via 𝓤 (⋆ 𝓛 (Cx (τ₀ ∷ τs) bs σ P)) (comm∗ 𝓤 P (sem 𝓛 (Own (τ₀ ∷ τs) bs σ)))
              ((os.0 bs P).go Kt (via 𝓤 (⋆ 𝓛 (raw P ∷ ‵ (Own (τ₀ ∷ τs) bs σ) ∷ [])) (comm∗ 𝓤 (sem 𝓛 (Own (τ₀ ∷ τs) bs σ)) P) h));
        }

    abbrev pub Called : (ℕ → Option Val) → Body → Type 2
    Called σ b = Option ((n : Callee) × (us : List Val) × Runs σ b n us)

    -- what follows the call is the return
    abbrev last : (σ : ℕ → Option Val) (n : Callee) (xs : List Operand) (rest : Body) → Called σ (seq (call n xs (place zero [])) rest)
    last σ n xs return = and (opds (τ₀ ∷ τs) σ xs) (λ os. some (n, os.0, call_runs σ n xs os.0 os.1))
    last σ n xs skip = none
    last σ n xs (seq a b) = none
    last σ n xs (assign p r) = none
    last σ n xs (block b) = none
    last σ n xs (loop b) = none
    last σ n xs (cond c a b) = none
    last σ n xs (switch c arms) = none
    last σ n xs (exit k) = none
    last σ n xs (call m ys p) = none
    last σ n xs unreachable = none
    last σ n xs (call_v c ς ys p) = none
    last σ n xs (lend_static p τ c) = none

    -- and its result is the function's
    abbrev called : (σ : ℕ → Option Val) (n : Callee) (xs : List Operand) (p : Place) (rest : Body) → Called σ (seq (call n xs p) rest)
    called σ n xs (place zero []) rest = last σ n xs rest
    called σ n xs (place (suc i) []) rest = none
    called σ n xs (place i (s ∷ st)) rest = none

    abbrev pub hands : (σ : ℕ → Option Val) (b : Body) → Called σ b
    hands σ (seq (assign (place j []) r) rest) =
        and (rv (τ₀ ∷ τs) σ r) (λ v. and (find (τ₀ ∷ τs) j) (λ l. and (passes (has_ty l.0 v.0)) (λ t. and (hands (hold σ j v.0) rest) (λ h.
        some (h.0, h.1, assign_runs σ j r rest h.0 h.1 l.0 v.0 l.1 v.1 t h.2)))))
    hands σ (seq (assign (place j (s ∷ st)) r) rest) = none
    hands σ (seq (call n xs p) rest) = called σ n xs p rest
    hands σ (seq skip b) = none
    hands σ (seq (seq a a') b) = none
    hands σ (seq (block a) b) = none
    hands σ (seq (loop a) b) = none
    hands σ (seq (cond c a a') b) = none
    hands σ (seq (switch c arms) b) = none
    hands σ (seq (exit k) b) = none
    hands σ (seq return b) = none
    hands σ (seq unreachable b) = none
    hands σ (seq (call_v c ς xs p) b) = none
    hands σ (seq (lend_static p τ c) b) = none
    hands σ skip = none
    hands σ (assign p r) = none
    hands σ (block b) = none
    hands σ (loop b) = none
    hands σ (cond c a b) = none
    hands σ (switch c arms) = none
    hands σ (exit k) = none
    hands σ return = none
    hands σ (call n xs p) = none
    hands σ unreachable = none
    hands σ (call_v c ς xs p) = none
    hands σ (lend_static p τ c) = none
