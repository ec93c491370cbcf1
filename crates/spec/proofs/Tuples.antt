-- Every tuple of a constraint's variables is listed, so that a valid rule holds of every tuple of the constraint.
-- Assumes nothing.
use mathlib.Core.Path.{◌≡◌, refl, sym, ◌∙◌, fun_ext}
use mathlib.Core.Logic.{◌⊎◌, inl, inr}
use mathlib.Core.Bool.{Bool, true, false, not, ◌||◌, beq}
use mathlib.Core.List.Memᴰ
use mathlib.Core.List.{List, [], ◌∷◌, Memᴰ}
use lib.Dec.{T, T_not}
use Rattle.lemmas.proofs.Tests.{T_true, true_T, or_cases, beq_same, beq_refl}
use Rattle.lemmas.proofs.Members.{all_member, all_of}
use Rattle.lemmas.proofs.Pairs.{pairs_of}
use Rattle.lemmas.proofs.Those.{those_member}
use Rattle.spec.specs.Kinds.{Place}
use Rattle.spec.specs.Rules.{Literal, Rule}
use Rattle.spec.specs.SameRule.{same_place}
use Rattle.spec.specs.Minimal.{Constraint, states, put, rows, tuples, agrees, valid}
use Rattle.spec.proofs.SameRule.{same_place_lem, same_place_refl}

put_same : (p : Place) (s : Bool) (d : Place → Bool) → put p s d p ≡ s
unfolding put
put_same p s d = rw (true_T (same_place p p) (same_place_refl p), put)

put_cases : (p : Place) (s : Bool) (d : Place → Bool) (q : Place) → (p ≡ q) ⊎ (put p s d q ≡ d q)
unfolding put
put_cases p s d q = go (same_place p q) refl
  where
    go : (b : Bool) → same_place p q ≡ b → (p ≡ q) ⊎ (put p s d q ≡ d q)
    go true e = inl (same_place_lem p q (T_true e))
    go false e = inr (rw (e, put))

-- p put out, and then back at its own state
put_back : (p : Place) (v : Place → Bool) → v ≡ put p (v p) (put p false v)
put_back p v = fun_ext λ q. go q (put_cases p (v p) (put p false v) q) (put_cases p false v q)
  where
    here : (q : Place) → p ≡ q → v q ≡ put p (v p) (put p false v) q
    here q h = cc (put_same p (v p) (put p false v))

    go : (q : Place) → (p ≡ q) ⊎ (put p (v p) (put p false v) q ≡ put p false v q) → (p ≡ q) ⊎ (put p false v q ≡ v q)
        → v q ≡ put p (v p) (put p false v) q
    go q (inl h) b = here q h
    go q (inr f) (inl h) = here q h
    go q (inr f) (inr g) = cc

state_listed : (s : Bool) → Memᴰ s states
unfolding states
state_listed false = Memᴰ.head refl
state_listed true = Memᴰ.tail (Memᴰ.head refl)

-- a tuple that is out at what is no variable is listed
pub tuple_listed : (ps : List Place) (v : Place → Bool) → ((q : Place) → Memᴰ q ps ⊎ (v q ≡ false)) → Memᴰ v (rows ps)
unfolding rows
tuple_listed [] v h = Memᴰ.head (fun_ext λ q. out q (h q))
  where
    out : (q : Place) → Memᴰ q [] ⊎ (v q ≡ false) → v q ≡ false
    out q (inl m) = absurd (Memᴰ.not-nil m)
    out q (inr e) = e
tuple_listed (p ∷ ps) v h =
    Memᴰ.cast (put_back p v)
    (pairs_of (put p) (state_listed (v p)) (tuple_listed ps (put p false v) (λ q. out q (put_cases p false v q) (h q))))
  where
    here : (q : Place) → p ≡ q → put p false v q ≡ false
    here q e = cc (put_same p false v)

    rest : (q : Place) → (q ≡ p) ⊎ Memᴰ q ps → Memᴰ q ps ⊎ (put p false v q ≡ false)
    rest q (inl e) = inr (here q (sym e))
    rest q (inr m) = inl m

    out : (q : Place) → (p ≡ q) ⊎ (put p false v q ≡ v q) → Memᴰ q (p ∷ ps) ⊎ (v q ≡ false)
        → Memᴰ q ps ⊎ (put p false v q ≡ false)
    out q (inl e) k = inr (here q e)
    out q (inr e) (inl m) = rest q (Memᴰ.cases_cons m)
    out q (inr e) (inr f) = inr (e ∙ f)

-- d[X] = s, one variable after the other
pub agrees_at : (d : Place → Bool) (s : List Literal) → T (agrees d s) → (l : Literal) → Memᴰ l s → d l.place ≡ l.state
unfolding agrees
agrees_at d s t l m = beq_same (d l.place) l.state (all_member (λ l. beq (d l.place) l.state) t m)

pub agrees_of : (d : Place → Bool) (s : List Literal) → ((l : Literal) → Memᴰ l s → d l.place ≡ l.state) → T (agrees d s)
unfolding agrees
agrees_of d s h =
    all_of (λ l. beq (d l.place) l.state) s λ l m. rw (h l m) (beq_refl l.state)

-- where a valid rule's premises hold of a tuple of C, so do its conclusions
pub valid_holds : (C : Constraint) (r : Rule) → T (valid C r) → (d : Place → Bool) → Memᴰ d (rows C.variables) → T (C.allows d)
    → T (agrees d r.premises) → T (agrees d r.conclusions)
unfolding valid tuples
valid_holds C r t d m a s =
    go (or_cases (not (agrees d r.premises)) (agrees d r.conclusions) (all_member holds t (those_member C.allows m a)))
  where
    holds : (Place → Bool) → Bool
    holds d = not (agrees d r.premises) || agrees d r.conclusions

    go : T (not (agrees d r.premises)) ⊎ T (agrees d r.conclusions) → T (agrees d r.conclusions)
    go (inl u) = absurd (T_not (agrees d r.premises) u s)
    go (inr u) = u
