-- Lists in the order of a test: made by `map`, by `++` and by `those`; what stands first; what stands after an element.
-- Assumes nothing.
use mathlib.Core.Path.{◌≡◌, refl, sym, ap, ◌∙◌}
use mathlib.Core.Logic.{∥∥₁_elim, ⊎_elim}
use mathlib.Core.HLevel.{⊥_prop}
use mathlib.Core.Bool.{Bool, true, false, true≢false, cond}
use mathlib.Core.List.Memᴰ
use mathlib.Core.List.{List, [], ◌∷◌, ◌++◌, map, Memᴰ, Nodup}
use mathlib.Core.List.{Nodup-nil, Nodup-cons}
use Rattle.lemmas.specs.Lists.{those}
use Rattle.lemmas.specs.Ascends.{Ascends}
use Rattle.lemmas.proofs.Members.{member_map}
use Rattle.lemmas.proofs.Those.{member_those}

-- all pass: none is left out
those_every : {A : Type 0} (t : A → Bool) (l : List A) → ((a : A) → Memᴰ a l → t a ≡ true) → those t l ≡ l
those_every t [] h = refl
those_every t (a ∷ l) h =
    rw (h a (Memᴰ.head refl)) (ap (λ k. a ∷ k) (those_every t l (λ c m. h c (Memᴰ.tail m))))

-- a map that keeps the order
pub ascends_map : {A B : Type 0} (f : A → B) (p : A → A → Bool) (q : B → B → Bool) →
    ((a c : A) → p a c ≡ true → q (f a) (f c) ≡ true) → (l : List A) → Ascends p l → Ascends q (map f l)
ascends_map f p q keeps [] h = tt
ascends_map f p q keeps (a ∷ l) h =
    (λ b m. let r = member_map f l m in rw r.2 (keeps a r.0 (h.0 r.0 r.1)), ascends_map f p q keeps l h.1)

module _ {A : Type 0} (p : A → A → Bool) where
  pub ascends_append : (l k : List A) → Ascends p l → Ascends p k →
      ((a c : A) → Memᴰ a l → Memᴰ c k → p a c ≡ true) → Ascends p (l ++ k)
  ascends_append [] k h i across = i
  ascends_append (a ∷ l) k h i across = (
    λ c m. ⊎_elim (h.0 c) (across a c (Memᴰ.head refl)) (Memᴰ.append_cases l m),
    ascends_append l k h.1 i (λ b c m n. across b c (Memᴰ.tail m) n),
  )

  pub ascends_those : (t : A → Bool) (l : List A) → Ascends p l → Ascends p (those t l)
  ascends_those t [] h = tt
  ascends_those t (a ∷ l) h = go (t a) (ascends_those t l h.1)
    where
      go : (x : Bool) → Ascends p (those t l) → Ascends p (cond x (a ∷ those t l) (those t l))
      go true rest = (λ c m. h.0 c (member_those t l m).0, rest)
      go false rest = rest

  -- no element stands before itself: each is there once
  pub ascends_once : ((a : A) → p a a ≡ false) → (l : List A) → Ascends p l → Nodup l
  ascends_once irrefl [] h = Nodup-nil
  ascends_once irrefl (a ∷ l) h =
      Nodup-cons.1
      (λ m. ∥∥₁_elim m ⊥_prop (λ n. true≢false (sym (h.0 a n) ∙ irrefl a)), ascends_once irrefl l h.1)

  -- what stands after an element is the rest of the list
  pub ascends_after : ((a : A) → p a a ≡ false) → ((a c : A) → p a c ≡ true → p c a ≡ false) →
      (l : List A) (a : A) (k : List A) → Ascends p (l ++ a ∷ k) → those (p a) (l ++ a ∷ k) ≡ k
  ascends_after irrefl asym [] a k h = rw (irrefl a) (those_every (p a) k h.0)
  ascends_after irrefl asym (x ∷ l) a k h =
      rw (asym x a (h.0 a (Memᴰ.append_right l (Memᴰ.head refl)))) (ascends_after irrefl asym l a k h.1)
