-- The members of `those p l`: the members of l that pass.
-- Assumes nothing.
use mathlib.Core.Path.{◌≡◌, refl}
use mathlib.Core.Bool.{Bool, true, false, cond}
use mathlib.Core.List.{List, [], ◌∷◌, Memᴰ}
use lib.Dec.{T}
use Rattle.lemmas.specs.Lists.{those}
use Rattle.lemmas.proofs.Tests.{T_true}

module _ {A : Type 0} where
  -- one more element, kept by this test's value
  abbrev kept : Bool → A → List A → List A
  kept b x r = cond b (x ∷ r) r

  kept_here : (b : Bool) {a x : A} (r : List A) → T b → a ≡ x → Memᴰ a (kept b x r)
  kept_here true r t e = Memᴰ.head e
  kept_here false r t e = absurd t

  kept_past : (b : Bool) {a : A} (x : A) (r : List A) → Memᴰ a r → Memᴰ a (kept b x r)
  kept_past true x r m = Memᴰ.tail m
  kept_past false x r m = m

  module _ (p : A → Bool) where
    pub those_member : {a : A} {l : List A} → Memᴰ a l → T (p a) → Memᴰ a (those p l)
    those_member (Memᴰ.head {x = x} {xs = xs} e) t = kept_here (p x) (those p xs) (rw e at t) e
    those_member (Memᴰ.tail {x = x} {xs = xs} m) t = kept_past (p x) x (those p xs) (those_member m t)

    pub member_those : {a : A} (l : List A) → Memᴰ a (those p l) → Memᴰ a l × T (p a)
    member_those [] m = elim m [ ]
    member_those {a} (x ∷ xs) m = at (p x) refl (λ k. member_those xs k) m
      where
        at : (b : Bool) → p x ≡ b → (Memᴰ a (those p xs) → Memᴰ a xs × T (p a)) →
            Memᴰ a (kept b x (those p xs)) → Memᴰ a (x ∷ xs) × T (p a)
        at true e below (Memᴰ.head same) = (Memᴰ.head same, rw same (T_true e))
        at true e below (Memᴰ.tail k) = let r = below k in (Memᴰ.tail r.0, r.1)
        at false e below k = let r = below k in (Memᴰ.tail r.0, r.1)
