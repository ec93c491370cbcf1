-- What the tests on lists say of their members, where the test for two elements is right.
-- Assumes nothing.
use mathlib.Core.Path.{◌≡◌, refl, ap₂}
use mathlib.Core.Logic.{∥∥₁_elim}
use mathlib.Core.HLevel.{⊥_prop}
use mathlib.Core.Bool.{Bool, not}
use mathlib.Core.List.Memᴰ
use mathlib.Core.List.{List, [], ◌∷◌, Memᴰ, Nodup, Nodup-nil, Nodup-cons}
use lib.Dec.{T, T_not}
use Rattle.lemmas.specs.Lists.{any}
use Rattle.lemmas.specs.Same.{same_list, within, apart, distinct}
use Rattle.lemmas.proofs.Tests.{both_left, both_right, both_of}
use Rattle.lemmas.proofs.Members.{all_member, any_member, any_of}

-- two elements that pass the test are equal
module _ {A : Type 0} (same : A → A → Bool) (same_eq : (a b : A) → T (same a b) → a ≡ b) where
  pub same_list_lem : (l k : List A) → T (same_list same l k) → l ≡ k
  same_list_lem [] [] t = refl
  same_list_lem [] (b ∷ k) t = absurd t
  same_list_lem (a ∷ l) [] t = absurd t
  same_list_lem (a ∷ l) (b ∷ k) t =
      ap₂ ◌∷◌
      (same_eq a b (both_left (same a b) (same_list same l k) t))
      (same_list_lem l k (both_right (same a b) (same_list same l k) t))

  pub any_same : {a : A} (k : List A) → T (any (same a) k) → Memᴰ a k
  any_same {a} k t = let r = any_member (same a) k t in Memᴰ.cast (same_eq a r.0 r.2) r.1

  pub within_member : {a : A} {l : List A} (k : List A) → T (within same l k) → Memᴰ a l → Memᴰ a k
  within_member k t m = any_same k (all_member (λ a. any (same a) k) t m)

-- an element passes the test with itself
module _ {A : Type 0} (same : A → A → Bool) (same_refl : (a : A) → T (same a a)) where
  pub same_list_refl : (l : List A) → T (same_list same l l)
  same_list_refl [] = tt
  same_list_refl (a ∷ l) = both_of (same a a) (same_list same l l) (same_refl a) (same_list_refl l)

  pub apart_member : {a : A} {l : List A} (k : List A) → T (apart same l k) → Memᴰ a l → Memᴰ a k → ⊥
  apart_member {a} k t m n =
      T_not (any (same a) k) (all_member (λ b. not (any (same b) k)) t m) (any_of (same a) n (same_refl a))

  pub distinct_nodup : (l : List A) → T (distinct same l) → Nodup l
  distinct_nodup [] t = Nodup-nil
  distinct_nodup (a ∷ l) t =
      Nodup-cons.1 (fresh, distinct_nodup l (both_right (not (any (same a) l)) (distinct same l) t))
    where
      fresh : ∥ Memᴰ a l ∥₁ → ⊥
      fresh m =
          ∥∥₁_elim m ⊥_prop λ n.
          T_not (any (same a) l) (both_left (not (any (same a) l)) (distinct same l) t) (any_of (same a) n (same_refl a))
