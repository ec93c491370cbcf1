-- Two tests where one passes only what the other does: how many pass, and when the two are the same test.
-- Assumes nothing.
use mathlib.Core.Path.{◌≡◌, refl}
use mathlib.Core.Bool.{Bool, true, false, cond}
use mathlib.Core.List.{List, [], ◌∷◌, Memᴰ}
use Prim.Native.Nat.{ℕ, suc, ◌+◌, ◌≤◌, ◌<◌}
use native.Mathlib.Omega.{arith}
use native.Mathlib.Decide.{dec_lt}
use lib.Dec.{T}
use lib.ListN.{length}
use Rattle.lemmas.specs.Lists.{count}

-- what one element adds to a count
bit : Bool → ℕ
bit true = 1
bit false = 0

bit_small : (a : Bool) → bit a ≤ 1
unfolding bit
bit_small true = omega arith
bit_small false = omega arith

bit_mono : (a b : Bool) → (T a → T b) → bit a ≤ bit b
unfolding bit
bit_mono true true h = omega arith
bit_mono true false h = absurd (h tt)
bit_mono false b h = omega arith

bit_back : (a b : Bool) → bit b ≤ bit a → T b → T a
unfolding bit
bit_back true b h t = tt
bit_back false true h t = absurd (omega arith)
bit_back false false h t = t

module _ {A : Type 0} where
  count_cons : (p : A → Bool) (a : A) (l : List A) → count p (a ∷ l) ≡ bit (p a) + count p l
  unfolding bit
  count_cons p a l = at (p a)
    where
      at : (x : Bool) → cond x (suc (count p l)) (count p l) ≡ bit x + count p l
      at true = omega arith
      at false = omega arith

  pub count_length : (p : A → Bool) (l : List A) → count p l ≤ length l
  count_length p [] = omega arith
  count_length p (a ∷ l) = omega (arith, count_cons p a l, bit_small (p a), count_length p l)

  module _ (p q : A → Bool) where
    pub count_mono : (l : List A) → ((a : A) → Memᴰ a l → T (p a) → T (q a)) → count p l ≤ count q l
    count_mono [] h = omega arith
    count_mono (a ∷ l) h =
        omega (
          arith,
          count_cons p a l,
          count_cons q a l,
          bit_mono (p a) (q a) (h a (Memᴰ.head refl)),
          count_mono l (λ c m. h c (Memᴰ.tail m)),
        )

    -- as many of the wider test's: then they are the narrower's
    pub count_back : {a : A} {l : List A} → ((c : A) → Memᴰ c l → T (p c) → T (q c)) → count q l ≤ count p l →
        Memᴰ a l → T (q a) → T (p a)
    count_back h e (Memᴰ.head {x = x} {xs = xs} same) t =
        rw same
        (bit_back (p x) (q x)
        (omega (arith, count_cons p x xs, count_cons q x xs, count_mono xs (λ c m. h c (Memᴰ.tail m))))
        (rw same at t))
    count_back h e (Memᴰ.tail {x = x} {xs = xs} m) t =
        count_back
        (λ c n. h c (Memᴰ.tail n))
        (omega (arith, count_cons p x xs, count_cons q x xs, bit_mono (p x) (q x) (h x (Memᴰ.head refl))))
        m
        t

    -- one passes the wider test alone: then fewer pass the narrower
    pub count_less : {l : List A} → ((a : A) → Memᴰ a l → T (p a) → T (q a)) →
        {a : A} → Memᴰ a l → (T (p a) → ⊥) → T (q a) → count p l < count q l
    count_less {l} h m fails passes = at (dec_lt (count p l) (count q l))
      where
        at : Dec (count p l < count q l) → count p l < count q l
        at (yes less) = less
        at (no more) = absurd (fails (count_back h (omega arith) m passes))
