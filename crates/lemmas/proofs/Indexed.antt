-- Counting by index: over the elements or over the indices it is the same count, and a loop over the indices adds them one by one.
-- Assumes nothing.
use mathlib.Core.Path.{◌≡◌, refl, ap, sym, ◌∙◌}
use mathlib.Core.Bool.{Bool, true, false, cond}
use mathlib.Core.List.{List, [], ◌∷◌}
use Prim.Native.Nat.{ℕ, zero, suc, ◌+◌, ◌≤◌}
use native.Mathlib.Omega.{arith}
use native.Mathlib.Nat.{add-zero, add-suc, suc-add, zero-add}
use native.Mathlib.Numerals.{add-one}
use lib.ListN.{length, get_or}
use Rattle.lemmas.specs.Lists.{count, up_from, upto}
use Rattle.lemmas.proofs.Counts.{count_length}
use Rattle.lemmas.proofs.Members.{length_upto}

count_shift : (p : ℕ → Bool) (k n : ℕ) → count p (up_from (suc k) n) ≡ count (λ i. p (suc i)) (up_from k n)
count_shift p k zero = refl
count_shift p k (suc n) = rw (count_shift p (suc k) n)

-- d is what is read past the end
pub count_indexed : {A : Type 0} (p : A → Bool) (d : A) (l : List A) → count p l ≡ count (λ i. p (get_or l i d)) (upto (length l))
count_indexed p d [] = refl
count_indexed p d (a ∷ l) = rw (count_indexed p d l, count_shift (λ i. p (get_or (a ∷ l) i d)) 0 (length l))

-- one more, if it passes
abbrev more : Bool → ℕ → ℕ
more t c = cond t (suc c) c

more_swap : (t u : Bool) (c : ℕ) → more t (more u c) ≡ more u (more t c)
more_swap true true c = refl
more_swap true false c = refl
more_swap false true c = refl
more_swap false false c = refl

-- the last number may as well be counted last
count_last : (p : ℕ → Bool) (k n : ℕ) → count p (up_from k (suc n)) ≡ more (p (k + n)) (count p (up_from k n))
count_last p k zero = rw add-zero
count_last p k (suc n) =
    ap (more (p k)) (count_last p (suc k) n)
    ∙ ap (λ (j : ℕ). more (p k) (more (p j) (count p (up_from (suc k) n)))) (suc-add k n ∙ sym (add-suc k n))
    ∙ more_swap (p k) (p (k + suc n)) (count p (up_from (suc k) n))

module _ (p : ℕ → Bool) (i : ℕ) where
  count_next : count p (upto (i + 1)) ≡ more (p i) (count p (upto i))
  count_next = rw (add-one, count_last p 0 i, zero-add)

  pub count_upto_yes : p i ≡ true → count p (upto (i + 1)) ≡ count p (upto i) + 1
  count_upto_yes e = count_next ∙ rw (e, add-one)

  pub count_upto_no : p i ≡ false → count p (upto (i + 1)) ≡ count p (upto i)
  count_upto_no e = count_next ∙ rw e

-- no more pass than there are numbers
pub count_upto_below : (p : ℕ → Bool) (n : ℕ) → count p (upto n) ≤ n
count_upto_below p n = omega (arith, count_length p (upto n), length_upto n)
