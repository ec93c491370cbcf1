-- What `lowest` finds.
-- Assumes nothing.
use mathlib.Core.Path.{◌≡◌, refl, ap, sym, ◌∙◌}
use mathlib.Core.Bool.{Bool, true, false, cond}
use Prim.Native.Nat.{ℕ, zero, suc, ◌+◌, ◌≤◌, ◌<◌, zero-le, suc-le-suc}
use native.Mathlib.Nat.{not-suc-le-zero, le_of_suc-le-suc}
use native.Mathlib.Omega.{arith}
use borrow.Author.Count.{below_none, below_more}
use Rattle.std.proofs.Common.{Some, None}
use Rattle.lemmas.specs.Lowest.{lowest, if_below}

-- none passes
pub lowest_none : (p : ℕ → Bool) (n : ℕ) → ((j : ℕ) → j < n → p j ≡ false) → lowest p n ≡ n
unfolding lowest
lowest_none p zero h = refl
lowest_none p (suc n) h = rw (h zero (omega arith), lowest) (ap suc (lowest_none (λ i. p (suc i)) n (λ j l. h (suc j) (suc-le-suc l))))

-- i passes, and none below it
pub lowest_at : (p : ℕ → Bool) (n i : ℕ) → i < n → p i ≡ true → ((j : ℕ) → j < i → p j ≡ false) → lowest p n ≡ i
unfolding lowest
lowest_at p zero i l t h = absurd (not-suc-le-zero l)
lowest_at p (suc n) zero l t h = rw (t, lowest)
lowest_at p (suc n) (suc i) l t h =
    rw (h zero (omega arith), lowest) (ap suc (lowest_at (λ j. p (suc j)) n i (le_of_suc-le-suc l) t (λ j m. h (suc j) (suc-le-suc m))))

-- the same as an option
pub if_none : (p : ℕ → Bool) (n : ℕ) → ((j : ℕ) → j < n → p j ≡ false) → None ≡ if_below (lowest p n) n
if_none p n h = let e = lowest_none p n h in grind arith

pub if_found : (p : ℕ → Bool) (n i : ℕ) → i < n → p i ≡ true → ((j : ℕ) → j < i → p j ≡ false) → Some i ≡ if_below (lowest p n) n
if_found p n i l t h = let e = lowest_at p n i l t h in grind arith

-- and what an option says of the number
pub some_below : (k n : ℕ) {i : ℕ} → Some i ≡ if_below k n → (i ≡ k) × (k < n)
some_below k n e = (grind arith, grind arith)

pub none_below : (k n : ℕ) → None ≡ if_below k n → n ≤ k
none_below k n e = grind arith

-- where `lowest` finds none, none passes
pub lowest_below : (p : ℕ → Bool) (n i : ℕ) → n ≤ lowest p n → i < n → p i ≡ false
unfolding lowest
lowest_below p zero i h l = absurd (not-suc-le-zero l)
lowest_below p (suc n) zero h l = go (p zero) refl h
  where
    go : (t : Bool) → p zero ≡ t → suc n ≤ cond t zero (suc (lowest (λ j. p (suc j)) n)) → p zero ≡ false
    go true e h = absurd (not-suc-le-zero h)
    go false e h = e
lowest_below p (suc n) (suc i) h l =
    go (p zero) h (λ k. lowest_below (λ j. p (suc j)) n i k (le_of_suc-le-suc l))
  where
    go : (t : Bool) → suc n ≤ cond t zero (suc (lowest (λ j. p (suc j)) n)) → (n ≤ lowest (λ j. p (suc j)) n → p (suc i) ≡ false) → p (suc i) ≡ false
    go true h k = absurd (not-suc-le-zero h)
    go false h k = k (le_of_suc-le-suc h)

-- where it finds one, that passes, and none below it does
pub lowest_found : (p : ℕ → Bool) (n : ℕ) → lowest p n < n → (p (lowest p n) ≡ true) × ((j : ℕ) → j < lowest p n → p j ≡ false)
unfolding lowest
lowest_found p zero h = absurd (not-suc-le-zero h)
lowest_found p (suc n) h = go (p zero) refl h (lowest_found (λ j. p (suc j)) n)
  where
    low : ℕ
    low = lowest (λ j. p (suc j)) n

    below : p zero ≡ false → ((j : ℕ) → j < low → p (suc j) ≡ false) → (j : ℕ) → j < suc low → p j ≡ false
    below e rest zero l = e
    below e rest (suc j) l = rest j (le_of_suc-le-suc l)

    go : (t : Bool) → p zero ≡ t → cond t zero (suc low) < suc n →
        (low < n → (p (suc low) ≡ true) × ((j : ℕ) → j < low → p (suc j) ≡ false)) →
        (p (cond t zero (suc low)) ≡ true) × ((j : ℕ) → j < cond t zero (suc low) → p j ≡ false)
    go true e h rest = (e, λ j l. absurd (not-suc-le-zero l))
    go false e h rest = let found = rest (le_of_suc-le-suc h) in (found.0, below e found.1)

-- a search that looks at 0, 1, 2, … has come to i: none below it passes. What each turn and each way out of its loop asks
pub record Searched (p : ℕ → Bool) (n i : ℕ) : Type 0 where
  pub within : i ≤ n
  pub none : (j : ℕ) → j < i → p j ≡ false

module _ {p : ℕ → Bool} {n : ℕ} where
  pub searched_start : Searched p n 0
  searched_start = record { within = zero-le; none = below_none _ }

  module _ {i : ℕ} (s : Searched p n i) where
    pub searched_next : i < n → p i ≡ false → Searched p n (i + 1)
    searched_next l e = record { within = omega arith; none = below_more _ i s.none e }

    pub searched_found : i < n → p i ≡ true → i ≡ lowest p n
    searched_found l e = sym (lowest_at p n i l e s.none)

    pub searched_all : n ≤ i → i ≡ lowest p n
    searched_all h =
        let e : i ≡ n = omega (arith, s.within) in
        e ∙ sym (lowest_none p n (λ j l. s.none j (omega arith)))
