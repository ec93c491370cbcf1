-- The order of lists: `before` compares two lists of one length at their lowest differing box. It is a strict order, and total on
-- lists of one length.
-- Assumes nothing.
use mathlib.Core.Path.{◌≡◌, refl, sym, ap₂, ◌∙◌}
use mathlib.Core.Logic.{◌↔◌, ◌⊎◌, inl, inr}
use mathlib.Core.Bool.{Bool, true, false, true≢false, ◌&&◌, ◌||◌}
use mathlib.Core.List.{List, [], ◌∷◌}
use Prim.Native.Nat.{ℕ, zero, suc, ◌<◌, zero-le, suc-le-suc}
use native.Mathlib.Nat.{suc_inj, suc-ne-zero, not-suc-le-zero, le_of_suc-le-suc}
use native.Mathlib.Omega.{arith}
use borrow.Author.Tests.{ltb-true, ltb-false, eqb-true, lt-ltb, eq-eqb, le-ltb}
use lib.Dec.{ltb, eqb}
use lib.ListN.{length, get_or}
use Rattle.lemmas.proofs.Tests.{or_false_left, or_false_right}
use Rattle.lemmas.proofs.Implies.{never_true}
use Rattle.spec.specs.Kits.{before}
use Rattle.kits.specs.Order.{LessAt}

-- what the first boxes of two lists say: less; or the same, and the rest decides
first_box : (a b : ℕ) (rest : Bool) → (ltb a b || (eqb a b && rest)) ≡ true → (a < b) ⊎ ((a ≡ b) × (rest ≡ true))
first_box a b rest e = go (ltb a b) refl (eqb a b) refl e
  where
    go : (x : Bool) → ltb a b ≡ x → (y : Bool) → eqb a b ≡ y → (x || (y && rest)) ≡ true → (a < b) ⊎ ((a ≡ b) × (rest ≡ true))
    go true less y same e = inl (ltb-true a b less)
    go false less true same e = inr (eqb-true a b same, e)
    go false less false same e = absurd (true≢false (sym e))

first_less : (a b : ℕ) (rest : Bool) → a < b → (ltb a b || (eqb a b && rest)) ≡ true
first_less a b rest h = rw (lt-ltb a b h)

first_same : (a b : ℕ) (rest : Bool) → a ≡ b → rest ≡ true → (ltb a b || (eqb a b && rest)) ≡ true
first_same a b rest e t = rw (le-ltb a b (omega arith), eq-eqb a b e) t

pub before_at : (l k : List ℕ) → length l ≡ length k → before l k ≡ true → (b : ℕ) × (b < length l) × LessAt l k b
before_at [] [] e t = absurd (true≢false (sym t))
before_at [] (b ∷ k) e t = absurd (true≢false (sym t))
before_at (a ∷ l) [] e t = absurd (true≢false (sym t))
before_at (a ∷ l) (b ∷ k) e t = go (first_box a b (before l k) t) (before_at l k (suc_inj e))
  where
    later : a ≡ b → (c : ℕ) × (c < length l) × LessAt l k c → (c : ℕ) × (c < suc (length l)) × LessAt (a ∷ l) (b ∷ k) c
    later h r = (suc r.0, suc-le-suc r.1, record { same = at; less = r.2.less })
      where
        at : (c : ℕ) → c < suc r.0 → get_or (a ∷ l) c 2 ≡ get_or (b ∷ k) c 2
        at zero i = h
        at (suc c) i = r.2.same c (le_of_suc-le-suc i)

    go : (a < b) ⊎ ((a ≡ b) × (before l k ≡ true)) → (before l k ≡ true → (c : ℕ) × (c < length l) × LessAt l k c) →
        (c : ℕ) × (c < suc (length l)) × LessAt (a ∷ l) (b ∷ k) c
    go (inl h) rest = (0, suc-le-suc zero-le, record { same = λ c i. absurd (not-suc-le-zero i); less = h })
    go (inr h) rest = later h.0 (rest h.1)

pub at_before : (l k : List ℕ) (b : ℕ) → length l ≡ length k → b < length l → LessAt l k b → before l k ≡ true
at_before [] k b e i h = absurd (not-suc-le-zero i)
at_before (a ∷ l) [] b e i h = absurd (suc-ne-zero _ e)
at_before (a ∷ l) (x ∷ k) zero e i h = first_less a x (before l k) h.less
at_before (a ∷ l) (x ∷ k) (suc b) e i h =
    first_same a x (before l k) (h.same 0 (suc-le-suc zero-le))
    (at_before l k b (suc_inj e) (le_of_suc-le-suc i)
    (record { same = λ c j. h.same (suc c) (suc-le-suc j); less = h.less }))

-- the paper's sentence: lists are compared at their lowest differing box
pub before_exactly : (l k : List ℕ) → length l ≡ length k → (before l k ≡ true) ↔ ((b : ℕ) × (b < length l) × LessAt l k b)
before_exactly l k e = (before_at l k e, λ r. at_before l k r.0 e r.1 r.2)

pub before_trans : (l k m : List ℕ) → before l k ≡ true → before k m ≡ true → before l m ≡ true
before_trans [] [] m s t = absurd (true≢false (sym s))
before_trans [] (b ∷ k) m s t = absurd (true≢false (sym s))
before_trans (a ∷ l) [] m s t = absurd (true≢false (sym s))
before_trans (a ∷ l) (b ∷ k) [] s t = absurd (true≢false (sym t))
before_trans (a ∷ l) (b ∷ k) (c ∷ m) s t =
    go (first_box a b (before l k) s) (first_box b c (before k m) t) (before_trans l k m)
  where
    go : (a < b) ⊎ ((a ≡ b) × (before l k ≡ true)) → (b < c) ⊎ ((b ≡ c) × (before k m ≡ true)) →
        (before l k ≡ true → before k m ≡ true → before l m ≡ true) → before (a ∷ l) (c ∷ m) ≡ true
    go (inl h) (inl i) rest = first_less a c (before l m) (omega arith)
    go (inl h) (inr i) rest = first_less a c (before l m) (omega arith)
    go (inr h) (inl i) rest = first_less a c (before l m) (omega arith)
    go (inr h) (inr i) rest = first_same a c (before l m) (h.0 ∙ i.0) (rest h.1 i.1)

pub before_irrefl : (l : List ℕ) → before l l ≡ false
before_irrefl [] = refl
before_irrefl (a ∷ l) = rw (le-ltb a a (omega arith), eq-eqb a a refl) (before_irrefl l)

pub before_asym : (l k : List ℕ) → before l k ≡ true → before k l ≡ false
before_asym l k t = never_true (before k l) (λ s. true≢false (sym (before_trans l k l t s) ∙ before_irrefl l))

-- of two lists of one length one stands before the other, or they are the same
pub before_total : (l k : List ℕ) → length l ≡ length k → before l k ≡ false → before k l ≡ false → l ≡ k
before_total [] [] e s t = refl
before_total [] (b ∷ k) e s t = absurd (suc-ne-zero _ (sym e))
before_total (a ∷ l) [] e s t = absurd (suc-ne-zero _ e)
before_total (a ∷ l) (b ∷ k) e s t =
    ap₂ ◌∷◌ same (before_total l k (suc_inj e) (rest a b same (before l k) s) (rest b a (sym same) (before k l) t))
  where
    same : a ≡ b
    same =
        omega (
          arith,
          ltb-false a b (or_false_left (ltb a b) (eqb a b && before l k) s),
          ltb-false b a (or_false_left (ltb b a) (eqb b a && before k l) t),
        )

    rest : (a b : ℕ) → a ≡ b → (r : Bool) → (ltb a b || (eqb a b && r)) ≡ false → r ≡ false
    rest a b h r e = rw (eq-eqb a b h) at (or_false_right (ltb a b) (eqb a b && r) e)
