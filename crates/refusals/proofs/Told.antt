-- What the numbers tell of an answer, whatever the operation's own kind; and that they lose nothing.
-- Assumes nothing.
use mathlib.Core.Path.{◌≡◌, refl, sym, ◌∙◌, ap}
use mathlib.Core.List.{List}
use Prim.Native.Nat.{ℕ}
use lib.ListN.{get_or}
use Rattle.spec.specs.Refusals.{Refusal, Said, refused, answered}
use Rattle.refusals.specs.declared.Numbers.{Numbers}
use Rattle.refusals.specs.Telling.{refused_numbers, done_with, numbers_of, in_order, numbers_from, refusal_in}
use Rattle.refusals.proofs.Back.{numbers_back}

-- what is told of one answer is told of another that is the same
pub told : {A : Type 0} (tells : A → List ℕ) {l : List ℕ} {a b : A} → a ≡ b → l ≡ tells b → l ≡ tells a
told tells e h = h ∙ ap tells (sym e)

-- the first number, by its place; and the count of an operation that counts
pub code_told : (n : Numbers) {l : List ℕ} → in_order n ≡ l → n.code ≡ get_or l 0 0
code_told n e = ap (λ (l : List ℕ). get_or l 0 0) e

pub count_told : (n : Numbers) (k : ℕ) → in_order n ≡ done_with k → n.first ≡ k
count_told n k e = cc

-- an operation's own answers begin with another number than 1
abbrev pub OwnCodes : {A : Type 0} → (A → List ℕ) → Type 0
OwnCodes {A} own = (a : A) → get_or (own a) 0 0 ≡ 1 → ⊥

-- the refusal that numbers in their order say
abbrev said_in : {A : Type 0} → List ℕ → Said A
said_in l = refused (refusal_in (numbers_from l))

said_back : {A : Type 0} (why : Refusal) → said_in {A = A} (refused_numbers why) ≡ refused why
said_back why = ap refused (numbers_back why)

-- the refusal, or the operation's own answer, by the first number
module _ {A : Type 0} (own : A → List ℕ) (codes : OwnCodes own) (n : Numbers) where
  pub told_refused : (s : Said A) → in_order n ≡ numbers_of own s → n.code ≡ 1 → s ≡ refused (refusal_in n)
  told_refused (refused why) e c = sym (said_back why) ∙ ap said_in (sym e)
  told_refused (answered a) e c = absurd (codes a (ap (λ (l : List ℕ). get_or l 0 0) (sym e) ∙ c))

  pub told_answered : (s : Said A) → in_order n ≡ numbers_of own s → (n.code ≡ 1 → ⊥) → (a : A) × (s ≡ answered a) × (in_order n ≡ own a)
  told_answered (refused why) e c = absurd (c (code_told n e))
  told_answered (answered a) e c = (a, refl, e)

-- where the own answers can be told apart, so can all
pub told_unique : {A : Type 0} (own : A → List ℕ) → OwnCodes own → ((a b : A) → own a ≡ own b → a ≡ b) →
    (s t : Said A) → numbers_of own s ≡ numbers_of own t → s ≡ t
told_unique own codes apart (refused why) (refused other) e = sym (said_back why) ∙ ap said_in e ∙ said_back other
told_unique own codes apart (refused why) (answered b) e =
    absurd (codes b (ap (λ (l : List ℕ). get_or l 0 0) (sym e)))
told_unique own codes apart (answered a) (refused why) e = absurd (codes a (ap (λ (l : List ℕ). get_or l 0 0) e))
told_unique own codes apart (answered a) (answered b) e = ap answered (apart a b e)

pub numbers_unique : (a b : Numbers) → in_order a ≡ in_order b → a ≡ b
numbers_unique a b e = ap numbers_from e
