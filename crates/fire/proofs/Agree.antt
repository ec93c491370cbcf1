-- The trees give the closure: one computed test over the kinds and all states of a sheet.
-- Assumes nothing.
use mathlib.Core.Path.{◌≡◌, refl, subst⁻¹, sym, ap, ◌∙◌}
use mathlib.Core.List.{List, map}
use Prim.Native.Nat.{ℕ, suc, ◌-◌, ◌<◌}
use native.Mathlib.Decide.{dec_lt}
use native.Mathlib.Omega.{arith}
use Rattle.lemmas.specs.Lists.{upto}
use Rattle.lemmas.proofs.Table.{table_agree}
use Rattle.spec.specs.Kinds.{Kind, kind_of}
use Rattle.spec.specs.Rules.{rules_of}
use Rattle.spec.specs.Records.{box_at}
use Rattle.spec.specs.Facts.{holds}
use Rattle.spec.specs.Rounds.{has, names, gives, follows, code, round, closed}
use Rattle.fire.specs.States.{three, OnSheet, closed_alone}
use Rattle.fire.proofs.Tree.{tree, tree_of, equ_tree, not_tree, and_tree, or_tree}

-- what a function gives at each state of a sheet: out, in, open
abbrev at_states : {A : Type 0} → (ℕ → A) → List A
at_states f = map f (upto 3)

abbrev pub everywhere : {A : Type 0} → ((x y z : ℕ) → A) → List (List (List A))
everywhere f = at_states (λ x. at_states (λ y. at_states (f x y)))

-- two functions with the same list of all they give are the same at each state
everywhere_same : {A : Type 0} (f g : (x y z : ℕ) → A) → everywhere f ≡ everywhere g → {x y z : ℕ} → OnSheet x y z → f x y z ≡ g x y z
everywhere_same f g e {x} {y} {z} s =
    let at_x = table_agree (λ a. at_states (λ b. at_states (f a b))) (λ a. at_states (λ b. at_states (g a b))) 3 e x (omega arith) in
    let at_y = table_agree (λ b. at_states (f x b)) (λ b. at_states (g x b)) 3 at_x y (omega arith) in
    table_agree (f x y) (g x y) 3 at_y z (omega arith)

-- a number above the kinds'
abbrev pub above : ℕ → ℕ
above k = suc (suc (suc (suc (suc k))))

-- two functions that are the same at the kinds' numbers, at 0, and above, are the same at each number
numbers_same : {A : Type 0} (f g : ℕ → A) → map f (upto 5) ≡ map g (upto 5) → ((k : ℕ) → f (above k) ≡ g (above k)) →
    (kind : ℕ) → f kind ≡ g kind
numbers_same {A} f g below past kind = at (dec_lt kind 5)
  where
    at : Dec (kind < 5) → f kind ≡ g kind
    at (yes l) = table_agree f g 5 below kind l
    at (no l) = subst⁻¹ (λ (k : ℕ). f k ≡ g k) (omega arith) (past (kind - 5))

-- so a test over the kinds and all states of a sheet, which computes, is enough; above the kinds the number need not be known to compute
abbrev pub AtKinds : {A : Type 0} → ((kind x y z : ℕ) → A) → List (List (List (List A)))
AtKinds f = map (λ kind. everywhere (f kind)) (upto 5)

abbrev pub SameAbove : {A : Type 0} → (f g : (kind x y z : ℕ) → A) → Type 0
SameAbove f g = (k : ℕ) → everywhere (f (above k)) ≡ everywhere (g (above k))

pub kinds_same : {A : Type 0} (f g : (kind x y z : ℕ) → A) → AtKinds f ≡ AtKinds g → SameAbove f g →
    (kind : ℕ) {x y z : ℕ} → OnSheet x y z → f kind x y z ≡ g kind x y z
kinds_same f g below past kind =
    everywhere_same (f kind) (g kind) (numbers_same (λ k. everywhere (f k)) (λ k. everywhere (g k)) below past kind)

kinds_agree : AtKinds tree ≡ AtKinds closed_alone
unfolding kind_of rules_of box_at holds has names gives follows code round closed
kinds_agree = refl

above_agree : SameAbove tree closed_alone
unfolding kind_of rules_of box_at holds has names gives follows code round closed
above_agree k = refl

pub tree_closed : (kind : ℕ) {x y z : ℕ} → OnSheet x y z → tree kind x y z ≡ closed_alone kind x y z
tree_closed = kinds_same tree closed_alone kinds_agree above_agree

-- numbers of one kind have one closure
pub same_kind : (kind alike : ℕ) {x y z : ℕ} → OnSheet x y z → kind_of kind ≡ kind_of alike →
    closed_alone alike x y z ≡ closed_alone kind x y z
same_kind kind alike {x} {y} {z} s e =
    sym (tree_closed alike s) ∙ ap (λ (k : Kind). tree_of k x y z) (sym e) ∙ tree_closed kind s

pub none_closed : {x y z : ℕ} → OnSheet x y z → closed_alone 0 x y z ≡ three x y z
unfolding kind_of
none_closed s = sym (tree_closed 0 s)

pub equ_closed : {x y z : ℕ} → OnSheet x y z → closed_alone 1 x y z ≡ equ_tree x y z
unfolding kind_of
equ_closed s = sym (tree_closed 1 s)

pub not_closed : {x y z : ℕ} → OnSheet x y z → closed_alone 2 x y z ≡ not_tree x y z
unfolding kind_of
not_closed s = sym (tree_closed 2 s)

pub and_closed : {x y z : ℕ} → OnSheet x y z → closed_alone 3 x y z ≡ and_tree x y z
unfolding kind_of
and_closed s = sym (tree_closed 3 s)

pub or_closed : {x y z : ℕ} → OnSheet x y z → closed_alone 4 x y z ≡ or_tree x y z
unfolding kind_of
or_closed s = sym (tree_closed 4 s)
