-- Lists compared by a test for when two elements are the same. They compute.
-- Assumes nothing.
use Rattle.std.specs.Prelude.{Bool, true, false, not, ◌&&◌, List, [], ◌∷◌}
use Rattle.lemmas.specs.Lists.{all, any}

-- the same elements in the same order
abbrev pub same_list : {A : Type 0} → (A → A → Bool) → List A → List A → Bool
same_list same [] [] = true
same_list same [] (b ∷ k) = false
same_list same (a ∷ l) [] = false
same_list same (a ∷ l) (b ∷ k) = same a b && same_list same l k

-- every element of the first list is one of the second
abbrev pub within : {A : Type 0} → (A → A → Bool) → List A → List A → Bool
within same l k = all (λ a. any (same a) k) l

-- no element of the first list is one of the second
abbrev pub apart : {A : Type 0} → (A → A → Bool) → List A → List A → Bool
apart same l k = all (λ a. not (any (same a) k)) l

-- no element stands twice
abbrev pub distinct : {A : Type 0} → (A → A → Bool) → List A → Bool
distinct same [] = true
distinct same (a ∷ l) = not (any (same a) l) && distinct same l
