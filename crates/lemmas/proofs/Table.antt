-- Tables of what a function gives at the numbers below n. One equation between two tables, which antt computes whole, says
-- that the two functions agree at each of these numbers.
-- Assumes nothing.
use mathlib.Core.Path.{◌≡◌, ◌∙◌, ap, sym}
use mathlib.Core.List.{List, map}
use Prim.Native.Nat.{ℕ, ◌<◌}
use lib.ListN.{get_or}
use Rattle.lemmas.specs.Lists.{upto}
use Rattle.lemmas.proofs.Members.{get_or_upto}

pub table_agree : {A : Type 0} (f g : ℕ → A) (n : ℕ) → map f (upto n) ≡ map g (upto n) → (k : ℕ) → k < n → f k ≡ g k
table_agree {A} f g n e k h =
    sym (get_or_upto f n k (f k) h) ∙ ap (λ (l : List A). get_or l k (f k)) e ∙ get_or_upto g n k (f k) h
