-- Every kind is in the list of kinds, and every place in that of places, so that what holds for all of them is one test computed
-- over the list.
-- Assumes nothing.
use mathlib.Core.Path.{refl}
use mathlib.Core.Bool.{Bool}
use mathlib.Core.List.{List, [], ◌∷◌, Memᴰ}
use lib.Dec.{T}
use Rattle.lemmas.specs.Lists.{all}
use Rattle.lemmas.proofs.Members.{all_member}
use Rattle.spec.specs.Kinds.{Kind, EQU, NOT, AND, OR, other, kinds, Place, X, Y, Z}

-- a new kind is one line here, and no other case
pub kind_listed : (k : Kind) → Memᴰ k kinds
kind_listed other = Memᴰ.head refl
kind_listed EQU = Memᴰ.tail (Memᴰ.head refl)
kind_listed NOT = Memᴰ.tail (Memᴰ.tail (Memᴰ.head refl))
kind_listed AND = Memᴰ.tail (Memᴰ.tail (Memᴰ.tail (Memᴰ.head refl)))
kind_listed OR = Memᴰ.tail (Memᴰ.tail (Memᴰ.tail (Memᴰ.tail (Memᴰ.head refl))))

pub kind_all : (p : Kind → Bool) → T (all p kinds) → (k : Kind) → T (p k)
kind_all p t k = all_member p t (kind_listed k)

abbrev pub places : List Place
places = X ∷ Y ∷ Z ∷ []

pub place_listed : (p : Place) → Memᴰ p places
place_listed X = Memᴰ.head refl
place_listed Y = Memᴰ.tail (Memᴰ.head refl)
place_listed Z = Memᴰ.tail (Memᴰ.tail (Memᴰ.head refl))
