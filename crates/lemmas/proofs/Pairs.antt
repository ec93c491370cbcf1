-- The members of `pairs`.
-- Assumes nothing.
use mathlib.Core.Path.{ap}
use mathlib.Core.List.Memᴰ
use mathlib.Core.List.{List, map, Memᴰ}
use Rattle.lemmas.specs.Pairs.{pairs}
use Rattle.lemmas.proofs.Members.{map_member}

pub pairs_of : {A B C : Type 0} (f : A → B → C) {a : A} {b : B} {l : List A} {k : List B} → Memᴰ a l → Memᴰ b k
    → Memᴰ (f a b) (pairs f l k)
pairs_of f {b} {k} (Memᴰ.head {x = x} {xs = xs} e) n =
    Memᴰ.append_left (pairs f xs k) (Memᴰ.cast (ap (λ c. f c b) e) (map_member (f x) n))
pairs_of f {k} (Memᴰ.tail {x = x} m) n = Memᴰ.append_right (map (f x) k) (pairs_of f m n)
