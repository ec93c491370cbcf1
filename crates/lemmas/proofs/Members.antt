-- Membership: what `all` and `any` say of the members of a list; the members of `map` and of `upto`.
-- Assumes nothing.
use mathlib.Core.Path.{◌≡◌, refl, ap, sym, ◌∙◌}
use mathlib.Core.Logic.{◌⊎◌, inl, inr}
use mathlib.Core.Bool.{Bool}
use mathlib.Core.List.{List, [], ◌∷◌, map, Memᴰ}
use Prim.Native.Nat.{ℕ, zero, suc, ◌+◌, ◌≤◌, ◌<◌}
use native.Mathlib.Nat.{add-zero, add-suc, suc-add, zero-add, le_of_suc-le-suc}
use native.Mathlib.Decide.{ℕ_discrete}
use native.Mathlib.Omega.{arith}
use lib.Dec.{T}
use lib.ListN.{length, get_or}
use Rattle.lemmas.specs.Lists.{all, any, up_from, upto}
use Rattle.lemmas.proofs.Tests.{both_left, both_right, both_of, or_cases, or_left, or_right}

-- every member passes a test that `all` passes
pub all_member : {A : Type 0} (p : A → Bool) {a : A} {l : List A} → T (all p l) → Memᴰ a l → T (p a)
all_member p t (Memᴰ.head {x = x} {xs = xs} e) = rw e (both_left (p x) (all p xs) t)
all_member p t (Memᴰ.tail {x = x} {xs = xs} m) = all_member p (both_right (p x) (all p xs) t) m

pub all_of : {A : Type 0} (p : A → Bool) (l : List A) → ((a : A) → Memᴰ a l → T (p a)) → T (all p l)
all_of p [] h = tt
all_of p (x ∷ xs) h =
    both_of (p x) (all p xs) (h x (Memᴰ.head refl)) (all_of p xs (λ a m. h a (Memᴰ.tail m)))

-- a member that passes
pub any_member : {A : Type 0} (p : A → Bool) (l : List A) → T (any p l) → (a : A) × Memᴰ a l × T (p a)
any_member p [] t = absurd t
any_member p (x ∷ xs) t = go (or_cases (p x) (any p xs) t) (any_member p xs)
  where
    go : T (p x) ⊎ T (any p xs) → (T (any p xs) → (a : _) × Memᴰ a xs × T (p a)) → (a : _) × Memᴰ a (x ∷ xs) × T (p a)
    go (inl u) rest = (x, Memᴰ.head refl, u)
    go (inr u) rest = let r = rest u in (r.0, Memᴰ.tail r.1, r.2)

pub any_of : {A : Type 0} (p : A → Bool) {a : A} {l : List A} → Memᴰ a l → T (p a) → T (any p l)
any_of p (Memᴰ.head {x = x} {xs = xs} e) t = or_left (p x) (any p xs) (rw e at t)
any_of p (Memᴰ.tail {x = x} {xs = xs} m) t = or_right (p x) (any p xs) (any_of p m t)

pub map_member : {A B : Type 0} (f : A → B) {a : A} {l : List A} → Memᴰ a l → Memᴰ (f a) (map f l)
map_member f (Memᴰ.head e) = Memᴰ.head (ap f e)
map_member f (Memᴰ.tail m) = Memᴰ.tail (map_member f m)

-- a member of `map f l` is `f` of a member of l
pub member_map : {A B : Type 0} (f : A → B) {b : B} (l : List A) → Memᴰ b (map f l) → (a : A) × Memᴰ a l × (b ≡ f a)
member_map f [] m = elim m [ ]
member_map f (x ∷ xs) (Memᴰ.head e) = (x, Memᴰ.head refl, e)
member_map f (x ∷ xs) (Memᴰ.tail m) = let r = member_map f xs m in (r.0, Memᴰ.tail r.1, r.2)

up_from_member : (i n k : ℕ) → i ≤ k → k < i + n → Memᴰ k (up_from i n)
up_from_member i zero k h t = absurd (omega arith)
up_from_member i (suc n) k h t = go (ℕ_discrete k i) (up_from_member (suc i) n k)
  where
    go : Dec (k ≡ i) → (suc i ≤ k → k < suc i + n → Memᴰ k (up_from (suc i) n)) → Memᴰ k (up_from i (suc n))
    go (yes e) rest = Memᴰ.head e
    go (no e) rest = Memᴰ.tail (rest (omega arith) (omega arith))

pub upto_member : {k n : ℕ} → k < n → Memᴰ k (upto n)
upto_member {k} {n} h = up_from_member 0 n k (omega arith) (omega arith)

member_up_from : (i n : ℕ) {k : ℕ} → Memᴰ k (up_from i n) → (i ≤ k) × (k < i + n)
member_up_from i zero m = elim m [ ]
member_up_from i (suc n) (Memᴰ.head e) = omega arith
member_up_from i (suc n) (Memᴰ.tail m) = let r = member_up_from (suc i) n m in omega arith

pub member_upto : (n : ℕ) {k : ℕ} → Memᴰ k (upto n) → k < n
member_upto n m = let r = member_up_from 0 n m in omega arith

length_up_from : (i n : ℕ) → length (up_from i n) ≡ n
length_up_from i zero = refl
length_up_from i (suc n) = ap suc (length_up_from (suc i) n)

pub length_upto : (n : ℕ) → length (upto n) ≡ n
length_upto n = length_up_from 0 n

get_or_up_from : {A : Type 0} (f : ℕ → A) (i n k : ℕ) (d : A) → k < n → get_or (map f (up_from i n)) k d ≡ f (i + k)
get_or_up_from f i zero k d h = absurd (omega arith)
get_or_up_from f i (suc n) zero d h = rw add-zero
get_or_up_from f i (suc n) (suc k) d h =
    get_or_up_from f (suc i) n k d (le_of_suc-le-suc h) ∙ ap f (suc-add i k ∙ sym (add-suc i k))

-- what a function of the numbers below n gives at k
pub get_or_upto : {A : Type 0} (f : ℕ → A) (n k : ℕ) (d : A) → k < n → get_or (map f (upto n)) k d ≡ f k
get_or_upto f n k d h = get_or_up_from f 0 n k d h ∙ ap f (zero-add k)
