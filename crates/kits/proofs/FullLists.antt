-- `full_lists n` writes down the full lists of n boxes, in order.
-- Assumes nothing.
use mathlib.Core.Path.{◌≡◌, refl, sym, ap}
use mathlib.Core.Logic.{⊎_elim}
use mathlib.Core.Bool.{true}
use mathlib.Core.List.Memᴰ
use mathlib.Core.List.{List, [], ◌∷◌, map, Memᴰ}
use Prim.Native.Nat.{ℕ, zero, suc, ◌≤◌, ◌<◌, zero-le, suc-le-suc}
use native.Mathlib.Nat.{suc_inj, suc-ne-zero, not-suc-le-zero, le_of_suc-le-suc}
use native.Mathlib.Omega.{arith}
use borrow.Author.Tests.{le-ltb, eq-eqb}
use lib.ListN.{get_or}
use Rattle.lemmas.specs.Ascends.{Ascends}
use Rattle.lemmas.proofs.Members.{map_member, member_map}
use Rattle.lemmas.proofs.Ascending.{ascends_map, ascends_append}
use Rattle.spec.specs.Kits.{full_lists, before}
use Rattle.kits.specs.Kit.{IsFull}
use Rattle.kits.proofs.Answers.{InOrder}

-- one box more, at the front
abbrev with : ℕ → List ℕ → List ℕ
with a l = a ∷ l

full_cons : {n : ℕ} {a : ℕ} {l : List ℕ} → a ≤ 1 → IsFull n l → IsFull (suc n) (a ∷ l)
full_cons {n} {a} {l} small h = record { boxes = ap suc h.boxes; bits = at }
  where
    at : (b : ℕ) → b < suc n → get_or (a ∷ l) b 2 ≤ 1
    at zero i = small
    at (suc b) i = h.bits b (le_of_suc-le-suc i)

full_tail : {n : ℕ} {a : ℕ} {l : List ℕ} → IsFull (suc n) (a ∷ l) → IsFull n l
full_tail h = record { boxes = suc_inj h.boxes; bits = λ b i. h.bits (suc b) (suc-le-suc i) }

-- the full lists of n boxes, each with this box more
cons_full : (n a : ℕ) → a ≤ 1 → ((k : List ℕ) → Memᴰ k (full_lists n) → IsFull n k) →
    (l : List ℕ) → Memᴰ l (map (with a) (full_lists n)) → IsFull (suc n) l
cons_full n a small rest l m =
    let r = member_map (with a) (full_lists n) m in rw r.2 (full_cons small (rest r.0 r.1))

listed_full : (n : ℕ) (l : List ℕ) → Memᴰ l (full_lists n) → IsFull n l
listed_full zero l m =
    rw (Memᴰ.eq_of_singleton m) (record { boxes = refl; bits = λ b i. absurd (not-suc-le-zero i) })
listed_full (suc n) l m =
    ⊎_elim
    (cons_full n 0 (omega arith) (listed_full n) l)
    (cons_full n 1 (omega arith) (listed_full n) l)
    (Memᴰ.append_cases (map (with 0) (full_lists n)) m)

full_listed : (n : ℕ) (l : List ℕ) → IsFull n l → Memᴰ l (full_lists n)
full_listed zero [] h = Memᴰ.head refl
full_listed zero (a ∷ l) h = absurd (suc-ne-zero _ h.boxes)
full_listed (suc n) [] h = absurd (suc-ne-zero _ (sym h.boxes))
full_listed (suc n) (zero ∷ l) h =
    Memᴰ.append_left (map (with 1) (full_lists n)) (map_member (with 0) (full_listed n l (full_tail h)))
full_listed (suc n) (suc zero ∷ l) h =
    Memᴰ.append_right (map (with 0) (full_lists n)) (map_member (with 1) (full_listed n l (full_tail h)))
full_listed (suc n) (suc (suc a) ∷ l) h = absurd (omega (arith, h.bits 0 (suc-le-suc zero-le)))

-- out before in, whatever follows
out_first : (ls : List (List ℕ)) (l k : List ℕ) → Memᴰ l (map (with 0) ls) → Memᴰ k (map (with 1) ls) → before l k ≡ true
out_first ls l k m o =
    let r = member_map (with 0) ls m in
    let s = member_map (with 1) ls o in
    rw (r.2, s.2)

cons_ascends : (a : ℕ) (ls : List (List ℕ)) → Ascends before ls → Ascends before (map (with a) ls)
cons_ascends a = ascends_map (with a) before before (λ l k e. rw (le-ltb a a (omega arith), eq-eqb a a refl) e)

full_ascends : (n : ℕ) → Ascends before (full_lists n)
full_ascends zero = (λ c m. elim m [ ], tt)
full_ascends (suc n) =
    ascends_append before (map (with 0) (full_lists n)) (map (with 1) (full_lists n))
    (cons_ascends 0 (full_lists n) (full_ascends n))
    (cons_ascends 1 (full_lists n) (full_ascends n))
    (out_first (full_lists n))

pub full_in_order : (n : ℕ) → InOrder (IsFull n) (full_lists n)
full_in_order n = record { ascends = full_ascends n; exactly = λ l. (listed_full n l, full_listed n l) }
