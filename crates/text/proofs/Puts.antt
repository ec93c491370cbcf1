-- Bytes put one after the other are put as one.
-- Assumes nothing.
use mathlib.Core.Path.{◌≡◌, refl, sym, ap, ◌∙◌}
use mathlib.Core.List.{List, [], ◌∷◌, ◌++◌}
use Prim.Native.Nat.{ℕ, suc, ◌+◌, ◌≤◌}
use native.Mathlib.Omega.{arith}
use native.Mathlib.Nat.{add-zero, add-suc, suc-add}
use lib.ListN.{length, take, drop, set, length-append}
use lib.Seq.{sets, sets-eq, length-sets, take_at, length-take-le}
use Rattle.text.specs.Putting.{Put}

sets_append : (a b l : List ℕ) (i : ℕ) → sets l i (a ++ b) ≡ sets (sets l i a) (i + length a) b
sets_append [] b l i = rw add-zero
sets_append (x ∷ a) b l i =
    sets_append a b (set l i x) (suc i)
    ∙ ap (λ (k : ℕ). sets (sets (set l i x) (suc i) a) k b) (suc-add i (length a) ∙ sym (add-suc i (length a)))

pub put_none : {old : List ℕ} {at : ℕ} → Put old at [] old at
put_none = record { stored = refl; after = omega arith }

pub put_then : {old mid new a b : List ℕ} {at next last : ℕ} → Put old at a mid next → Put mid next b new last → Put old at (a ++ b) new last
put_then {old} {a} {b} {at} p q =
    record {
      stored = q.stored ∙ rw (p.stored, p.after) (sym (sets_append a b old at));
      after = omega (arith, p.after, q.after, length-append a b);
    }

-- no byte is added or lost
pub put_length : {old bytes new : List ℕ} {at next : ℕ} → Put old at bytes new next → length new ≡ length old
put_length {old} {bytes} {at} p = ap length p.stored ∙ length-sets old at bytes

-- what stands before the next place: what stood before the bytes, and the bytes
pub put_front : {old bytes new : List ℕ} {at next : ℕ} → at + length bytes ≤ length old → Put old at bytes new next →
    take next new ≡ take at old ++ bytes
put_front {old} {bytes} {at} h p =
    rw (p.stored, p.after, sets-eq bytes old at h)
    (take_at (take at old ++ bytes) (drop (at + length bytes) old) (at + length bytes)
    (length-append (take at old) bytes ∙ ap (λ (m : ℕ). m + length bytes) (length-take-le at old (omega arith))))
