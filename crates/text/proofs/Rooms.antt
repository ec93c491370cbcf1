-- How long numbers and bytes are when spelt; bytes put one after the other, with a bound on how many they are.
-- Assumes nothing.
use mathlib.Core.Path.{◌≡◌, refl, sym}
use mathlib.Core.List.{List, [], ◌∷◌, ◌++◌}
use Prim.Native.Nat.{ℕ, ◌+◌, ◌*◌, ◌^◌, ◌≤◌, ◌<◌}
use native.Mathlib.Omega.{arith}
use borrow.Author.Tests.{ne_eqb}
use lib.ListN.{length, take}
use lib.Seq.{length-take-le}
use Rattle.text.specs.Spelling.{decimal, hex_pair, hex_of}
use Rattle.text.specs.Putting.{Put, PutWithin}
use Rattle.text.proofs.Puts.{put_then, put_length, put_front}
use Rattle.text.proofs.Spells.{spelt_length, hex_some, hex_none}
use Rattle.text.proofs.Decimals.{decimal_length}

-- a number that fits a `usize` has at most 20 digits
pub usize_digits : (n : ℕ) → n < 2 ^ 64 → length (decimal n) ≤ 20
usize_digits n h = decimal_length 19 n (omega arith)

pub hex_length : (l : List ℕ) → length (hex_of l) ≤ 2 * length l + 1
hex_length [] = rw (hex_none [] refl) (omega arith)
hex_length (b ∷ l) = rw (hex_some (b ∷ l) (sym (ne_eqb _ _ (λ e. omega arith)))) (omega (arith, spelt_length hex_pair 2 (λ b. refl) (b ∷ l)))

pub room_of : {old bytes new : List ℕ} {at next : ℕ} (most : ℕ) → Put old at bytes new next → length bytes ≤ most →
    PutWithin most old at bytes new next
room_of most p few = record { puts = p; short = omega (arith, p.after) }

pub room_then : {most more : ℕ} {old mid new a b : List ℕ} {at next last : ℕ} →
    PutWithin most old at a mid next → PutWithin more mid next b new last → PutWithin (most + more) old at (a ++ b) new last
room_then p q = record { puts = put_then p.puts q.puts; short = omega (arith, p.short, q.short) }

pub room_within : {most : ℕ} (more : ℕ) {old bytes new : List ℕ} {at next : ℕ} → most ≤ more → PutWithin most old at bytes new next →
    PutWithin more old at bytes new next
room_within more h p = record { puts = p.puts; short = omega (arith, p.short) }

pub room_length : {most : ℕ} {old bytes new : List ℕ} {at next : ℕ} → PutWithin most old at bytes new next → length new ≡ length old
room_length p = put_length p.puts

-- the whole of what is put at the start
pub room_front : {most : ℕ} {old bytes new : List ℕ} {next : ℕ} → most ≤ length old → PutWithin most old 0 bytes new next →
    (next ≤ length new) × (next ≡ length (take next new)) × (take next new ≡ bytes)
room_front {most} {old} {bytes} {new} {next} h p =
    let fits : next ≤ length new = omega (arith, p.short, room_length p) in
    (fits, sym (length-take-le next new fits), put_front (omega (arith, p.short, p.puts.after)) p.puts)
