-- A loop that puts the elements of a list one by one, each spelt by itself.
-- Assumes nothing.
use mathlib.Core.Path.{◌≡◌, refl, sym, ap, ◌∙◌}
use mathlib.Core.Bool.{true, false}
use mathlib.Core.List.{List, [], ◌∷◌, ◌++◌, append_assoc, append-nil}
use Prim.Native.Nat.{ℕ, ◌+◌, ◌*◌, ◌≤◌, ◌<◌}
use native.Mathlib.Omega.{arith}
use native.Mathlib.Nat.{mul-suc, mul-zero}
use native.Mathlib.Numerals.{add-one}
use lib.Dec.{eqb}
use borrow.Author.Tests.{eqb-true}
use lib.ListN.{length, take, get_or, length-append}
use lib.Seq.{take-suc, take_all, length-take-le}
use Rattle.text.specs.Spelling.{spelt, hex_pair, hex_of}
use Rattle.text.specs.Putting.{Put}
use Rattle.text.proofs.Puts.{put_none, put_then}

spelt_append : {A : Type 0} (spell : A → List ℕ) (l k : List A) → spelt spell (l ++ k) ≡ spelt spell l ++ spelt spell k
spelt_append spell [] k = refl
spelt_append spell (b ∷ l) k =
    ap (λ (x : List ℕ). spell b ++ x) (spelt_append spell l k) ∙ sym (append_assoc (spell b) (spelt spell l) (spelt spell k))

-- each byte as it is
abbrev pub byte : ℕ → List ℕ
byte b = b ∷ []

pub spelt_bytes : (l : List ℕ) → spelt byte l ≡ l
spelt_bytes [] = refl
spelt_bytes (b ∷ l) = ap (λ (x : List ℕ). b ∷ x) (spelt_bytes l)

pub spelt_length : {A : Type 0} (spell : A → List ℕ) (width : ℕ) → ((a : A) → length (spell a) ≡ width) → (l : List A) →
    length (spelt spell l) ≡ width * length l
spelt_length spell width e [] = sym (mul-zero width)
spelt_length spell width e (b ∷ l) =
    length-append (spell b) (spelt spell l)
    ∙ rw (e b, spelt_length spell width e l, mul-suc) (omega arith)

-- the first i elements of src are put
pub record Spelling {A : Type 0} (spell : A → List ℕ) (src : List A) (old : List ℕ) (at : ℕ) (new : List ℕ) (next i : ℕ) : Type 0 where
  pub within : i ≤ length src
  pub puts : Put old at (spelt spell (take i src)) new next

module _ {A : Type 0} {spell : A → List ℕ} {src : List A} {old : List ℕ} {at : ℕ} where
  pub spelling_start : Spelling spell src old at old at 0
  spelling_start = record { within = omega arith; puts = put_none }

  -- d is what is read past the end
  pub spelling_next : {mid new : List ℕ} {next last i : ℕ} (d : A) → Spelling spell src old at mid next i → i < length src →
      Put mid next (spell (get_or src i d)) new last → Spelling spell src old at new last (i + 1)
  spelling_next {i} d s l p =
      record {
        within = omega arith;
        puts = rw (add-one, take-suc src i d l, spelt_append, append-nil) (put_then s.puts p);
      }

  pub spelling_all : {new : List ℕ} {next i : ℕ} → Spelling spell src old at new next i → length src ≤ i →
      Put old at (spelt spell src) new next
  spelling_all {i} s l = rw take_all at s.puts

  -- the next place, where all are of one width
  pub spelling_place : (width : ℕ) → ((a : A) → length (spell a) ≡ width) → {new : List ℕ} {next i : ℕ} →
      Spelling spell src old at new next i → next ≡ at + width * i
  spelling_place width e {i} s = s.puts.after ∙ rw (spelt_length spell width e, length-take-le i src s.within)

-- some bytes, in hexadecimal
pub hex_some : (l : List ℕ) → false ≡ eqb (length l) 0 → hex_of l ≡ spelt hex_pair l
unfolding hex_of
hex_some [] e = cc
hex_some (b ∷ l) e = refl

pub hex_none : (l : List ℕ) → true ≡ eqb (length l) 0 → hex_of l ≡ 46 ∷ []
unfolding hex_of
hex_none [] e = refl
hex_none (b ∷ l) e = absurd (omega (arith, eqb-true _ _ (sym e)))
