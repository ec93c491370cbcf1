-- Which fields are right, by their length and their characters; and a loop that decodes one, two characters a turn.
-- Assumes nothing.
use mathlib.Core.Path.{◌≡◌, refl, sym, ◌∙◌, ap}
use mathlib.Core.Bool.{Bool, true, false, ◌&&◌, ◌||◌}
use mathlib.Core.List.{List, [], ◌∷◌, ◌++◌}
use Prim.Native.Nat.{ℕ, ◌+◌, ◌*◌, ◌%◌, ◌≤◌, ◌<◌}
use native.Mathlib.Omega.{arith}
use native.Mathlib.Numerals.{add-one}
use lib.Dec.{T, eqb}
use lib.ListN.{length, get_or, set, length-set}
use lib.Seq.{sets}
use borrow.Author.Tests.{ne_eqb, ltb-true}
use Rattle.lemmas.specs.Lists.{all}
use Rattle.lemmas.proofs.Tests.{T_true, true_T, both_left, both_right}
use Rattle.text.specs.Putting.{Put}
use Rattle.fields.specs.Fields.{digit_of, is_digit, paired_up, is_field, bytes_in, is}

pub field_none : (f : List ℕ) → length f ≡ 0 → is_field f ≡ false
unfolding is_field is paired_up
field_none [] e = refl
field_none (a ∷ f) e = absurd (omega arith)

pub field_single : (f : List ℕ) → length f ≡ 1 → is_field f ≡ eqb (get_or f 0 0) 46
unfolding is_field is paired_up
field_single [] e = absurd (omega arith)
field_single (a ∷ []) e = at (eqb a 46)
  where
    at : (b : Bool) → ((b && true) || false) ≡ b
    at true = refl
    at false = refl
field_single (a ∷ b ∷ f) e = absurd (omega arith)

and_false : (b : Bool) → (b && false) ≡ false
and_false true = refl
and_false false = refl

no_dot : (f : List ℕ) → 2 ≤ length f → is f "." ≡ false
unfolding is
no_dot [] h = absurd (omega arith)
no_dot (a ∷ []) h = absurd (omega arith)
no_dot (a ∷ b ∷ f) h = and_false (eqb a 46)

pub field_pairs : (f : List ℕ) → 2 ≤ length f → is_field f ≡ (eqb (length f % 2) 0 && all is_digit f)
unfolding is_field paired_up
field_pairs f more = rw (no_dot f more, ne_eqb (length f) 0 (λ e. omega arith))

pub field_digits : (f : List ℕ) → 2 ≤ length f → is_field f ≡ true → all is_digit f ≡ true
field_digits f more right =
    true_T _ (both_right (eqb (length f % 2) 0) (all is_digit f) (T_true (sym (field_pairs f more) ∙ right)))

-- at most one character gives no byte
bytes_short : (l : List ℕ) → length l ≤ 1 → bytes_in l ≡ []
bytes_short [] h = refl
bytes_short (a ∷ []) h = refl
bytes_short (a ∷ b ∷ l) h = absurd (omega arith)

-- of the field, the characters of `rest` are left: what they put at `next` makes the whole
pub record Decoding (f old : List ℕ) (at : ℕ) (new : List ℕ) (next : ℕ) (rest : List ℕ) : Type 0 where
  pub digits : 2 ≤ length rest → all is_digit rest ≡ true
  pub below : 2 * next + length rest ≤ 2 * at + length f
  pub size : length new ≡ length old
  pub puts : sets old at (bytes_in f) ≡ sets new next (bytes_in rest)
  pub count : at + length (bytes_in f) ≡ next + length (bytes_in rest)

module _ {f old : List ℕ} {at : ℕ} where
  pub decoding_start : is_field f ≡ true → Decoding f old at old at f
  decoding_start right =
      record { digits = λ more. field_digits f more right; below = omega arith; size = refl; puts = refl; count = refl }

  module _ {new : List ℕ} {next : ℕ} {rest : List ℕ} (d : Decoding f old at new next rest) where
    pub decoding_all : length rest < 2 → Put old at (bytes_in f) new next
    decoding_all few =
        let none : bytes_in rest ≡ [] = bytes_short rest (omega arith) in
        record { stored = sym (d.puts ∙ rw none); after = omega (arith, rw none at d.count) }

    -- the next two characters
    module _ (pair more : List ℕ) (cut : rest ≡ pair ++ more) (two : length pair ≡ 2) where
      characters : (p : List ℕ) → length p ≡ 2 → p ++ more ≡ get_or p 0 0 ∷ get_or p 1 0 ∷ more
      characters [] e = absurd (omega arith)
      characters (a ∷ []) e = absurd (omega arith)
      characters (a ∷ b ∷ []) e = refl
      characters (a ∷ b ∷ c ∷ p) e = absurd (omega arith)

      whole : rest ≡ get_or pair 0 0 ∷ get_or pair 1 0 ∷ more
      whole = cut ∙ characters pair two

      long : length rest ≡ 2 + length more
      long = omega (arith, ap length whole)

      right : T (is_digit (get_or pair 0 0) && (is_digit (get_or pair 1 0) && all is_digit more))
      right = T_true (ap (all is_digit) (sym whole) ∙ d.digits (omega (arith, long)))

      rest_right : T (is_digit (get_or pair 1 0) && all is_digit more)
      rest_right = both_right (is_digit (get_or pair 0 0)) (is_digit (get_or pair 1 0) && all is_digit more) right

      pub pair_digits : (digit_of (get_or pair 0 0) < 16) × (digit_of (get_or pair 1 0) < 16)
      unfolding is_digit
      pair_digits = (
        ltb-true _ _ (true_T _ (both_left (is_digit (get_or pair 0 0)) (is_digit (get_or pair 1 0) && all is_digit more) right)),
        ltb-true _ _ (true_T _ (both_left (is_digit (get_or pair 1 0)) (all is_digit more) rest_right)),
      )

      pub decoding_next : Decoding f old at (set new next (16 * digit_of (get_or pair 0 0) + digit_of (get_or pair 1 0))) (next + 1) more
      decoding_next =
          record {
            digits = λ _. true_T _ (both_right (is_digit (get_or pair 1 0)) (all is_digit more) rest_right);
            below = omega (arith, d.below, long);
            size = length-set new next _ ∙ d.size;
            puts = d.puts ∙ rw (whole, add-one next);
            count = omega (arith, rw whole at d.count);
          }
