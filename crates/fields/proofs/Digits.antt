-- The value of a digit, as the code finds it.
-- Assumes nothing.
use mathlib.Core.Path.{◌≡◌, refl}
use mathlib.Core.Bool.{Bool, true, false, cond}
use Prim.Native.Nat.{ℕ, ◌+◌, ◌-◌, ◌<◌}
use lib.Dec.{ltb}
use borrow.Author.Tests.{lt-ltb}
use Rattle.std.proofs.Common.{Option, Some, None}
use Rattle.std.specs.Option.{is_some, IsSome}
use Rattle.lemmas.specs.Lowest.{lowest}
use Rattle.lemmas.proofs.Table.{table_agree}
use Rattle.fields.specs.Fields.{digit_of, is_digit, digit_in}

abbrev pub ranged : ℕ → Option ℕ
ranged c =
    cond (ltb c 48) None (cond (ltb c 58) (Some (c - 48)) (cond (ltb c 97) None (cond (ltb c 103) (Some (c - 97 + 10)) None)))

pub digit_ranged : (c : ℕ) → c < 256 → digit_in c ≡ ranged c
unfolding digit_in is_digit digit_of lowest
digit_ranged = table_agree digit_in ranged 256 refl

pub digit_some : (c : ℕ) → is_some (digit_in c) ≡ is_digit c
unfolding digit_in
digit_some c = at (is_digit c)
  where
    at : (b : Bool) → is_some (cond b (Some (digit_of c)) None) ≡ b
    at true = refl
    at false = refl

digit_value : (c : ℕ) → digit_of c < 16 → digit_in c ≡ Some (digit_of c)
unfolding digit_in is_digit
digit_value c h = rw (lt-ltb _ _ h)

-- a digit's value unwrapped
module _ {r : Option ℕ} (c : ℕ) (e : r ≡ digit_in c) (h : digit_of c < 16) where
  pub digit_is_some : IsSome r
  digit_is_some = rw (e, digit_value c h)

  pub digit_unwrapped : {v : ℕ} → r ≡ Some v → v ≡ digit_of c
  digit_unwrapped f = cc (e, digit_value c h)
