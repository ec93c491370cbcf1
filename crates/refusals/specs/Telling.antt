-- How a refusal, and any answer, is told: a refusal by the paper's number and place; an answer as three numbers; a refusal in
-- words. The three numbers are 0 where the operation has done what it was asked, 1 where it is refused, 2 where a record is broken; then
-- the values, and 0 where there is none. No proof says how many they are: it goes by `in_order` and `numbers_from`.
-- Assumes nothing.
use Rattle.std.specs.Prelude.{List, [], ◌∷◌, ◌++◌, ℕ, get_or, Result, Ok, Err}
use Rattle.spec.specs.Refusals.{Refusal as Numbered, reason, number_of, place_of, Said, refused, answered}
use Rattle.text.specs.Spelling.{field}
use Rattle.refusals.specs.declared.Numbers.{Numbers}
use Rattle.refusals.specs.declared.Refusal.{Refusal}
use Rattle.refusals.specs.declared.Refusal.TheVariants.{BoxCount, MakerLength, DepotLength, RecordCount}
use Rattle.refusals.specs.declared.Refusal.TheVariants.{BadRecord, SheetByte, GivenLength, OutLength, ListByte}
use Rattle.refusals.specs.declared.Refusal.TheVariants.{Clash, Broken, NoList, LinesLength, WrongLine}

-- the paper's number and place for every case
abbrev pub refusal_of : Refusal → Numbered
refusal_of BoxCount = reason 1 0
refusal_of MakerLength = reason 2 0
refusal_of DepotLength = reason 2 1
refusal_of RecordCount = reason 2 2
refusal_of (BadRecord number) = reason 3 number
refusal_of (SheetByte box) = reason 4 box
refusal_of GivenLength = reason 5 0
refusal_of OutLength = reason 5 1
refusal_of (ListByte box) = reason 6 box
refusal_of Clash = reason 7 0
refusal_of (Broken number) = reason 8 number
refusal_of NoList = reason 9 0
refusal_of LinesLength = reason 10 0
refusal_of (WrongLine line) = reason 11 line

-- what an operation's answer says, with `own` for what is said of its own kind of answer
abbrev pub said : {A B : Type 0} → (own : A → B) → Result A Refusal → Said B
said own (Ok answer) = answered (own answer)
said own (Err why) = refused (refusal_of why)

-- a refusal as three numbers, and in words
abbrev pub refused_numbers : Numbered → List ℕ
refused_numbers why = 1 ∷ number_of why ∷ place_of why ∷ []

abbrev pub refused_words : Numbered → List ℕ
refused_words why = field "refused " (number_of why) ++ field " " (place_of why)

-- the bytes that those words take at most
abbrev pub refusal_room : ℕ
refusal_room = 50

-- done, with a count
abbrev pub done_with : ℕ → List ℕ
done_with count = 0 ∷ count ∷ 0 ∷ []

-- a record is broken
abbrev pub broken_at : ℕ → List ℕ
broken_at number = 2 ∷ number ∷ 0 ∷ []

-- what an operation says, with `own` for the numbers of its own kind of answer
abbrev pub numbers_of : {A : Type 0} → (own : A → List ℕ) → Said A → List ℕ
numbers_of own (refused why) = refused_numbers why
numbers_of own (answered answer) = own answer

-- the three numbers of the code, in their order; had back from it; and the refusal that they tell
abbrev pub in_order : Numbers → List ℕ
in_order n = n.code ∷ n.first ∷ n.second ∷ []

abbrev pub numbers_from : List ℕ → Numbers
numbers_from l = record { code = get_or l 0 0; first = get_or l 1 0; second = get_or l 2 0 }

abbrev pub refusal_in : Numbers → Numbered
refusal_in n = reason n.first n.second
