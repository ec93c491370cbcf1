-- What an operation says, in words; the bytes of a buffer; and what is wrong with a line.
-- Assumes nothing.
use Rattle.std.specs.Prelude.{cond, List, ◌++◌, ℕ, eqb}
use Rattle.spec.specs.Refusals.{Said, refused, answered}
use Rattle.text.specs.Spelling.{ascii, hex_of}
use Rattle.refusals.specs.declared.Numbers.{Numbers}
use Rattle.refusals.specs.Telling.{refused_words, refusal_in}

-- with `own` for the words of the operation's own kind of answer
abbrev pub words_of : {A : Type 0} → (own : A → List ℕ) → Said A → List ℕ
words_of own (refused why) = refused_words why
words_of own (answered answer) = own answer

-- the same by its numbers: the first is 1 for a refusal alone; for anything else the words are given
abbrev pub numbers_words : Numbers → (done : List ℕ) → List ℕ
numbers_words n done = cond (eqb n.code 1) (refused_words (refusal_in n)) done

-- a space, and the bytes of a buffer
abbrev pub spaced : List ℕ → List ℕ
spaced out = ascii " " ++ hex_of out

abbrev pub error_for : (reason : List ℕ) → List ℕ
error_for reason = ascii "error " ++ reason
